-- What is known of a call that no check refuses: the places that it names lie in their tables, and a desk that is not full has a free place for an
-- item. Assumes nothing.
use mathlib.Core.Path.{◌≡◌}
use mathlib.Core.Bool.{true}
use Prim.Native.Nat.{ℕ, ◌<◌}
pub use Rattle.words.proofs.Laws.{fewer_free}
use Rattle.tables.specs.Columns.{connection_places}
pub use Rattle.tables.proofs.Used.{used_inside}
use Rattle.desk.specs.declared.Desk.{Desk}
use Rattle.desk.specs.Desk.{owns, owned_by}

-- a connection that a thread owns lies in one of the places
pub owned_below : (d : Desk) (thread connection : ℕ) → owns d thread connection ≡ true → connection < connection_places
owned_below d thread connection owned = used_inside (owned_by d thread) owned
