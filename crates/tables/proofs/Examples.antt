-- Visible time and the strong bound, on one item, by computing the definitions. Assumes nothing.
use mathlib.Core.Path.{◌≡◌, refl}
use mathlib.Core.List.{List, [], ◌∷◌}
use Prim.Native.Nat.{ℕ}
use Rattle.words.specs.Places.{fold_to, each}
use Rattle.words.specs.Words.{has}
use Rattle.rows.specs.declared.Connection.{Connection}
use Rattle.rows.specs.Numbers.{never}
use Rattle.rows.specs.States.{state_of}
use Rattle.tables.specs.Columns.{connection_in, reads}
use Rattle.tables.specs.Seen.{is_open_at, is_pending_at}
use Rattle.tables.specs.Times.{smallest, open_time, pending_time, least_open, least_awaited}

-- item 5 in channel 0, in place 0
abbrev five : List ℕ
five = 5 ∷ []

-- connection 0, the only one: an input connection to channel 0, on which the item in place 0 is OPEN
abbrev opening : ℕ → Connection
opening = connection_in (0 ∷ []) (1 ∷ []) (0 ∷ []) (1 ∷ []) (0 ∷ [])

-- "of all timestamps OPEN on its input connections": 5 counts where the connection is among them
pub open_for_its_reader : (least_open 1 opening five ≡ 5) × (least_open 0 opening five ≡ never)
unfolding fold_to each has state_of reads is_open_at smallest open_time least_open
open_for_its_reader = (refl, refl)

-- "of all timestamps of present items that are UNSEEN or OPEN on some input connection": 5, which is OPEN, counts
pub open_is_awaited : least_awaited 1 opening five ≡ 5
unfolding fold_to each has state_of reads is_pending_at smallest pending_time least_awaited
open_is_awaited = refl
