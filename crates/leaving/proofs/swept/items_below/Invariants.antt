use mathlib.Core.Bool.{Bool}
use mathlib.Core.List.{List}
use mathlib.Core.Path.{◌≡◌}
use Prim.Native.Nat.{ℕ}
use lib.Dec.{ltb}
use Rattle.words.specs.Places.{each}
use Rattle.words.specs.Words.{has}
use Rattle.words.proofs.Gathered.{gathered}
use Rattle.tables.specs.Columns.{at, item_places}
use Rattle.leaving.specs.Leaving.{items_below}
use Rattle.leaving.proofs.swept.items_below.Given as goal

-- what the loop tests in a place
unfoldable pub lies_below : List ℕ → ℕ → ℕ → Bool
lies_below timestamps bound place = ltb (at item_places timestamps place) bound

abbrev pub invariant-loop-place : goal.invariant-loop-place
invariant-loop-place l =
    let walk = l.place-iterator in
    (walk.end ≡ item_places)
    × (each item_places (has walk.rest) (gathered (lies_below l.timestamps l.bound)) l.gone ≡ items_below l.timestamps l.present l.bound)
