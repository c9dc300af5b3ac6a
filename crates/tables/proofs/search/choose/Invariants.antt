use mathlib.Core.Bool.{cond, ◌&&◌}
use mathlib.Core.List.{List}
use mathlib.Core.Path.{◌≡◌}
use Prim.Native.Nat.{ℕ}
use lib.Dec.{leb}
use Rattle.std.proofs.Common.{Option}
use Rattle.words.specs.Places.{each}
use Rattle.words.specs.Words.{has}
use Rattle.calls.specs.declared.Which.{Which}
use Rattle.rows.specs.declared.Found.{Found}
use Rattle.rows.specs.Choices.{preferred, taken_before}
use Rattle.tables.specs.Columns.{at, item_places}
use Rattle.tables.specs.Search.{chosen_from, is_wanted}
use Rattle.tables.proofs.search.choose.Given as goal

-- one step of the walk
abbrev pub step : List ℕ → ℕ → Which → ℕ → Option Found → Option Found
step timestamps mark which p found =
    let timestamp = at item_places timestamps p in
    cond (leb mark timestamp && is_wanted which timestamp) (preferred (taken_before which) found p timestamp) found

abbrev pub invariant-loop-place : goal.invariant-loop-place
invariant-loop-place l =
    let walk = l.place-iterator in
    (walk.end ≡ item_places)
    × (each item_places (has walk.rest) (step l.timestamps l.mark l.which) l.found ≡ chosen_from l.timestamps l.places l.mark l.which)
