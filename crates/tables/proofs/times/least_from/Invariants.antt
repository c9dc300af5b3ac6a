use mathlib.Core.Path.{◌≡◌}
use Prim.Native.Nat.{min}
use Rattle.words.specs.Places.{each}
use Rattle.words.specs.Words.{has}
use Rattle.tables.specs.Columns.{item_places}
use Rattle.tables.specs.Times.{least_from}
use Rattle.tables.proofs.Least.{from_step}
use Rattle.tables.proofs.times.least_from.Given as goal

abbrev pub invariant-loop-place : goal.invariant-loop-place
invariant-loop-place l =
    let walk = l.place-iterator in
    (walk.end ≡ item_places)
    × (each item_places (has walk.rest) (from_step l.timestamps l.mark) l.least ≡ min l.time (least_from l.timestamps l.places l.mark))
