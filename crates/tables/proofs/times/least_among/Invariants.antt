use mathlib.Core.Path.{◌≡◌}
use Prim.Native.Nat.{min}
use Rattle.words.specs.Places.{each}
use Rattle.words.specs.Words.{has, word_places}
use Rattle.tables.specs.Columns.{at}
use Rattle.tables.specs.Times.{least_among}
use Rattle.tables.proofs.Least.{lowered}
use Rattle.tables.proofs.times.least_among.Given as goal

abbrev pub invariant-loop-place : goal.invariant-loop-place
invariant-loop-place g l =
    let walk = l.place-iterator in
    let places = min g.row.N word_places in
    (walk.end ≡ g.row.N)
    × (each places (has walk.rest) (lowered (at g.row.N l.column)) l.least ≡ min l.time (least_among places l.word (at g.row.N l.column)))
