use mathlib.Core.Path.{◌≡◌}
use Prim.Native.Nat.{min}
use lib.ListN.{length}
use Rattle.words.specs.Words.{has, word_places}
use Rattle.leaving.specs.Leaving.{changed_over, emptied}
use Rattle.leaving.proofs.freed.clear_cells.Given as goal

abbrev pub invariant-loop-place : goal.invariant-loop-place
invariant-loop-place g l =
    let walk = l.place-iterator in
    let free = g.T.Zeroed.zero in
    let places = min (length l.initial.cells) word_places in
    (walk.end ≡ length l.initial.cells)
    × (length l.cells ≡ length l.initial.cells)
    × (changed_over free places (has walk.rest) (λ cell. free) l.cells ≡ emptied free places l.gone l.initial.cells)
