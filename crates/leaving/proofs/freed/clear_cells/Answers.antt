-- The walk over the places that are freed writes the zero into each. Assumes nothing.
use mathlib.Core.List.{List}
use mathlib.Core.Path.{◌∙◌, ap, refl}
use Prim.Native.Nat.{min, ℕ}
use native.Mathlib.Omega.{arith}
use lib.ListN.{length, length-set, set}
use Rattle.words.specs.declared.PlaceWalk.{PlaceWalk}
use Rattle.words.specs.Words.{word_places}
use Rattle.words.proofs.Walk.{each-done, each_turn}
use Rattle.leaving.specs.Leaving.{changed_over}
use Rattle.leaving.proofs.freed.clear_cells.Goals as goal

pub loop-place-preserved : goal.loop-place-preserved
unfolding changed_over
loop-place-preserved g c =
    let here = c.loop-place in
    let free = g.T.Zeroed.zero in
    let places = min (length c.args.cells.now) word_places in
    let ends = here.invariant.0 in
    let inside = c.in-Some.ensures.steps.1 in (
      ap (λ (w : PlaceWalk). w.end) c.in-Some.ensures.steps.2 ∙ ends,
      length-set here.cells c.in-Some.place c.zero.result ∙ here.invariant.1,
      each_turn places (λ (place : ℕ) (cells : List g.row.T.Denot). set cells place free) here.place-iterator.rest here.cells (omega arith) (omega arith)
          c.in-Some.ensures.steps.0 (ap (set here.cells c.in-Some.place) c.zero.ensures)
          (ap (λ (w : PlaceWalk). w.rest) c.in-Some.ensures.steps.2) here.invariant.2,
    )

pub returns : goal.returns
unfolding changed_over
returns g c =
    let here = c.loop-place in
    let free = g.T.Zeroed.zero in
    let places = min (length c.args.cells.now) word_places in
    let past = c.in-None.ensures.steps.0 in
    let ends = here.invariant.0 in
    each-done places (λ (place : ℕ) (cells : List g.row.T.Denot). set cells place free) here.place-iterator.rest (omega arith) refl here.invariant.2
