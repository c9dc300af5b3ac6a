-- After each step the rest of the walk, from the least so far, still finds what the whole finds: the smallest of the time and of those in the places of
-- the word. Assumes nothing.
use mathlib.Core.Path.{ap, refl, ◌∙◌}
use Prim.Native.Nat.{ℕ, min}
use native.Mathlib.Omega.{arith}
use Rattle.words.specs.declared.PlaceWalk.{PlaceWalk}
use Rattle.words.specs.Places.{each}
use Rattle.words.specs.Words.{has, word_places}
use Rattle.words.proofs.Walk.{each-done, each_turn}
use Rattle.tables.specs.Columns.{at}
use Rattle.tables.specs.Times.{least_among}
use Rattle.tables.proofs.Least.{lowered, lowers, smallest_from}
use Rattle.tables.proofs.times.least_among.Goals as goal

pub loop-place-init : goal.loop-place-init
unfolding least_among
loop-place-init g c =
    let same = c.into_iter-place-iterator.ensures.into_iter_gives in
    let made = c.places-place-items.ensures in
    let places = min g.row.N word_places in (
      ap (λ (w : PlaceWalk). w.end) same ∙ made.1,
      ap (λ (w : ℕ). each places (has w) (lowered (at g.row.N c.args.column.now)) c.args.time) (ap (λ (w : PlaceWalk). w.rest) same ∙ made.0)
          ∙ smallest_from places _ _ c.args.time (omega arith),
    )

pub loop-place-preserved : goal.loop-place-preserved
loop-place-preserved g c =
    let here = c.loop-place in
    let places = min g.row.N word_places in
    let ends = here.invariant.0 in
    let inside = c.in-Some.ensures.steps.1 in (
      ap (λ (w : PlaceWalk). w.end) c.in-Some.ensures.steps.2 ∙ ends,
      each_turn places _ here.place-iterator.rest here.least (omega arith) (omega arith) c.in-Some.ensures.steps.0
          (lowers (at g.row.N c.args.column.now) c.in-Some.place here.least c.min-least.ensures c.at.ensures)
          (ap (λ (w : PlaceWalk). w.rest) c.in-Some.ensures.steps.2) here.invariant.1,
    )

pub returns : goal.returns
returns g c =
    let here = c.loop-place in
    let past = c.in-None.ensures.steps.0 in
    let ends = here.invariant.0 in
    each-done (min g.row.N word_places) _ here.place-iterator.rest (omega arith) refl here.invariant.1
