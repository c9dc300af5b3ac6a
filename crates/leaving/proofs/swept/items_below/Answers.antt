-- The walk gathers the present places whose timestamps lie below the bound. After each step, what it has gathered and what the rest of it would still
-- gather is the whole word. Assumes nothing.
use mathlib.Core.Bool.{cond}
use mathlib.Core.List.{List}
use mathlib.Core.Path.{◌∙◌, ◌≡◌, ap, refl}
use Prim.Native.Nat.{ℕ}
use native.Mathlib.Omega.{arith}
use lib.Dec.{ltb}
use Rattle.words.specs.Places.{each}
use Rattle.words.specs.Words.{has, with}
use Rattle.words.proofs.Gathered.{gathered, gathered_all}
use Rattle.words.proofs.Walk.{walk-done, walk_starts, walk_turn}
use Rattle.tables.specs.Columns.{at, item_places}
use Rattle.leaving.specs.Leaving.{is_below, items_below}
use Rattle.leaving.proofs.swept.items_below.Invariants.{lies_below}
use Rattle.leaving.proofs.swept.items_below.Goals as goal

whole : (timestamps : List ℕ) (present bound : ℕ)
    → each item_places (has present) (gathered (lies_below timestamps bound)) 0 ≡ items_below timestamps present bound
unfolding items_below is_below lies_below
whole timestamps present bound =
    gathered_all item_places present (is_below timestamps present bound) (lies_below timestamps bound) (omega arith) (λ place inside. refl)

-- what the code gathers, from the timestamp that it read
gathers : (timestamps : List ℕ) (bound gone place : ℕ) {timestamp next : ℕ} → timestamp ≡ at item_places timestamps place
    → next ≡ cond (ltb timestamp bound) (with gone place) gone → next ≡ gathered (lies_below timestamps bound) place gone
unfolding lies_below
gathers timestamps bound gone place read made = made ∙ ap (λ (t : ℕ). cond (ltb t bound) (with gone place) gone) read

pub loop-place-init : goal.loop-place-init
loop-place-init c =
    let args = c.args in
    walk_starts item_places _ _ c.into_iter-place-iterator.ensures.into_iter_gives c.places-place-items.ensures
    (whole args.timestamps.now args.present args.bound)

pub loop-place-preserved : goal.loop-place-preserved
loop-place-preserved c =
    let here = c.loop-place in
    let args = c.args in
    let step = gathers args.timestamps.now args.bound here.gone c.in-Some.place c.at.ensures c.with_if-gone.ensures in
    walk_turn item_places _ here.gone here.place-iterator c.next.new.self (omega arith) here.invariant.0 c.in-Some.ensures.steps step here.invariant.1

pub returns : goal.returns
returns c =
    let here = c.loop-place in
    walk-done item_places _ here.place-iterator c.next.new.self (omega arith) here.invariant.0 c.in-None.ensures.steps here.invariant.1
