-- The walk goes over the places of the word, lowest first, and leaves to each step whether the timestamp is tried. After each step the rest of the walk
-- still finds what the whole finds. Assumes nothing.
use mathlib.Core.Bool.{Bool, true, false, cond, ◌&&◌, and-false}
use mathlib.Core.List.{List}
use mathlib.Core.Path.{◌≡◌, refl, sym, ap, ◌∙◌}
use Prim.Native.Nat.{ℕ}
use native.Mathlib.Omega.{arith}
use lib.Dec.{leb}
use borrow.Author.Tests.{le-leb, lt-leb}
use Rattle.std.proofs.Common.{Option}
use Rattle.words.proofs.Walk.{each_and, walk_turn, walk-done, walk_starts}
use Rattle.calls.specs.declared.Which.{Which}
use Rattle.rows.specs.declared.Found.{Found}
use Rattle.rows.specs.Choices.{preferred, taken_before}
use Rattle.tables.specs.Columns.{at, item_places}
use Rattle.tables.specs.Search.{chosen, chosen_from, is_wanted}
use Rattle.tables.proofs.search.choose.Invariants.{step}
use Rattle.tables.proofs.search.choose.Goals as goal
use Rattle.tables.proofs.search.choose.Goals.{else-mark-timestamp-via-then-mark-timestamp+else-is_wanted, else-mark-timestamp-via-else-mark-timestamp}

-- a step, by the timestamp that it read and by whether this is tried
stepped : (timestamps : List ℕ) (mark : ℕ) (which : Which) (p : ℕ) (found : Option Found) {read : ℕ} (tries : Bool) → read ≡ at item_places timestamps p
    → (leb mark read && is_wanted which read) ≡ tries
    → cond tries (preferred (taken_before which) found p read) found ≡ step timestamps mark which p found
stepped timestamps mark which p found {read} tries is tested =
    ap (λ (b : Bool). cond b (preferred (taken_before which) found p read) found) (sym tested)
    ∙ ap (λ (t : ℕ). cond (leb mark t && is_wanted which t) (preferred (taken_before which) found p t) found) is

both_hold : {a b wanted : Bool} → a ≡ true → wanted ≡ b → wanted ≡ true → (a && b) ≡ true
both_hold holds is wanted = rw holds (sym is ∙ wanted)

second_fails : (a : Bool) {b wanted : Bool} → wanted ≡ b → wanted ≡ false → (a && b) ≡ false
second_fails a is unwanted = rw (sym is ∙ unwanted) (and-false a)

pub loop-place-init : goal.loop-place-init
unfolding chosen_from chosen
loop-place-init c =
    walk_starts item_places _ _ c.into_iter-place-iterator.ensures.into_iter_gives c.places-place-items.ensures
    (sym (each_and item_places _ _ _ _ _ (λ p inside. refl)))

pub loop-place-preserved-then-is_wanted : goal.loop-place-preserved-then-is_wanted
loop-place-preserved-then-is_wanted c =
    let here = c.loop-place in
    let args = c.args in
    let tried = both_hold (le-leb args.mark _ c.if-mark-timestamp.true) c.is_wanted.ensures c.if-is_wanted.true in
    walk_turn item_places _ here.found here.place-iterator c.next.new.self (omega arith) here.invariant.0 c.in-Some.ensures.steps
    (c.or_taken-found.ensures ∙ stepped args.timestamps.now args.mark args.which c.in-Some.place here.found true c.at-timestamp.ensures tried)
    here.invariant.1

pub loop-place-preserved : goal.loop-place-preserved
loop-place-preserved c =
    let here = c.loop-place in
    let args = c.args in
    let passed_over : (leb args.mark c.at-timestamp.result && is_wanted args.which c.at-timestamp.result) ≡ false =
    elim c.else-mark-timestamp.branch as (λ _. (leb args.mark c.at-timestamp.result && is_wanted args.which c.at-timestamp.result) ≡ false) [
      | else-mark-timestamp-via-then-mark-timestamp+else-is_wanted w ↦ second_fails _ w.is_wanted.ensures w.if-is_wanted.false
      | else-mark-timestamp-via-else-mark-timestamp w ↦ ap (λ (b : Bool). b && is_wanted args.which c.at-timestamp.result) (lt-leb args.mark _ w.if-mark-timestamp.false)
    ] in
    walk_turn item_places _ here.found here.place-iterator c.next.new.self (omega arith) here.invariant.0 c.in-Some.ensures.steps
    (stepped args.timestamps.now args.mark args.which c.in-Some.place here.found false c.at-timestamp.ensures passed_over)
    here.invariant.1

pub returns : goal.returns
returns c =
    let here = c.loop-place in
    walk-done item_places _ here.place-iterator c.next.new.self (omega arith) here.invariant.0 c.in-None.ensures.steps here.invariant.1
