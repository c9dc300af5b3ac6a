-- What the state of a timestamp says of the mark and of the two facts of its item's place, and the other way round: by the definition, case by case.
-- Assumes nothing.
use mathlib.Core.Bool.{Bool, ◌&&◌, ◌||◌, cond, false, not, true}
use mathlib.Core.Path.{◌∙◌, ◌≡◌, ap, refl, sym}
use Prim.Native.Nat.{◌<◌, ◌≤◌, ℕ}
use lib.Dec.{leb, ltb}
use borrow.Author.Tests.{le-leb, leb-false, lt-leb, ltb-false, ltb-true, not-true}
use Rattle.words.specs.Words.{has}
use Rattle.words.proofs.YesOrNo.{and_left, and_right, bool_cases, true_not_false}
use Rattle.calls.specs.States.{is_open, is_pending, is_unseen}
use Rattle.calls.specs.declared.State.TheVariants.{Absent, Consumed, Open, Unseen}
use Rattle.rows.specs.Numbers.{item_places}
use Rattle.rows.specs.States.{by_name, state_of}
use Rattle.rows.specs.declared.Connection.{Connection}

-- of a timestamp whose item is present
pub state_present : (c : Connection) (s p : ℕ) → p < item_places → state_of c s p ≡ cond (leb c.mark s) (by_name (has c.opened p) (has c.consumed p)) Consumed
unfolding state_of
state_present c s p inside =
    bool_cases (ltb s c.mark)
    (λ below. simp (below, lt-leb c.mark s (ltb-true s c.mark below)))
    (λ above. simp (above, lt-leb item_places p inside, le-leb c.mark s (ltb-false s c.mark above)))

-- of one whose item is not
pub state_absent : (c : Connection) (s p : ℕ) → item_places ≤ p → state_of c s p ≡ cond (ltb s c.mark) Consumed Absent
unfolding state_of
state_absent c s p past = rw (le-leb item_places p past)

open_by : (above opened consumed : Bool) → is_open (cond above (by_name opened consumed) Consumed) ≡ (above && opened)
open_by false opened consumed = refl
open_by true true consumed = refl
open_by true false true = refl
open_by true false false = refl

unseen_by : (above opened consumed : Bool) → is_unseen (cond above (by_name opened consumed) Consumed) ≡ (above && (not opened && not consumed))
unseen_by false opened consumed = refl
unseen_by true true consumed = refl
unseen_by true false true = refl
unseen_by true false false = refl

pending_by : (above opened consumed : Bool) → is_pending (cond above (by_name opened consumed) Consumed) ≡ (above && (opened || not consumed))
pending_by false opened consumed = refl
pending_by true true consumed = refl
pending_by true false true = refl
pending_by true false false = refl

module _ (c : Connection) (s p : ℕ) (inside : p < item_places) where
  pub open_is : is_open (state_of c s p) ≡ (leb c.mark s && has c.opened p)
  open_is = ap is_open (state_present c s p inside) ∙ open_by (leb c.mark s) (has c.opened p) (has c.consumed p)

  pub unseen_is : is_unseen (state_of c s p) ≡ (leb c.mark s && (not (has c.opened p) && not (has c.consumed p)))
  unseen_is = ap is_unseen (state_present c s p inside) ∙ unseen_by (leb c.mark s) (has c.opened p) (has c.consumed p)

  pub pending_is : is_pending (state_of c s p) ≡ (leb c.mark s && (has c.opened p || not (has c.consumed p)))
  pending_is = ap is_pending (state_present c s p inside) ∙ pending_by (leb c.mark s) (has c.opened p) (has c.consumed p)

-- a pending timestamp is not below the mark, its item has a place, and it is not consumed there where it is not open
pub record Unconsumed (row : Connection) (timestamp place : ℕ) : Type 0 where
  pub mark : row.mark ≤ timestamp
  pub inside : place < item_places
  pub kept : has row.opened place ≡ false → has row.consumed place ≡ false

pending_means : (below past opened consumed : Bool) → is_pending (cond below Consumed (cond past Absent (by_name opened consumed))) ≡ true
    → (below ≡ false) × (past ≡ false) × (opened ≡ false → consumed ≡ false)
pending_means true past opened consumed e = absurd (true_not_false e refl)
pending_means false true opened consumed e = absurd (true_not_false e refl)
pending_means false false true consumed e = (refl, refl, λ unopened. absurd (true_not_false refl unopened))
pending_means false false false true e = absurd (true_not_false e refl)
pending_means false false false false e = (refl, refl, λ unopened. refl)

module _ (row : Connection) (timestamp place : ℕ) where
  pub unconsumed : is_pending (state_of row timestamp place) ≡ true → Unconsumed row timestamp place
  unfolding state_of
  unconsumed pending =
      let (above, inside, kept) = pending_means (ltb timestamp row.mark) (leb item_places place) (has row.opened place) (has row.consumed place) pending in
      record { mark = ltb-false timestamp row.mark above; inside = leb-false item_places place inside; kept = kept }

  -- an open timestamp has the fact open at its place
  pub open_fact : state_of row timestamp place ≡ Open → has row.opened place ≡ true
  open_fact e =
      and_right (leb row.mark timestamp) _ (sym (open_is row timestamp place (unconsumed (ap is_pending e)).inside) ∙ ap is_open e)

  -- an unseen one has neither fact
  pub unseen_facts : state_of row timestamp place ≡ Unseen → (has row.opened place ≡ false) × (has row.consumed place ≡ false)
  unseen_facts e =
      let facts = and_right (leb row.mark timestamp) _ (sym (unseen_is row timestamp place (unconsumed (ap is_pending e)).inside) ∙ ap is_unseen e) in
      (not-true _ (and_left _ _ facts), not-true _ (and_right (not (has row.opened place)) _ facts))
