-- A column that is changed by a rule in the places that pass a test: it keeps its length, and place by place the rule is taken or not. A loop writes the
-- places one by one, from what stands there; each is written once, so that it meets what stood there before. Assumes nothing.
use mathlib.Core.Bool.{Bool, cond, false, true}
use mathlib.Core.List.{List}
use mathlib.Core.Logic.{⊎_elim}
use mathlib.Core.Path.{◌∙◌, ◌≡◌, ap, refl, subst, sym}
use Prim.Native.Nat.{◌<◌, ◌≤◌, suc, zero, ℕ}
use native.Mathlib.Decide.{dec_lt}
use native.Mathlib.Nat.{eq-or-lt_of_le, le_of_suc-le-suc, le_refl, not-suc-le-zero}
use native.Mathlib.Omega.{arith}
use lib.ListN.{length, length-set, set}
use Rattle.words.specs.Places.{each, fold_to}
use Rattle.words.specs.Words.{has}
use Rattle.tables.specs.Columns.{at}
use Rattle.tables.proofs.At.{at-past, at_set_other, at_set_same}
use Rattle.leaving.specs.Leaving.{changed, cleared, changed_over}

-- ---- the places one by one

-- one step: the place is written by the rule, from what stands there
abbrev pub changing : ℕ → (ℕ → ℕ) → ℕ → List ℕ → List ℕ
changing places rule place numbers = set numbers place (rule (at places numbers place))

module _ (places : ℕ) (test : ℕ → Bool) (rule : ℕ → ℕ) (column : List ℕ) where
  -- the column once the places below n are through
  abbrev changed_to : ℕ → List ℕ
  changed_to n = each n test (changing places rule) column

  length_to : (n : ℕ) → length (changed_to n) ≡ length column
  unfolding each fold_to
  length_to zero = refl
  length_to (suc n) = go (test n) (length_to n)
    where
      go : (passes : Bool) → length (changed_to n) ≡ length column → length (cond passes (changing places rule n (changed_to n)) (changed_to n)) ≡ length column
      go true e = length-set (changed_to n) n (rule (at places (changed_to n) n)) ∙ e
      go false e = e

  -- the places from n on are as they were
  past_to : (n place : ℕ) → n ≤ place → at places (changed_to n) place ≡ at places column place
  unfolding each fold_to
  past_to zero place past = refl
  past_to (suc n) place past = go (test n) (past_to n place (omega arith))
    where
      go : (passes : Bool) → at places (changed_to n) place ≡ at places column place
          → at places (cond passes (changing places rule n (changed_to n)) (changed_to n)) place ≡ at places column place
      go true e = at_set_other places (changed_to n) n (rule (at places (changed_to n) n)) place (λ q. omega arith) ∙ e
      go false e = e

  -- what is to stand in a place
  abbrev pub wanted : ℕ → ℕ
  wanted place = cond (test place) (rule (at places column place)) (at places column place)

  at_to : length column ≡ places → (n place : ℕ) → place < n → n ≤ places → at places (changed_to n) place ≡ wanted place
  unfolding each fold_to
  at_to sized zero place inside fits = absurd (not-suc-le-zero inside)
  at_to sized (suc n) place inside fits =
      ⊎_elim
      (λ e. subst (λ (i : ℕ). at places (changed_to (suc n)) i ≡ wanted i) (sym e) (top (test n) refl))
      (λ l. below (test n) l (at_to sized n place l (omega arith)))
      (eq-or-lt_of_le (le_of_suc-le-suc inside))
    where
      top : (passes : Bool) → test n ≡ passes → at places (cond passes (changing places rule n (changed_to n)) (changed_to n)) n ≡ wanted n
      top true q =
          at_set_same places (changed_to n) n (rule (at places (changed_to n) n)) fits (length_to n ∙ sized)
          ∙ ap rule (past_to n n (le_refl n))
          ∙ rw q
      top false q = past_to n n (le_refl n) ∙ rw q

      below : (passes : Bool) → place < n → at places (changed_to n) place ≡ wanted place
          → at places (cond passes (changing places rule n (changed_to n)) (changed_to n)) place ≡ wanted place
      below true l e = at_set_other places (changed_to n) n (rule (at places (changed_to n) n)) place (λ q. omega arith) ∙ e
      below false l e = e

  -- ---- the whole

  pub length-changed : length (changed places test rule column) ≡ length column
  unfolding changed_over
  length-changed = length_to places

  pub changed-at : length column ≡ places → (place : ℕ) → place < places → at places (changed places test rule column) place ≡ wanted place
  unfolding changed_over
  changed-at sized place inside = at_to sized places place inside (le_refl places)

  -- by the test
  module _ (sized : length column ≡ places) where
    pub changed_there : (place : ℕ) → place < places → test place ≡ true → at places (changed places test rule column) place ≡ rule (at places column place)
    changed_there place inside passes = changed-at sized place inside ∙ rw passes

    pub changed_elsewhere : (place : ℕ) → test place ≡ false → at places (changed places test rule column) place ≡ at places column place
    changed_elsewhere place fails = elim (dec_lt place places) [
      | yes inside ↦ changed-at sized place inside ∙ rw fails
      | no past ↦ at-past places (changed places test rule column) (omega arith) ∙ sym (at-past places column (omega arith))
    ]

-- what stands in a place that is not freed is as it was
pub kept_at : (places gone : ℕ) (column : List ℕ) → length column ≡ places → (place : ℕ) → has gone place ≡ false
    → at places (cleared places gone column) place ≡ at places column place
kept_at places gone = changed_elsewhere places (has gone) (λ number. 0)
