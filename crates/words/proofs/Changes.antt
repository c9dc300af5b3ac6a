-- What is in a word after a change, and what was in it before: each by what the change does at that place. Assumes nothing.
use mathlib.Core.Bool.{Bool, ◌&&◌, ◌||◌, and-not_self, and-or_distrib_right, cond, false, not, or_assoc, or_comm, true}
use mathlib.Core.Logic.{◌≢◌, ◌⊎◌}
use mathlib.Core.Path.{◌∙◌, ◌≡◌, ap, ap₂, sym}
use Prim.Native.Nat.{◌<◌, ℕ}
use native.Mathlib.Decide.{ℕ_discrete}
use lib.Dec.{eqb, ltb}
use lib.Pow.{pow_pos}
use borrow.Author.Tests.{ltb-true, not-true}
use Rattle.words.specs.Places.{word_of}
use Rattle.words.specs.Words.{both, either, except, has, with, without, word_places}
use Rattle.words.proofs.Digits.{has_none}
use Rattle.words.proofs.Laws.{both_at, either-at, except-at, has_both, has_either, has-except, has-with, has-without, has-word_of_in}
use Rattle.words.proofs.Laws.{with_other, with-same, without_other, without-same, word_of_is, word_of_lt}
use Rattle.words.proofs.YesOrNo.{and_both, and_left, and_right, or_left, or_one, or_right, true_not_false}

-- ---- one place changes

-- two words that agree at every place but one
pub record Elsewhere (word used p : ℕ) : Type 0 where
  pub was : (i : ℕ) → i ≢ p → has word i ≡ true → has used i ≡ true
  pub stays : (i : ℕ) → i < word_places → i ≢ p → has used i ≡ true → has word i ≡ true

-- a word that was changed has no place past the last
pub with_inside : (w p i : ℕ) → has (with w p) i ≡ true → i < word_places
with_inside w p i used = ltb-true i word_places (and_left (ltb i word_places) _ (sym (has-with w p i) ∙ used))

pub without_inside : (w p i : ℕ) → has (without w p) i ≡ true → i < word_places
without_inside w p i used = ltb-true i word_places (and_left (ltb i word_places) _ (sym (has-without w p i) ∙ used))

pub with_was : (w p i : ℕ) → i ≢ p → has (with w p) i ≡ true → has w i ≡ true
with_was w p i apart used = sym (with_other w (with_inside w p i used) apart) ∙ used

pub with-stays : (w p i : ℕ) → i < word_places → has w i ≡ true → has (with w p) i ≡ true
with-stays w p i below used =
    elim (ℕ_discrete i p) [ yes same ↦ rw same (with-same w (rw same at below)) | no apart ↦ with_other w below apart ∙ used ]

-- the place that was added is there
pub with_there : (w : ℕ) {p : ℕ} → p < word_places → has (with w p) p ≡ false → ⊥
with_there w below lacking = true_not_false (with-same w below) lacking

pub without_apart : (w p i : ℕ) → has (without w p) i ≡ true → i ≢ p
without_apart w p i used same = true_not_false used (rw same (without-same w p))

pub without_was : (w p i : ℕ) → has (without w p) i ≡ true → has w i ≡ true
without_was w p i used = sym (without_other w (without_inside w p i used) (without_apart w p i used)) ∙ used

-- the word of one place has no other
pub one_place : (p i : ℕ) → has (with 0 p) i ≡ true → i ≡ p
one_place p i there = elim (ℕ_discrete i p) [ yes same ↦ same | no apart ↦ absurd (true_not_false (with_was 0 p i apart there) (has_none i)) ]

pub same_elsewhere : (w p : ℕ) → Elsewhere w w p
same_elsewhere w p = record { was = λ i apart used. used; stays = λ i below apart used. used }

pub with_elsewhere : (w p : ℕ) → Elsewhere (with w p) w p
with_elsewhere w p = record { was = with_was w p; stays = λ i below apart used. with_other w below apart ∙ used }

pub without_elsewhere : (w p : ℕ) → Elsewhere (without w p) w p
without_elsewhere w p = record { was = λ i apart. without_was w p i; stays = λ i below apart used. without_other w below apart ∙ used }

-- one of two words that do so
pub one_elsewhere : (first : Bool) {one other used p : ℕ} → Elsewhere one used p → Elsewhere other used p → Elsewhere (cond first one other) used p
one_elsewhere true one other = one
one_elsewhere false one other = other

-- ---- some places less

except-both : (w gone i : ℕ) → has (except w gone) i ≡ true → (has w i && not (has gone i)) ≡ true
except-both w gone i used = and_right (ltb i word_places) _ (sym (has-except w gone i) ∙ used)

pub except_inside : (w gone i : ℕ) → has (except w gone) i ≡ true → i < word_places
except_inside w gone i used = ltb-true i word_places (and_left (ltb i word_places) _ (sym (has-except w gone i) ∙ used))

pub except_was : (w gone i : ℕ) → has (except w gone) i ≡ true → has w i ≡ true
except_was w gone i used = and_left (has w i) _ (except-both w gone i used)

pub except-kept : (w gone i : ℕ) → has (except w gone) i ≡ true → has gone i ≡ false
except-kept w gone i used = not-true (has gone i) (and_right (has w i) _ (except-both w gone i used))

pub except-stays : (w gone i : ℕ) → i < word_places → has w i ≡ true → has gone i ≡ false → has (except w gone) i ≡ true
except-stays w gone i below used kept = except-at w gone below ∙ and_both used (ap not kept)

-- ---- two words together

pub both_left : (a b i : ℕ) → has (both a b) i ≡ true → has a i ≡ true
both_left a b i there = and_left (has a i) _ (and_right (ltb i word_places) _ (sym (has_both a b i) ∙ there))

pub both_right : (a b i : ℕ) → has (both a b) i ≡ true → has b i ≡ true
both_right a b i there = and_right (has a i) _ (and_right (ltb i word_places) _ (sym (has_both a b i) ∙ there))

pub in_both : (a b i : ℕ) → i < word_places → has a i ≡ true → has b i ≡ true → has (both a b) i ≡ true
in_both a b i below left right = both_at a b below ∙ and_both left right

pub either_one : (a b i : ℕ) → has (either a b) i ≡ true → (has a i ≡ true) ⊎ (has b i ≡ true)
either_one a b i there = or_one (has a i) (has b i) (and_right (ltb i word_places) _ (sym (has_either a b i) ∙ there))

pub either_left : (a b i : ℕ) → i < word_places → has a i ≡ true → has (either a b) i ≡ true
either_left a b i below there = either-at a b below ∙ or_left (has b i) there

pub either_right : (a b i : ℕ) → i < word_places → has b i ≡ true → has (either a b) i ≡ true
either_right a b i below there = either-at a b below ∙ or_right (has a i) there

-- ---- the same word, made in two ways

same_tests : (f g : ℕ → Bool) → ((i : ℕ) → i < word_places → f i ≡ g i) → word_of f word_places ≡ word_of g word_places
same_tests f g same = word_of_is g (word_of f word_places) (word_of_lt f word_places) (λ i inside. has-word_of_in f inside ∙ same i inside)

either_swapped : (a b : ℕ) → either a b ≡ either b a
unfolding either
either_swapped a b = same_tests _ _ (λ i inside. or_comm (has a i) (has b i))

-- a place more in one of two words is one more in either
pub either-with_right : (a b p : ℕ) → either a (with b p) ≡ with (either a b) p
unfolding either with
either-with_right a b p =
    same_tests _ _
    (λ i inside. ap (λ (t : Bool). has a i || t) (has-word_of_in (λ j. has b j || eqb j p) inside)
    ∙ sym (or_assoc (has a i) (has b i) (eqb i p))
    ∙ sym (ap (λ (t : Bool). t || eqb i p) (either-at a b inside)))

pub either-with-left : (a b p : ℕ) → either (with a p) b ≡ with (either a b) p
either-with-left a b p = either_swapped (with a p) b ∙ either-with_right b a p ∙ ap (λ (w : ℕ). with w p) (either_swapped b a)

-- and some places less in both are less in either
pub either-except : (a b gone : ℕ) → either (except a gone) (except b gone) ≡ except (either a b) gone
unfolding either except
either-except a b gone =
    same_tests _ _
    (λ i inside. ap₂ ◌||◌ (except-at a gone inside) (except-at b gone inside)
    ∙ sym (and-or_distrib_right (has a i) (has b i) (not (has gone i)))
    ∙ sym (ap (λ (t : Bool). t && not (has gone i)) (either-at a b inside)))

pub either_none : either 0 0 ≡ 0
unfolding either
either_none = sym (word_of_is _ 0 (pow_pos word_places) (λ i inside. has_none i ∙ sym (ap₂ ◌||◌ (has_none i) (has_none i))))

-- no place is left of a word without its own
pub except_itself : (w : ℕ) → except w w ≡ 0
unfolding except
except_itself w = sym (word_of_is _ 0 (pow_pos word_places) (λ i inside. has_none i ∙ sym (and-not_self (has w i))))
