-- Which places of a table are used, by its word: a used place is one of the table's, and in the word. Assumes nothing.
use mathlib.Core.Bool.{Bool, ◌&&◌, and-false, and-true, cond, false, true}
use mathlib.Core.Logic.{◌≢◌, ◌⊎◌, inl, inr, ⊎_elim}
use mathlib.Core.Path.{◌∙◌, ◌≡◌, ap, sym}
use Prim.Native.Nat.{◌<◌, ◌≤◌, ℕ}
use native.Mathlib.Omega.{arith}
use lib.Dec.{ltb}
use borrow.Author.Tests.{lt-ltb, ltb-true}
use Rattle.words.specs.Words.{either, except, has, word_places}
use Rattle.words.proofs.Changes.{Elsewhere, either_left, either_one, either_right}
use Rattle.words.proofs.Digits.{has_none}
use Rattle.words.proofs.Laws.{except-at}
use Rattle.words.proofs.YesOrNo.{and_left, and_right, bool_cases, not_then}
use Rattle.tables.specs.Columns.{in_use}

-- below the number of places, a place is used where it is in the word
pub used_below : (used : ℕ) {place places : ℕ} → place < places → in_use used place places ≡ has used place
unfolding in_use
used_below used {place} {places} inside = ap (λ (b : Bool). b && has used place) (lt-ltb place places inside)

pub in_use_lem : (used place places : ℕ) → place < places → has used place ≡ true → in_use used place places ≡ true
in_use_lem used place places below e = used_below used below ∙ e

pub in_use-has : (used place places : ℕ) → in_use used place places ≡ true → has used place ≡ true
unfolding in_use
in_use-has used place places e = and_right (ltb place places) _ e

-- a used place lies in its table
pub used_inside : (used : ℕ) {place places : ℕ} → in_use used place places ≡ true → place < places
unfolding in_use
used_inside used {place} {places} e = ltb-true place places (and_left (ltb place places) (has used place) e)

pub none_used : (place places : ℕ) → in_use 0 place places ≡ false
unfolding in_use
none_used place places = rw (has_none place) (and-false (ltb place places))

-- a word that agrees elsewhere
pub in_use_elsewhere : {word used p : ℕ} → Elsewhere word used p → (n places : ℕ) → places ≤ word_places → n ≢ p → in_use word n places ≡ in_use used n places
unfolding in_use
in_use_elsewhere {word} {used} else n places fits apart =
    bool_cases (ltb n places)
    (λ e. let below : n < places = ltb-true n places e in
    rw e (bool_cases (has used n) (λ held. else.stays n (omega arith) apart held ∙ sym held) (λ free. not_then (else.was n apart) free ∙ sym free)))
    (λ e. rw e)

-- some places less
pub in_use-except : (used gone n places : ℕ) → places ≤ word_places → in_use (except used gone) n places ≡ cond (has gone n) false (in_use used n places)
unfolding in_use
in_use-except used gone n places fits =
    bool_cases (ltb n places)
    (λ e. let below : n < places = ltb-true n places e in
    rw (except-at used gone {i = n} (omega arith))
    (bool_cases (has gone n) (λ g. rw (g, e) (and-false (has used n))) (λ g. rw (g, e) (and-true (has used n)))))
    (λ e. rw e (bool_cases (has gone n) (λ g. rw g) (λ g. rw g)))

-- one of two words
module _ (a b place places : ℕ) where
  pub in_use-left : places ≤ word_places → in_use a place places ≡ true → in_use (either a b) place places ≡ true
  in_use-left fits used =
      let below : place < places = used_inside a used in
      in_use_lem (either a b) place places below (either_left a b place (omega arith) (in_use-has a place places used))

  pub in_use_right : places ≤ word_places → in_use b place places ≡ true → in_use (either a b) place places ≡ true
  in_use_right fits used =
      let below : place < places = used_inside b used in
      in_use_lem (either a b) place places below (either_right a b place (omega arith) (in_use-has b place places used))

  pub in_use_one : in_use (either a b) place places ≡ true → (in_use a place places ≡ true) ⊎ (in_use b place places ≡ true)
  in_use_one used =
      let below : place < places = used_inside (either a b) used in
      ⊎_elim (λ there. inl (in_use_lem a place places below there)) (λ there. inr (in_use_lem b place places below there))
      (either_one a b place (in_use-has (either a b) place places used))
