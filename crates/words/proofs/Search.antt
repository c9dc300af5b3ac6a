-- A search over the places of a word, lowest first, for one that passes a test: a place that failed can be left out of the word, and the first that
-- passes is the lowest. Assumes nothing.
use mathlib.Core.Bool.{Bool, ◌&&◌, and-false, false, true}
use mathlib.Core.Logic.{◌≢◌}
use mathlib.Core.Path.{◌∙◌, ◌≡◌, ap, sym}
use Prim.Native.Nat.{◌<◌, ◌≤◌, ℕ}
use native.Mathlib.Decide.{ℕ_discrete}
use native.Mathlib.Omega.{arith}
use Rattle.words.specs.Places.{lowest_of}
use Rattle.words.specs.Words.{has, lowest, without, word_places}
use Rattle.words.proofs.Laws.{lowest-below, lowest_ext, lowest-has, lowest_none, lowest_unique, without_other}
use Rattle.words.proofs.YesOrNo.{and_both}

-- the lowest place of the word that passes the test; 64 where none does
abbrev pub lowest_in : ℕ → (ℕ → Bool) → ℕ
lowest_in w passes = lowest_of (λ i. has w i && passes i) word_places

-- ---- the search as the code has it: p is the lowest place of what is left, w; t is what the whole search finds

module _ (passes : ℕ → Bool) (w : ℕ) where
  -- p passes
  pub search_here : {p t : ℕ} → p < word_places → p ≡ lowest w → passes p ≡ true → lowest_in w passes ≡ t → p ≡ t
  search_here {p} inside first passed whole =
      sym
      (lowest_unique
      (λ i. has w i && passes i)
      inside
      (and_both (ap (has w) first ∙ lowest-has w (rw first at inside)) passed)
      (λ j earlier. ap (λ (b : Bool). b && passes j) (lowest-below w (rw first at earlier))))
      ∙ whole

  -- p does not pass: on without it
  pub search_turn : {p v t : ℕ} → passes p ≡ false → v ≡ without w p → lowest_in w passes ≡ t → lowest_in v passes ≡ t
  search_turn {p} {v} failed rest whole =
      lowest_ext (λ i. has v i && passes i) (λ i. has w i && passes i) word_places same ∙ whole
    where
      other : (i : ℕ) → i < word_places → i ≢ p → (has v i && passes i) ≡ (has w i && passes i)
      other i inside apart =
          ap (λ (b : Bool). b && passes i) (ap (λ (u : ℕ). has u i) rest ∙ without_other w inside apart)

      here : (i : ℕ) → i ≡ p → (has v i && passes i) ≡ (has w i && passes i)
      here i e =
          ap (λ (b : Bool). has v i && b) (ap passes e ∙ failed)
          ∙ and-false (has v i)
          ∙ sym (and-false (has w i))
          ∙ sym (ap (λ (b : Bool). has w i && b) (ap passes e ∙ failed))

      same : (i : ℕ) → i < word_places → (has v i && passes i) ≡ (has w i && passes i)
      same i inside = elim (ℕ_discrete i p) [ yes e ↦ here i e | no apart ↦ other i inside apart ]

  -- no place is left
  pub search_done : {p t : ℕ} → word_places ≤ p → p ≡ lowest w → lowest_in w passes ≡ t → word_places ≡ t
  search_done {p} done first whole =
      sym
      (lowest_none
      (λ i. has w i && passes i)
      word_places
      (λ j inside. ap (λ (b : Bool). b && passes j) (lowest-below w (omega arith))))
      ∙ whole
