-- The smallest that a loop over the places computes is the smallest that the rules speak of: it is so of the places below the one that the loop comes
-- to. Assumes nothing.
use Rattle.obeys.proofs.Basis.{◌≡◌, Bool, true, inl, inr, ⊎_elim, ◌<◌, suc, ℕ, le_refl, not-suc-le-zero, arith, never, smallest, Smallest, true_not_false, each_keeps, and_this}
use Rattle.rules.proofs.Laws.{smallest_as, smallest-either}

-- of the times of those places that count, each of which has its own smallest
module _ (counts : ℕ → Bool) (time : ℕ → ℕ) (Times : ℕ → ℕ → Type 0) where
  abbrev Below : ℕ → ℕ → Type 0
  Below n t = (k : ℕ) × (k < n) × (counts k ≡ true) × Times k t

  -- a place below the next one is this one or below it
  next_or : (n : ℕ) {t : ℕ} {P : Type 0} → (counts n ≡ true → Times n t → P) → (Below n t → P) → Below (suc n) t → P
  next_or n {t} {P} this below (k, inside, counted, x) =
      and_this (λ j. counts j ≡ true → Times j t → P) this (λ j lower counted x. below (j, lower, counted, x)) k inside counted x

  lift : (n : ℕ) {t : ℕ} → Below n t → Below (suc n) t
  lift n (k, inside, counted, x) = (k, omega arith, counted, x)

  pub smallest_of : ((k : ℕ) → counts k ≡ true → Smallest (Times k) (time k)) → (n : ℕ) → Smallest (Below n) (smallest n counts time)
  unfolding smallest
  smallest_of each_one =
      each_keeps (λ n. Smallest (Below n)) counts _ never
      (record { at_most_never = le_refl never; at_most_each = λ t (k, inside, counted, x). absurd (not-suc-le-zero inside); attained = λ below. absurd (omega arith) })
      (λ n least counted rest. smallest_as (λ t. ⊎_elim (λ x. (n, le_refl (suc n), counted, x)) (lift n)) (λ t. next_or n (λ _ x. inl x) (λ x. inr x))
      (smallest-either (each_one n counted) rest))
      (λ n least skipped rest. smallest_as (λ t. lift n) (λ t. next_or n (λ counted x. absurd (true_not_false counted skipped)) (λ x. x)) rest)
