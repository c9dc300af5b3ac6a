-- A set of places, given by a test on place numbers. Assumes nothing.
use Rattle.std.specs.Prelude.{Bool, cond, ℕ, zero, suc, ◌+◌, ◌^◌}

-- b, then one step for each place below n, in order
unfoldable pub fold_to : {B : Type 0} → (ℕ → B → B) → B → ℕ → B
fold_to f b zero = b
fold_to f b (suc n) = f n (fold_to f b n)

-- b, then one step for each place below n that passes the test, in order
unfoldable pub each : {B : Type 0} → ℕ → (ℕ → Bool) → (ℕ → B → B) → B → B
each n test step b = fold_to (λ i x. cond (test i) (step i x) x) b n

-- how many of the places below n pass the test
unfoldable pub count_of : (ℕ → Bool) → ℕ → ℕ
count_of f zero = 0
count_of f (suc n) = count_of f n + cond (f n) 1 0

-- the lowest place below n that passes the test; n where none does
unfoldable pub lowest_of : (ℕ → Bool) → ℕ → ℕ
lowest_of f zero = 0
lowest_of f (suc n) = cond (f 0) 0 (suc (lowest_of (λ i. f (suc i)) n))

-- the word whose places below n are those that pass the test
unfoldable pub word_of : (ℕ → Bool) → ℕ → ℕ
word_of f zero = 0
word_of f (suc n) = word_of f n + cond (f n) (2 ^ n) 0
