-- The laws of places and of words: a word is known by its places, so each law is one of tests on places, by induction on how many there are. Assumes
-- nothing.
pub use Rattle.words.proofs.Digits.{has_none}
use mathlib.Core.Bool.{Bool, ◌&&◌, ◌||◌, and-false, and-true, cond, false, not, or-false, or-true, true, true≢false}
use mathlib.Core.Logic.{◌≢◌, ◌⊎◌, ⊎_elim}
use mathlib.Core.Path.{◌∙◌, ◌≡◌, ap, ap₂, refl, sym}
use Prim.Native.Nat.{◌+◌, ◌<◌, ◌^◌, ◌≤◌, suc, suc-le-suc, zero, zero-le, ℕ}
use native.Mathlib.Nat.{eq-or-lt_of_le, le_antisymm, le_of_suc-le-suc, le_refl, lt_of_not-le, not-suc-le-zero, zero-lt-suc}
use native.Mathlib.Omega.{arith}
use lib.Dec.{eqb, ltb}
use lib.Pow.{pow_pos}
use borrow.Author.Tests.{eq-eqb, eqb-false, eqb-true, le-ltb, lt-ltb, ltb-false, ltb-true, ne_eqb, not-false, not-true}
use Rattle.words.specs.Places.{count_of, lowest_of, word_of}
use Rattle.words.specs.Words.{both, count, either, except, has, lowest, lowest_free, with, without, word_places}
use Rattle.words.proofs.Digits.{has_from, has_top, num, num_le, same_places}

-- ---- a word and its places

pub has-past : (w i : ℕ) → w < 2 ^ word_places → word_places ≤ i → has w i ≡ false
has-past = has_from word_places

pub word_ext : (a b : ℕ) → a < 2 ^ word_places → b < 2 ^ word_places → ((i : ℕ) → i < word_places → has a i ≡ has b i) → a ≡ b
word_ext = same_places word_places

pub word_of_lt : (f : ℕ → Bool) (n : ℕ) → word_of f n < 2 ^ n
unfolding word_of
word_of_lt f zero = zero-lt-suc 0
word_of_lt f (suc n) = go (f n) (word_of_lt f n)
  where
    go : (b : Bool) {x : ℕ} → x < 2 ^ n → x + cond b (2 ^ n) 0 < 2 ^ suc n
    go true l = omega arith
    go false l = omega (arith, pow_pos n)

-- one place more: the test of `has-word_of` at n and below it, joined
ltb_more : (f : ℕ → Bool) (n i : ℕ) → cond (eqb i n) (f n) (ltb i n && f i) ≡ (ltb i (suc n) && f i)
ltb_more f n i = go (eqb i n) refl (ltb i n) refl
  where
    go : (t : Bool) → eqb i n ≡ t → (s : Bool) → ltb i n ≡ s → cond t (f n) (s && f i) ≡ (ltb i (suc n) && f i)
    go true e s l =
        let same : i ≡ n = eqb-true i n e in
        ap f (sym same) ∙ ap (λ (t : Bool). t && f i) (sym (lt-ltb i (suc n) (omega arith)))
    go false e true l = ap (λ (t : Bool). t && f i) (sym (lt-ltb i (suc n) (omega (arith, ltb-true i n l))))
    go false e false l = ap (λ (t : Bool). t && f i) (sym (le-ltb i (suc n) (past (eq-or-lt_of_le (ltb-false i n l)))))
      where
        past : (n ≡ i) ⊎ (n < i) → suc n ≤ i
        past = ⊎_elim (λ q. absurd (eqb-false i n e (sym q))) (λ k. k)

pub has-word_of : (f : ℕ → Bool) (n i : ℕ) → has (word_of f n) i ≡ (ltb i n && f i)
unfolding word_of
has-word_of f zero i = has_none i ∙ ap (λ (t : Bool). t && f i) (sym (le-ltb i zero zero-le))
has-word_of f (suc n) i =
    has_top (f n) (word_of f n) n i (word_of_lt f n) ∙ ap (cond (eqb i n) (f n)) (has-word_of f n i) ∙ ltb_more f n i

pub has-word_of_in : (f : ℕ → Bool) {n i : ℕ} → i < n → has (word_of f n) i ≡ f i
has-word_of_in f {n} {i} l = has-word_of f n i ∙ ap (λ (t : Bool). t && f i) (lt-ltb i n l)

-- how a word that was computed another way is seen to be the one that a definition names
pub word_of_is : (f : ℕ → Bool) (w : ℕ) → w < 2 ^ word_places → ((i : ℕ) → i < word_places → has w i ≡ f i) → w ≡ word_of f word_places
word_of_is f w l h = word_ext w (word_of f word_places) l (word_of_lt f word_places) (λ i k. h i k ∙ sym (has-word_of_in f k))

-- ---- the words that are made of words

pub has-with : (w p i : ℕ) → has (with w p) i ≡ (ltb i word_places && (has w i || eqb i p))
unfolding with
has-with w p = has-word_of (λ i. has w i || eqb i p) word_places

pub has-without : (w p i : ℕ) → has (without w p) i ≡ (ltb i word_places && (has w i && not (eqb i p)))
unfolding without
has-without w p = has-word_of (λ i. has w i && not (eqb i p)) word_places

pub has_both : (a b i : ℕ) → has (both a b) i ≡ (ltb i word_places && (has a i && has b i))
unfolding both
has_both a b = has-word_of (λ i. has a i && has b i) word_places

pub has_either : (a b i : ℕ) → has (either a b) i ≡ (ltb i word_places && (has a i || has b i))
unfolding either
has_either a b = has-word_of (λ i. has a i || has b i) word_places

pub has-except : (a b i : ℕ) → has (except a b) i ≡ (ltb i word_places && (has a i && not (has b i)))
unfolding except
has-except a b = has-word_of (λ i. has a i && not (has b i)) word_places

pub with_lt : (w p : ℕ) → with w p < 2 ^ word_places
unfolding with
with_lt w p = word_of_lt (λ i. has w i || eqb i p) word_places

-- ---- the same, place by place

pub with-same : (w : ℕ) {p : ℕ} → p < word_places → has (with w p) p ≡ true
with-same w {p} l =
    has-with w p p ∙ ap₂ (λ (s t : Bool). s && (has w p || t)) (lt-ltb p word_places l) (eq-eqb p p refl) ∙ or-true (has w p)

pub with_other : (w : ℕ) {p i : ℕ} → i < word_places → i ≢ p → has (with w p) i ≡ has w i
with_other w {p} {i} l ne =
    has-with w p i ∙ ap₂ (λ (s t : Bool). s && (has w i || t)) (lt-ltb i word_places l) (ne_eqb i p ne) ∙ or-false (has w i)

pub without-same : (w p : ℕ) → has (without w p) p ≡ false
without-same w p =
    has-without w p p
    ∙ ap (λ (t : Bool). ltb p word_places && (has w p && not t)) (eq-eqb p p refl)
    ∙ ap (λ (t : Bool). ltb p word_places && t) (and-false (has w p))
    ∙ and-false (ltb p word_places)

pub without_other : (w : ℕ) {p i : ℕ} → i < word_places → i ≢ p → has (without w p) i ≡ has w i
without_other w {p} {i} l ne =
    has-without w p i ∙ ap₂ (λ (s t : Bool). s && (has w i && not t)) (lt-ltb i word_places l) (ne_eqb i p ne) ∙ and-true (has w i)

-- a place past the last changes no word
pub with-past : (w p : ℕ) → w < 2 ^ word_places → word_places ≤ p → w ≡ with w p
unfolding with
with-past w p h l = word_of_is (λ i. has w i || eqb i p) w h (λ i k. go (has w i) (eqb i p) (ne_eqb i p (λ q. omega arith)))
  where
    go : (a b : Bool) → b ≡ false → a ≡ (a || b)
    go true b e = refl
    go false b e = sym e

pub without-past : (w p : ℕ) → w < 2 ^ word_places → word_places ≤ p → w ≡ without w p
unfolding without
without-past w p h l = word_of_is (λ i. has w i && not (eqb i p)) w h (λ i k. go (has w i) (eqb i p) (ne_eqb i p (λ q. omega arith)))
  where
    go : (a b : Bool) → b ≡ false → a ≡ (a && not b)
    go true b e = ap not (sym e)
    go false b e = refl

pub both_at : (a b : ℕ) {i : ℕ} → i < word_places → has (both a b) i ≡ (has a i && has b i)
unfolding both
both_at a b = has-word_of_in (λ i. has a i && has b i)

pub either-at : (a b : ℕ) {i : ℕ} → i < word_places → has (either a b) i ≡ (has a i || has b i)
unfolding either
either-at a b = has-word_of_in (λ i. has a i || has b i)

pub except-at : (a b : ℕ) {i : ℕ} → i < word_places → has (except a b) i ≡ (has a i && not (has b i))
unfolding except
except-at a b = has-word_of_in (λ i. has a i && not (has b i))

-- ---- the lowest place that passes a test

pub lowest_ext : (f g : ℕ → Bool) (n : ℕ) → ((i : ℕ) → i < n → f i ≡ g i) → lowest_of f n ≡ lowest_of g n
unfolding lowest_of
lowest_ext f g zero h = refl
lowest_ext f g (suc n) h =
    let rest = lowest_ext (λ i. f (suc i)) (λ i. g (suc i)) n (λ i l. h (suc i) (suc-le-suc l)) in
    ap₂ (λ (b : Bool) (m : ℕ). cond b 0 (suc m)) (h 0 (zero-lt-suc n)) rest

pub lowest_le : (f : ℕ → Bool) (n : ℕ) → lowest_of f n ≤ n
unfolding lowest_of
lowest_le f zero = zero-le
lowest_le f (suc n) = go (f 0) (lowest_le (λ i. f (suc i)) n)
  where
    go : (b : Bool) {m : ℕ} → m ≤ n → cond b 0 (suc m) ≤ suc n
    go true l = zero-le
    go false l = suc-le-suc l

pub lowest-holds : (f : ℕ → Bool) (n : ℕ) → lowest_of f n < n → f (lowest_of f n) ≡ true
unfolding lowest_of
lowest-holds f zero l = absurd (not-suc-le-zero l)
lowest-holds f (suc n) l = go (f 0) refl l (lowest-holds (λ i. f (suc i)) n)
  where
    go : (b : Bool) {m : ℕ} → f 0 ≡ b → cond b 0 (suc m) < suc n → (m < n → f (suc m) ≡ true) → f (cond b 0 (suc m)) ≡ true
    go true e k rest = e
    go false e k rest = rest (le_of_suc-le-suc k)

pub lowest-before : (f : ℕ → Bool) (n j : ℕ) → j < lowest_of f n → f j ≡ false
unfolding lowest_of
lowest-before f zero j l = absurd (not-suc-le-zero l)
lowest-before f (suc n) zero l = go (f 0) (lowest_of (λ i. f (suc i)) n) l
  where
    go : (b : Bool) (m : ℕ) → 0 < cond b 0 (suc m) → b ≡ false
    go true m k = absurd (not-suc-le-zero k)
    go false m k = refl
lowest-before f (suc n) (suc j) l = go (f 0) l (lowest-before (λ i. f (suc i)) n j)
  where
    go : (b : Bool) {m : ℕ} → suc j < cond b 0 (suc m) → (j < m → f (suc j) ≡ false) → f (suc j) ≡ false
    go true k rest = absurd (not-suc-le-zero k)
    go false k rest = rest (le_of_suc-le-suc k)

pub lowest_reach : (f : ℕ → Bool) {n j : ℕ} → j < n → f j ≡ true → lowest_of f n ≤ j
lowest_reach f {n} {j} l e = le_of_suc-le-suc (lt_of_not-le (λ k. true≢false (sym e ∙ lowest-before f n j k)))

-- a search that stopped at i, by a place or by the end
lowest-at : (f : ℕ → Bool) {n i : ℕ} → i ≤ n → (i < n → f i ≡ true) → ((j : ℕ) → j < i → f j ≡ false) → lowest_of f n ≡ i
lowest-at f {n} {i} l e h = le_antisymm (le_of_suc-le-suc (lt_of_not-le past)) (le_of_suc-le-suc (lt_of_not-le short))
  where
    past : i < lowest_of f n → ⊥
    past k = true≢false (sym (e (omega (arith, lowest_le f n))) ∙ lowest-before f n i k)

    short : lowest_of f n < i → ⊥
    short k = true≢false (sym (lowest-holds f n (omega arith)) ∙ h (lowest_of f n) k)

-- what a search shows that found a place
pub lowest_unique : (f : ℕ → Bool) {n i : ℕ} → i < n → f i ≡ true → ((j : ℕ) → j < i → f j ≡ false) → lowest_of f n ≡ i
lowest_unique f l e h = lowest-at f (omega arith) (λ k. e) h

-- what a search shows that found none
pub lowest_none : (f : ℕ → Bool) (n : ℕ) → ((j : ℕ) → j < n → f j ≡ false) → lowest_of f n ≡ n
lowest_none f n h = lowest-at f (le_refl n) (λ k. absurd (omega arith)) h

-- the same of a word
pub lowest-has : (w : ℕ) → lowest w < word_places → has w (lowest w) ≡ true
unfolding lowest
lowest-has w = lowest-holds (has w) word_places

pub lowest-below : (w : ℕ) {j : ℕ} → j < lowest w → has w j ≡ false
unfolding lowest
lowest-below w {j} = lowest-before (has w) word_places j

pub free_lacks : (w : ℕ) → lowest_free w < word_places → has w (lowest_free w) ≡ false
unfolding lowest_free
free_lacks w l = not-true (has w _) (lowest-holds (λ i. not (has w i)) word_places l)

pub free_below : (w : ℕ) {j : ℕ} → j < lowest_free w → has w j ≡ true
unfolding lowest_free
free_below w {j} l = not-false (has w j) (lowest-before (λ i. not (has w i)) word_places j l)

-- ---- how many places pass a test

pub count_ext : (f g : ℕ → Bool) (n : ℕ) → ((i : ℕ) → i < n → f i ≡ g i) → count_of f n ≡ count_of g n
unfolding count_of
count_ext f g zero h = refl
count_ext f g (suc n) h = ap₂ (λ (m : ℕ) (b : Bool). m + num b) (count_ext f g n (λ i l. h i (omega arith))) (h n (le_refl (suc n)))

-- the definition counts from the top down; the digits of a number are read from the lowest up
pub count_first : (f : ℕ → Bool) (n : ℕ) → count_of f (suc n) ≡ cond (f 0) 1 0 + count_of (λ i. f (suc i)) n
unfolding count_of
count_first f zero = omega arith
count_first f (suc n) = omega (arith, count_first f n)

pub count_le : (f : ℕ → Bool) (n : ℕ) → count_of f n ≤ n
unfolding count_of
count_le f zero = zero-le
count_le f (suc n) = omega (arith, num_le (f n), count_le f n)

-- tests that differ at p alone
count_apart : (f g : ℕ → Bool) (n p : ℕ) → p < n → ((i : ℕ) → i < n → i ≢ p → f i ≡ g i)
    → count_of f n + cond (g p) 1 0 ≡ count_of g n + cond (f p) 1 0
unfolding count_of
count_apart f g zero p l h = absurd (not-suc-le-zero l)
count_apart f g (suc n) p l h =
    ⊎_elim here (λ k. below k (count_apart f g n p k (λ i j. h i (omega arith)))) (eq-or-lt_of_le (le_of_suc-le-suc l))
  where
    here : p ≡ n → count_of f n + num (f n) + num (g p) ≡ count_of g n + num (g n) + num (f p)
    here e =
        let rest : count_of f n ≡ count_of g n = count_ext f g n (λ i k. h i (omega arith) (λ q. omega arith)) in
        omega (arith, ap (λ (i : ℕ). num (f i)) e, ap (λ (i : ℕ). num (g i)) e)

    below : p < n → count_of f n + num (g p) ≡ count_of g n + num (f p) → count_of f n + num (f n) + num (g p) ≡ count_of g n + num (g n) + num (f p)
    below k rest =
        let top : num (f n) ≡ num (g n) = ap num (h n (le_refl (suc n)) (λ q. omega arith)) in
        omega arith

pub count-without : (w : ℕ) {p : ℕ} → p < word_places → has w p ≡ true → suc (count (without w p)) ≡ count w
unfolding count
count-without w {p} l e =
    omega (arith, count_apart (has (without w p)) (has w) word_places p l (λ i k. without_other w k), ap num (without-same w p), ap num e)

pub count_none : count 0 ≡ 0
unfolding count count_of has
count_none = refl

-- where every place passes, as many pass as there are
all_full : (f : ℕ → Bool) (n : ℕ) → ((i : ℕ) → i < n → f i ≡ true) → count_of f n ≡ n
unfolding count_of
all_full f zero h = refl
all_full f (suc n) h = omega (arith, all_full f n (λ i l. h i (omega arith)), ap num (h n (le_refl (suc n))))

pub free_full : (w : ℕ) → lowest_free w ≡ word_places → count w ≡ word_places
unfolding count
free_full w e = all_full (has w) word_places (λ i l. free_below w (omega arith))

-- so a word with fewer places than all has a free one
pub fewer_free : (w : ℕ) → count w < word_places → lowest_free w < word_places
unfolding lowest_free
fewer_free w fewer =
    ⊎_elim (λ full. absurd (omega (arith, free_full w full))) (λ below. below) (eq-or-lt_of_le (lowest_le (λ place. not (has w place)) word_places))
