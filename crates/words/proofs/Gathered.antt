-- A word that a loop builds place by place is the one that a definition names: after each turn it has the places that passed so far. Assumes nothing.
use mathlib.Core.Bool.{Bool, ◌&&◌, ◌||◌, cond, false, or-false, true}
use mathlib.Core.Path.{◌∙◌, ◌≡◌, ap, ap₂, refl, sym}
use Prim.Native.Nat.{◌+◌, ◌<◌, ◌^◌, ◌≤◌, suc, zero, ℕ}
use native.Mathlib.Decide.{dec_lt, ℕ_discrete}
use native.Mathlib.Nat.{le_refl}
use native.Mathlib.Omega.{arith}
use lib.Dec.{eqb, ltb}
use lib.Pow.{pow_mono}
use borrow.Author.Tests.{eq-eqb, le-ltb, lt-ltb, ne_eqb}
use Rattle.words.specs.Places.{each, fold_to, word_of}
use Rattle.words.specs.Words.{has, with, word_places}
use Rattle.words.proofs.Laws.{has-with, has-word_of, with_lt, word_ext, word_of_lt}
use Rattle.words.proofs.Walk.{each_and}

-- the place n joins the places below it
has_added : (f : ℕ → Bool) (n i : ℕ) → f n ≡ true → ((ltb i n && f i) || eqb i n) ≡ (ltb i (suc n) && f i)
has_added f n i e = elim (dec_lt i n) [ yes l ↦ below l | no k ↦ elim (ℕ_discrete i n) [ yes q ↦ here q | no d ↦ above (omega arith) ] ]
  where
    below : i < n → ((ltb i n && f i) || eqb i n) ≡ (ltb i (suc n) && f i)
    below l = simp (lt-ltb i n l, lt-ltb i (suc n) (omega arith), ne_eqb i n (λ q. omega arith)) (or-false (f i))

    here : i ≡ n → ((ltb i n && f i) || eqb i n) ≡ (ltb i (suc n) && f i)
    here q = rw q (simp (e, eq-eqb n n refl, le-ltb n n (le_refl n), lt-ltb n (suc n) (le_refl (suc n))))

    above : n < i → ((ltb i n && f i) || eqb i n) ≡ (ltb i (suc n) && f i)
    above l = simp (le-ltb i n (omega arith), le-ltb i (suc n) l, ne_eqb i n (λ q. omega arith))

with_next : (f : ℕ → Bool) (n : ℕ) → n < word_places → f n ≡ true → with (word_of f n) n ≡ word_of f (suc n)
with_next f n l e =
    word_ext
    (with (word_of f n) n)
    (word_of f (suc n))
    (with_lt (word_of f n) n)
    (omega (arith, word_of_lt f (suc n), pow_mono {i = suc n} {j = word_places} l))
    (λ i k. has-with (word_of f n) n i
    ∙ ap₂ (λ (s t : Bool). s && (t || eqb i n)) (lt-ltb i word_places k) (has-word_of f n i)
    ∙ has_added f n i e
    ∙ sym (has-word_of f (suc n) i))

without_next : (f : ℕ → Bool) (n : ℕ) → f n ≡ false → word_of f n ≡ word_of f (suc n)
unfolding word_of
without_next f n e = rw e (omega arith)

-- every place below n that passes is joined to the word in turn
pub each-with : (n : ℕ) (test : ℕ → Bool) → n ≤ word_places → each n test (λ p w. with w p) 0 ≡ word_of test n
unfolding each fold_to word_of
each-with zero test l = refl
each-with (suc n) test l = go (test n) refl (each-with n test (omega arith))
  where
    go : (t : Bool) {w : ℕ} → test n ≡ t → w ≡ word_of test n → cond t (with w n) w ≡ word_of test n + cond (test n) (2 ^ n) 0
    go true e q = ap (λ (w : ℕ). with w n) q ∙ with_next test n l e
    go false e q = q ∙ without_next test n e

-- one turn of a loop that builds a word: the place joins it where it passes
abbrev pub gathered : (ℕ → Bool) → ℕ → ℕ → ℕ
gathered passes place word = cond (passes place) (with word place) word

-- such a loop over the places of a word builds the word of those that pass
pub gathered_all : (n used : ℕ) (counts passes : ℕ → Bool) → n ≤ word_places → ((i : ℕ) → i < n → counts i ≡ (has used i && passes i)) → each n (has used) (gathered passes) 0 ≡ word_of counts n
gathered_all n used counts passes fits split =
    sym (each_and n (λ place word. with word place) 0 counts (has used) passes split) ∙ each-with n counts fits
