-- What the machine's operations on a word compute to, in terms of places: each is known digit by digit, and a word by its places. Assumes nothing.
use mathlib.Core.Bool.{Bool, ◌&&◌, ◌||◌, cond, false, not, true}
use mathlib.Core.Path.{◌∙◌, ◌≡◌, ap, ap₂, refl, sym}
use Prim.Native.Nat.{◌%◌, ◌*◌, ◌-◌, ◌/◌, ◌<◌, ◌^◌, max, min, suc, zero, ℕ}
use native.Mathlib.Nat.{le_of_suc-le-suc, mod-eq_of_lt, mod-lt, not-suc-le-zero, zero-lt-suc}
use native.Mathlib.Omega.{arith}
use lib.Arith.{lt-one}
use lib.Bits.{and_lt, and_mask, and_shr, and_step, bit_and, bit_or, or_lt, or_shr, or_step}
use lib.Count.{ones, ones_step, count_trailing_zeros, under}
use lib.Dec.{eqb}
use lib.Pow.{ones_sub-lt, pow-lt, pow_pos}
use Rattle.words.specs.Places.{count_of, lowest_of}
use Rattle.words.specs.Words.{both, count, either, except, has, lowest, lowest_free, with, without, word_places}
use Rattle.words.proofs.Digits.{has_first, has_next, has_none, has_top, num_injective}
use Rattle.words.proofs.Laws.{count_ext, count_first, lowest_ext, word_of_is}

-- ---- the places of what the machine computes

and_digit : (d e : ℕ) → d < 2 → e < 2 → eqb (min d e) 1 ≡ (eqb d 1 && eqb e 1)
and_digit zero zero l k = refl
and_digit zero (suc zero) l k = refl
and_digit (suc zero) zero l k = refl
and_digit (suc zero) (suc zero) l k = refl
and_digit (suc (suc d)) e l k = absurd (omega arith)
and_digit zero (suc (suc e)) l k = absurd (omega arith)
and_digit (suc zero) (suc (suc e)) l k = absurd (omega arith)

or_digit : (d e : ℕ) → d < 2 → e < 2 → eqb (max d e) 1 ≡ (eqb d 1 || eqb e 1)
or_digit zero zero l k = refl
or_digit zero (suc zero) l k = refl
or_digit (suc zero) zero l k = refl
or_digit (suc zero) (suc zero) l k = refl
or_digit (suc (suc d)) e l k = absurd (omega arith)
or_digit zero (suc (suc e)) l k = absurd (omega arith)
or_digit (suc zero) (suc (suc e)) l k = absurd (omega arith)

pub has_and : (a b i : ℕ) → has (bit_and a b) i ≡ (has a i && has b i)
unfolding has
has_and a b i =
    let x = a / 2 ^ i in
    let y = b / 2 ^ i in
    let low : bit_and x y % 2 ≡ min (x % 2) (y % 2) = omega (arith, and_step x y) in
    ap (λ (n : ℕ). eqb n 1) (ap (λ (n : ℕ). n % 2) (and_shr a b i) ∙ low)
    ∙ and_digit (x % 2) (y % 2) (mod-lt x (zero-lt-suc 1)) (mod-lt y (zero-lt-suc 1))

pub has_or : (a b i : ℕ) → has (bit_or a b) i ≡ (has a i || has b i)
unfolding has
has_or a b i =
    let x = a / 2 ^ i in
    let y = b / 2 ^ i in
    let low : bit_or x y % 2 ≡ max (x % 2) (y % 2) = omega (arith, or_step x y) in
    ap (λ (n : ℕ). eqb n 1) (ap (λ (n : ℕ). n % 2) (or_shr a b i) ∙ low)
    ∙ or_digit (x % 2) (y % 2) (mod-lt x (zero-lt-suc 1)) (mod-lt y (zero-lt-suc 1))

-- `!w` in n digits
pub has-not : (n w i : ℕ) → w < 2 ^ n → i < n → has ((2 ^ n - 1) - w) i ≡ not (has w i)
has-not zero w i h l = absurd (not-suc-le-zero l)
has-not (suc n) w zero h l =
    num_injective (has ((2 ^ suc n - 1) - w) zero) (not (has w zero)) (has_first ((2 ^ suc n - 1) - w) ∙ go (has w zero) (has_first w))
  where
    go : (b : Bool) → cond b 1 0 ≡ w % 2 → ((2 ^ suc n - 1) - w) % 2 ≡ cond (not b) 1 0
    go true e = omega arith
    go false e = omega arith
has-not (suc n) w (suc i) h l =
    let high : ((2 ^ suc n - 1) - w) / 2 ≡ (2 ^ n - 1) - w / 2 = omega arith in
    has_next ((2 ^ suc n - 1) - w) i
    ∙ ap (λ (x : ℕ). has x i) high
    ∙ has-not n (w / 2) i (omega arith) (le_of_suc-le-suc l)
    ∙ ap not (sym (has_next w i))

-- `1 << p` has the place p alone
pub has_power : (p i : ℕ) → has (2 ^ p) i ≡ eqb i p
has_power p i =
    ap (λ (x : ℕ). has x i) (omega arith) ∙ has_top true 0 p i (pow_pos p) ∙ ap (cond (eqb i p) true) (has_none i) ∙ go (eqb i p)
  where
    go : (t : Bool) → cond t true false ≡ t
    go true = refl
    go false = refl

pub shl_one : (p : ℕ) → p < word_places → (1 * 2 ^ p) % 2 ^ word_places ≡ 2 ^ p
shl_one p l = ap (λ (x : ℕ). x % 2 ^ word_places) (omega arith) ∙ mod-eq_of_lt (pow-lt l)

-- ---- what each function computes

-- `(w >> p) & 1 == 1`
pub has_is : (w p : ℕ) → eqb (bit_and (w / 2 ^ p) 1) 1 ≡ has w p
unfolding has
has_is w p = ap (λ (x : ℕ). eqb x 1) (and_mask (w / 2 ^ p) 1)

-- `w | (1 << p)`
pub with_is : (w p : ℕ) → w < 2 ^ word_places → p < word_places → bit_or w ((1 * 2 ^ p) % 2 ^ word_places) ≡ with w p
unfolding with
with_is w p h l =
    ap (bit_or w) (shl_one p l)
    ∙ word_of_is
    (λ i. has w i || eqb i p)
    (bit_or w (2 ^ p))
    (or_lt word_places w (2 ^ p) h (pow-lt l))
    (λ i k. has_or w (2 ^ p) i ∙ ap (λ (t : Bool). has w i || t) (has_power p i))

-- `w & !(1 << p)`
pub without_is : (w p : ℕ) → w < 2 ^ word_places → p < word_places → bit_and w ((2 ^ word_places - 1) - (1 * 2 ^ p) % 2 ^ word_places) ≡ without w p
unfolding without
without_is w p h l =
    ap (λ (x : ℕ). bit_and w ((2 ^ word_places - 1) - x)) (shl_one p l)
    ∙ word_of_is
    (λ i. has w i && not (eqb i p))
    (bit_and w ((2 ^ word_places - 1) - 2 ^ p))
    (and_lt word_places w ((2 ^ word_places - 1) - 2 ^ p) h (ones_sub-lt word_places (2 ^ p)))
    (λ i k. has_and w ((2 ^ word_places - 1) - 2 ^ p) i ∙ ap (λ (t : Bool). has w i && t) (has-not word_places (2 ^ p) i (pow-lt l) k ∙ ap not (has_power p i)))

-- `a & b`
pub both_is : (a b : ℕ) → a < 2 ^ word_places → b < 2 ^ word_places → bit_and a b ≡ both a b
unfolding both
both_is a b h k = word_of_is (λ i. has a i && has b i) (bit_and a b) (and_lt word_places a b h k) (λ i l. has_and a b i)

-- `a | b`
pub either_is : (a b : ℕ) → a < 2 ^ word_places → b < 2 ^ word_places → bit_or a b ≡ either a b
unfolding either
either_is a b h k = word_of_is (λ i. has a i || has b i) (bit_or a b) (or_lt word_places a b h k) (λ i l. has_or a b i)

-- `a & !b`
pub except_is : (a b : ℕ) → a < 2 ^ word_places → b < 2 ^ word_places → bit_and a ((2 ^ word_places - 1) - b) ≡ except a b
unfolding except
except_is a b h k =
    word_of_is
    (λ i. has a i && not (has b i))
    (bit_and a ((2 ^ word_places - 1) - b))
    (and_lt word_places a ((2 ^ word_places - 1) - b) h (ones_sub-lt word_places b))
    (λ i l. has_and a ((2 ^ word_places - 1) - b) i ∙ ap (λ (t : Bool). has a i && t) (has-not word_places b i k l))

-- the digits of a number below 2 ^ n, counted
ones_of : (n w : ℕ) → w < 2 ^ n → ones w ≡ count_of (has w) n
unfolding ones count_of
ones_of zero w h = ap ones (lt-one h)
ones_of (suc n) w h =
    let rest : count_of (λ i. has w (suc i)) n ≡ count_of (has (w / 2)) n = count_ext _ _ n (λ i l. has_next w i) in
    omega (arith, ones_step w, has_first w, count_first (has w) n, ones_of n (w / 2) (omega arith))

-- `count_ones(w)`
pub count_is : (w : ℕ) → w < 2 ^ word_places → ones w ≡ count w
unfolding count
count_is = ones_of word_places

-- the zeros below the lowest digit that is 1
trailing_of : (n w : ℕ) → count_trailing_zeros n w ≡ lowest_of (has w) n
unfolding count_trailing_zeros lowest_of
trailing_of zero w = refl
trailing_of (suc n) w =
    go (has w zero) (has_first w) (trailing_of n (w / 2) ∙ sym (lowest_ext (λ i. has w (suc i)) (has (w / 2)) n (λ i l. has_next w i)))
  where
    go : (b : Bool) {x y : ℕ} → cond b 1 0 ≡ w % 2 → x ≡ y → under (w % 2) x ≡ cond b 0 (suc y)
    go true {x} e q = ap (λ (d : ℕ). under d x) (sym e)
    go false e q = ap₂ (λ (d x : ℕ). under d x) (sym e) q

-- `trailing_zeros(w)`
pub lowest_is : (w : ℕ) → count_trailing_zeros word_places w ≡ lowest w
unfolding lowest
lowest_is = trailing_of word_places

-- `trailing_zeros(!w)`
pub free_is : (w : ℕ) → w < 2 ^ word_places → count_trailing_zeros word_places ((2 ^ word_places - 1) - w) ≡ lowest_free w
unfolding lowest_free
free_is w h =
    trailing_of word_places ((2 ^ word_places - 1) - w) ∙ lowest_ext (has ((2 ^ word_places - 1) - w)) (λ i. not (has w i)) word_places (λ i l. has-not word_places w i h l)
