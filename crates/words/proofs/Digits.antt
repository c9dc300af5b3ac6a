-- The binary digits of a number, read as places from the lowest up: place 0 is the remainder by two, and every other a place of the half. Assumes nothing.
use mathlib.Core.Path.{◌≡◌, refl, sym, ap, ap₂, ◌∙◌}
use mathlib.Core.Bool.{Bool, true, false, cond}
use Prim.Native.Nat.{ℕ, zero, suc, ◌+◌, ◌/◌, ◌%◌, ◌^◌, ◌≤◌, ◌<◌, zero-le, suc-le-suc}
use native.Mathlib.Nat.{le_of_suc-le-suc, not-suc-le-zero, mod-lt, zero-lt-suc, div-one, le_refl}
use native.Mathlib.Numerals.{one-add}
use native.Mathlib.Omega.{arith}
use lib.Dec.{eqb, eqb-suc-suc, eqb-zero-suc, eqb-suc-zero}
use lib.Arith.{lt-one}
use lib.Pow.{shr-shr}
use Rattle.words.specs.Words.{has}

-- a yes as 1, a no as 0: how a test meets a digit
abbrev pub num : Bool → ℕ
num b = cond b 1 0

pub num_le : (b : Bool) → num b ≤ 1
num_le true = le_refl 1
num_le false = zero-le

pub num_injective : (a b : Bool) → num a ≡ num b → a ≡ b
num_injective true true e = refl
num_injective true false e = absurd (omega arith)
num_injective false true e = absurd (omega arith)
num_injective false false e = refl

digit : (x : ℕ) → x < 2 → num (eqb x 1) ≡ x
digit zero l = refl
digit (suc zero) l = refl
digit (suc (suc x)) l = absurd (omega arith)

pub has_first : (w : ℕ) → cond (has w 0) 1 0 ≡ w % 2
unfolding has
has_first w = ap (λ (x : ℕ). num (eqb (x % 2) 1)) (div-one w) ∙ digit (w % 2) (mod-lt w (zero-lt-suc 1))

pub has_next : (w i : ℕ) → has w (suc i) ≡ has (w / 2) i
unfolding has
has_next w i = ap (λ (x : ℕ). eqb (x % 2) 1) (ap (λ (n : ℕ). w / 2 ^ n) (sym (one-add i)) ∙ sym (shr-shr w 1 i))

pub has_none : (i : ℕ) → has 0 i ≡ false
has_none zero = num_injective (has 0 zero) false (has_first 0)
has_none (suc i) = has_next 0 i ∙ has_none i

-- a number below 2 ^ n has no place from n on
pub has_from : (n w i : ℕ) → w < 2 ^ n → n ≤ i → has w i ≡ false
has_from zero w i h l = ap (λ (x : ℕ). has x i) (lt-one h) ∙ has_none i
has_from (suc n) w zero h l = absurd (not-suc-le-zero l)
has_from (suc n) w (suc i) h l = has_next w i ∙ has_from n (w / 2) i (omega arith) (le_of_suc-le-suc l)

-- numbers below 2 ^ n with the same places are the same
pub same_places : (n a b : ℕ) → a < 2 ^ n → b < 2 ^ n → ((i : ℕ) → i < n → has a i ≡ has b i) → a ≡ b
same_places zero a b ha hb h = lt-one ha ∙ sym (lt-one hb)
same_places (suc n) a b ha hb h =
    let low : a % 2 ≡ b % 2 = sym (has_first a) ∙ ap num (h zero (zero-lt-suc n)) ∙ has_first b in
    let high : a / 2 ≡ b / 2 =
    same_places n (a / 2) (b / 2) (omega arith) (omega arith) (λ i l. sym (has_next a i) ∙ h (suc i) (suc-le-suc l) ∙ has_next b i) in
    omega arith

-- ---- a digit put on top of a number below 2 ^ n

top_half : (b : Bool) (x n : ℕ) → (x + cond b (2 ^ suc n) 0) / 2 ≡ x / 2 + cond b (2 ^ n) 0
top_half true x n = let e : (x + 2 ^ suc n) / 2 ≡ x / 2 + 2 ^ n = omega arith in e
top_half false x n = let e : (x + 0) / 2 ≡ x / 2 + 0 = omega arith in e

top_low : (b : Bool) (x n : ℕ) → (x + cond b (2 ^ suc n) 0) % 2 ≡ x % 2
top_low true x n = let e : (x + 2 ^ suc n) % 2 ≡ x % 2 = omega arith in e
top_low false x n = let e : (x + 0) % 2 ≡ x % 2 = omega arith in e

pub has_top : (b : Bool) (x n i : ℕ) → x < 2 ^ n → has (x + cond b (2 ^ n) 0) i ≡ cond (eqb i n) b (has x i)
has_top b x zero zero l = num_injective (has (x + num b) zero) b (has_first (x + num b) ∙ omega (arith, num_le b))
has_top b x zero (suc i) l =
    has_next (x + num b) i
    ∙ ap (λ (y : ℕ). has y i) (omega (arith, num_le b))
    ∙ sym (has_next x i)
    ∙ ap (λ (t : Bool). cond t b (has x (suc i))) (sym (eqb-suc-zero i))
has_top b x (suc n) zero l =
    num_injective (has (x + cond b (2 ^ suc n) 0) zero) (has x zero) (has_first (x + cond b (2 ^ suc n) 0) ∙ top_low b x n ∙ sym (has_first x))
    ∙ ap (λ (t : Bool). cond t b (has x zero)) (sym (eqb-zero-suc n))
has_top b x (suc n) (suc i) l =
    has_next (x + cond b (2 ^ suc n) 0) i
    ∙ ap (λ (y : ℕ). has y i) (top_half b x n)
    ∙ has_top b (x / 2) n i (omega arith)
    ∙ ap₂ (λ (t y : Bool). cond t b y) (sym (eqb-suc-suc i n)) (sym (has_next x i))
