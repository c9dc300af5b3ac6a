-- The digits of a number: how many there are, and that they are those that the library writes. Assumes nothing.
use Prim.Native.Char.{code}
use Prim.Native.Nat.{ℕ, zero, suc, ◌+◌, ◌*◌, ◌/◌, ◌%◌, ◌^◌, ◌≤◌, ◌<◌}
use mathlib.Core.Path.{◌≡◌, ap, ◌∙◌}
use mathlib.Core.List.{[], ◌∷◌, ◌++◌}
use mathlib.Core.Logic.{◌⊎◌, inl, inr}
use native.Mathlib.Omega.{arith}
use native.Mathlib.Nat.{pow-suc, one-le-pow}
use borrow.Author.Tests.{le-ltb, lt-ltb}
use lib.ListN.{length, length-append}
use Rattle.std.specs.Prelude.{Option, None, Some, IfNone, IfSome}
use Rattle.std.specs.Option.{unwrap_or}
use Rattle.std.specs.Fmt.{decimal}
use Rattle.std.proofs.lemmas.Bool.{cases_lt}
use Rattle.std.proofs.lemmas.Fmt.{decimal_from_appends, length-decimal-le}
use Rattle.text.specs.Text.{digits, decimal_text, most_digits}

digits_few : (places v : ℕ) → v < 10 → digits (suc places) v ≡ (code "0" + v) ∷ []
unfolding digits
digits_few places v few = simp (lt-ltb _ _ few)

digits_more : (places v : ℕ) → 10 ≤ v → digits (suc places) v ≡ digits places (v / 10) ++ ((code "0" + v % 10) ∷ [])
unfolding digits
digits_more places v more = simp (le-ltb _ _ more)

-- a number is one digit long, or one digit longer than its tenth
digits-length : (places v : ℕ)
    → ((v < 10) × (length (digits (suc places) v) ≡ 1))
    ⊎ ((10 ≤ v) × (length (digits (suc places) v) ≡ length (digits places (v / 10)) + 1))
digits-length places v = elim (cases_lt v 10) [
  | inl few ↦ inl (few, ap length (digits_few places v few))
  | inr more ↦ inr (more, ap length (digits_more places v more) ∙ simp length-append)
]

digits_within : (places v : ℕ) → length (digits places v) ≤ places
unfolding digits
digits_within zero v = omega arith
digits_within (suc places) v = omega (arith, digits-length places v, digits_within places (v / 10))

digits_some : (places v : ℕ) → 0 < length (digits (suc places) v)
digits_some places v = omega (arith, digits-length places v)

digits-below : (places exponent v : ℕ) → v < 10 ^ suc exponent → length (digits places v) ≤ suc exponent
unfolding digits
digits-below zero exponent v below = omega arith
digits-below (suc places) zero v below = omega (arith, digits-length places v)
digits-below (suc places) (suc exponent) v below =
    let tenth : v < 10 ^ suc exponent * 10 = rw pow-suc at below in
    let shorter : v / 10 < 10 ^ suc exponent = omega arith in
    omega (arith, digits-length places v, digits-below places exponent (v / 10) shorter)

digits_above : (places exponent v : ℕ) → 10 ^ exponent ≤ v → exponent < places → exponent < length (digits places v)
digits_above zero exponent v above fits = omega arith
digits_above (suc places) zero v above fits = digits_some places v
digits_above (suc places) (suc exponent) v above fits =
    let tenth : 10 ^ exponent * 10 ≤ v = rw pow-suc at above in
    let one : 1 ≤ 10 ^ exponent = one-le-pow exponent 10 (omega arith) in
    omega (arith, digits-length places v, digits_above places exponent (v / 10) (omega arith) (omega arith))

-- no number is longer than the most digits
pub decimal-length : (v : ℕ) → length (decimal_text v) ≤ most_digits
unfolding decimal_text
decimal-length v = digits_within most_digits v

-- each has a digit
pub decimal_some : (v : ℕ) → 0 < length (decimal_text v)
unfolding decimal_text
decimal_some v = digits_some 19 v

-- a number below a power of ten has at most as many digits as the power has zeros
pub decimal-below : (exponent v : ℕ) → 0 < exponent → v < 10 ^ exponent → length (decimal_text v) ≤ exponent
unfolding decimal_text
decimal-below zero v some below = omega arith
decimal-below (suc exponent) v some below = digits-below most_digits exponent v below

-- any other has more digits than the power has zeros, as far as the most digits go
pub decimal_above : (exponent v : ℕ) → exponent < most_digits → 10 ^ exponent ≤ v → exponent < length (decimal_text v)
unfolding decimal_text
decimal_above exponent v fits above = digits_above most_digits exponent v above fits

-- The highest power of ten that is not above a number has one zero less than the number has digits, and 0, which no power is below, has one digit:
-- the four facts are what the library says of its answer.
pub power_digits : (v : ℕ) (power : Option ℕ)
    → IfNone power (v ≡ 0)
    → IfSome power (λ k. 10 ^ k ≤ v)
    → IfSome power (λ k. v < 10 * 10 ^ k)
    → IfSome power (λ k. k < most_digits)
    → unwrap_or power 0 + 1 ≡ length (decimal_text v)
power_digits v None nothing above below fits = omega (arith, decimal_some v, decimal-below 1 v (omega arith) (omega arith))
power_digits v (Some k) nothing above below fits =
    let under : v < 10 ^ suc k = rw pow-suc (omega arith) in
    omega (arith, decimal_above k v fits above, decimal-below (suc k) v (omega arith) under)

-- a number of 64 bits has the text that the library writes of it
pub decimal_is : (v : ℕ) → v < 2 ^ 64 → decimal_text v ≡ decimal v
unfolding decimal_text
decimal_is v small =
    decimal_from_appends digits (record { one = digits_few; more = digits_more }) most_digits v small
    (length-decimal-le most_digits v (omega arith) (omega arith) small)
