-- A number read from left to right, from some place of its field on. Assumes nothing.
use mathlib.Core.Bool.{Bool, true, false, cond, ◌&&◌, and-false}
use mathlib.Core.List.{List, [], ◌∷◌}
use Rattle.std.specs.Prelude.{Option, None, Some}
use mathlib.Core.Path.{◌≡◌, refl, ◌∙◌}
use Prim.Native.Nat.{ℕ, suc, ◌+◌, ◌-◌, ◌*◌, ◌≤◌, ◌<◌}
use native.Mathlib.Omega.{arith}
use borrow.Author.Tests.{le-leb, lt-leb, lt-ltb, le-ltb, ltb-true}
use lib.Dec.{ltb}
use lib.ListN.{length, drop, get_or, drop_of_length-le}
use lib.Seq.{drop-cons}
use native.Mathlib.Numerals.{add-one}
use Rattle.lines.specs.Lines.{is_empty, all_digits, decimal, number_below}

-- what the rest of a field comes to where the bytes before it came to a value
unfoldable pub number_from : ℕ → ℕ → List ℕ → Option ℕ
number_from limit before field =
    cond (all_digits field && ltb (decimal before field) limit) (Some (decimal before field)) None

pub from_zero : (limit : ℕ) (field : List ℕ) → 0 < length field → number_below limit field ≡ number_from limit 0 field
unfolding number_from
from_zero limit [] filled = absurd (omega arith)
from_zero limit (byte ∷ bytes) filled = refl

pub no_bytes : (limit : ℕ) (field : List ℕ) → length field ≡ 0 → number_below limit field ≡ None
no_bytes limit [] e = refl
no_bytes limit (byte ∷ bytes) e = absurd (omega arith)

pub at-end : (limit value : ℕ) → value < limit → number_from limit value [] ≡ Some value
unfolding number_from all_digits decimal
at-end limit value fits = simp (lt-ltb _ _ fits)

pub one_digit : (limit value byte : ℕ) (bytes : List ℕ)
    → 48 ≤ byte
    → byte ≤ 57
    → number_from limit value (byte ∷ bytes) ≡ number_from limit (value * 10 + (byte - 48)) bytes
unfolding number_from all_digits decimal
one_digit limit value byte bytes low high = simp (le-leb _ _ low, le-leb _ _ high)

pub below-digits : (limit value byte : ℕ) (bytes : List ℕ) → byte < 48 → number_from limit value (byte ∷ bytes) ≡ None
unfolding number_from all_digits
below-digits limit value byte bytes low = simp (lt-leb _ _ low)

pub above_digits : (limit value byte : ℕ) (bytes : List ℕ) → 57 < byte → number_from limit value (byte ∷ bytes) ≡ None
unfolding number_from all_digits
above_digits limit value byte bytes high = simp (le-leb 48 byte (omega arith), lt-leb _ _ high)

-- further digits never make a number smaller, so that one past the limit stays past it
grows : (value : ℕ) (bytes : List ℕ) → value ≤ decimal value bytes
unfolding decimal
grows value [] = omega arith
grows value (byte ∷ bytes) = omega (arith, grows (value * 10 + (byte - 48)) bytes)

pub too_large : (limit value : ℕ) (bytes : List ℕ) → limit ≤ value → number_from limit value bytes ≡ None
unfolding number_from
too_large limit value bytes past =
    let stays : limit ≤ decimal value bytes = omega (arith, grows value bytes) in
    simp (le-ltb _ _ stays, and-false)

-- ---- a field under way: the bytes before a place are digits that come to a value

module _ (limit value : ℕ) (field : List ℕ) (at : ℕ) where
  pub met_all : length field ≤ at → value < limit → number_from limit value (drop at field) ≡ Some value
  met_all past fits = rw (drop_of_length-le field past) (at-end limit value fits)

  module _ (here : at < length field) where
    pub met_digit : 48 ≤ get_or field at 0
        → get_or field at 0 ≤ 57
        → number_from limit value (drop at field) ≡ number_from limit (value * 10 + (get_or field at 0 - 48)) (drop (at + 1) field)
    met_digit low high = rw (drop-cons field at 0 here, add-one at) (one_digit limit value (get_or field at 0) (drop (suc at) field) low high)

    pub met_lower : get_or field at 0 < 48 → number_from limit value (drop at field) ≡ None
    met_lower low = rw (drop-cons field at 0 here) (below-digits limit value (get_or field at 0) (drop (suc at) field) low)

    pub met_higher : 57 < get_or field at 0 → number_from limit value (drop at field) ≡ None
    met_higher high = rw (drop-cons field at 0 here) (above_digits limit value (get_or field at 0) (drop (suc at) field) high)

    pub met_too_large : 48 ≤ get_or field at 0
        → get_or field at 0 ≤ 57
        → limit ≤ value * 10 + (get_or field at 0 - 48)
        → number_from limit value (drop at field) ≡ None
    met_too_large low high past = met_digit low high ∙ too_large limit (value * 10 + (get_or field at 0 - 48)) (drop (at + 1) field) past

-- ---- a number is below its limit

below_by : (empty digits below : Bool) (limit said value : ℕ)
    → ltb said limit ≡ below
    → cond empty None (cond (digits && below) (Some said) None) ≡ Some value
    → value < limit
below_by true digits below limit said value test e = let no : ◌≡◌ {A = ℕ} 0 1 = cc in absurd (omega arith)
below_by false false below limit said value test e = let no : ◌≡◌ {A = ℕ} 0 1 = cc in absurd (omega arith)
below_by false true false limit said value test e = let no : ◌≡◌ {A = ℕ} 0 1 = cc in absurd (omega arith)
below_by false true true limit said value test e =
    let same : said ≡ value = cc in
    omega (arith, ltb-true said limit test)

pub number_below_lem : (limit : ℕ) (field : List ℕ) (value : ℕ) → number_below limit field ≡ Some value → value < limit
number_below_lem limit field value e =
    below_by (is_empty field) (all_digits field) (ltb (decimal 0 field) limit) limit (decimal 0 field) value refl e
