-- The order by which a get chooses between timestamps is strict, by that of the numbers it compares. Assumes nothing.
use mathlib.Core.Bool.{false, true}
use mathlib.Core.Path.{◌≡◌, refl}
use Prim.Native.Nat.{ℕ}
use native.Mathlib.Nat.{le_refl}
use native.Mathlib.Omega.{arith}
use lib.Dec.{ltb}
use borrow.Author.Tests.{le-ltb, lt-ltb, ltb-true}
use Rattle.calls.specs.declared.Which.{Which}
use Rattle.calls.specs.declared.Which.TheVariants.{Earliest, Latest, Named}
use Rattle.rows.specs.Choices.{taken_before}

pub taken_irreflexive : (which : Which) (timestamp : ℕ) → taken_before which timestamp timestamp ≡ false
taken_irreflexive Earliest timestamp = le-ltb timestamp timestamp (le_refl timestamp)
taken_irreflexive Latest timestamp = le-ltb timestamp timestamp (le_refl timestamp)
taken_irreflexive (Named named) timestamp = refl

earlier_still : (first second third : ℕ) → ltb first second ≡ true → ltb second third ≡ true → ltb first third ≡ true
earlier_still first second third earlier then = lt-ltb first third (omega (arith, ltb-true first second earlier, ltb-true second third then))

pub taken_transitive : (which : Which) (first second third : ℕ) → taken_before which first second ≡ true → taken_before which second third ≡ true
    → taken_before which first third ≡ true
taken_transitive Earliest first second third earlier then = earlier_still first second third earlier then
taken_transitive Latest first second third earlier then = earlier_still third second first then earlier
taken_transitive (Named named) first second third earlier then = earlier
