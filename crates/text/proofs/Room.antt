-- When a line is written: what the three tests of the definition say. Assumes nothing.
use Prim.Native.Nat.{ℕ, ◌+◌, ◌≤◌}
use mathlib.Core.Path.{◌≡◌}
use mathlib.Core.Bool.{true}
use native.Mathlib.Omega.{arith}
use Rattle.std.proofs.lemmas.Bool.Decides.{nat_tests}
use Rattle.text.specs.Text.{has_room, answer_room, most_tickets}

module _ (at places count held : ℕ) where
  pub room : at + answer_room ≤ places → count ≤ most_tickets → count ≤ held → has_room at places count held ≡ true
  unfolding has_room
  room fits few there = grind (arith, nat_tests)

  pub room_is : has_room at places count held ≡ true → (at + answer_room ≤ places) × (count ≤ most_tickets) × (count ≤ held)
  unfolding has_room
  room_is h = (grind (arith, nat_tests), grind (arith, nat_tests), grind (arith, nat_tests))
