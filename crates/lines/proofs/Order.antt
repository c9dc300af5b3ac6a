-- A line is told the first reason that it has. Assumes nothing.
use mathlib.Core.Bool.{true, false}
use mathlib.Core.List.{List, [], ◌∷◌}
use mathlib.Core.Path.{◌≡◌, refl, sym, ◌∙◌}
use Rattle.std.specs.Prelude.{Some, None, slice_get}
use Rattle.std.proofs.lemmas.Option.{none-some, slice_get_within, get_or_from_slice_get, slice_get-get_or}
use Prim.Native.Nat.{ℕ, ◌-◌, ◌≤◌, ◌<◌}
use native.Mathlib.Omega.{arith}
use borrow.Author.Tests.{eq-eqb, ne_eqb, lt-ltb, le-ltb}
use lib.ListN.{length, drop, get_or}
use Rattle.lines.specs.Lines.{space, fields_of, is_empty, longest_line}
use Rattle.lines.specs.declared.reasons.Fault.TheVariants.{Empty, TooLong, ByteOrderMark, CarriageReturn, Tab, SpaceAtEnd, NoLetter, WrongCount, NoNumber, TooLarge}
use Rattle.lines.specs.Faults.{count_of, begins_with_byte_order_mark, begins_with_letter, all_numbers, has_right_count, fault_of_fields, fault_of}

is_empty_lem : (line : List ℕ) → length line ≡ 0 → is_empty line ≡ true
is_empty_lem [] e = refl
is_empty_lem (byte ∷ bytes) e = absurd (omega arith)

is_filled : (line : List ℕ) → 0 < length line → is_empty line ≡ false
is_filled [] some = absurd (omega arith)
is_filled (byte ∷ bytes) some = refl

-- what the last byte tells
pub last_is : (line : List ℕ) (last : ℕ) → Some last ≡ slice_get line (length line - 1) → (0 < length line) × (get_or line (length line - 1) 0 ≡ last)
last_is line last e =
    let within = slice_get_within line (length line - 1) last (sym e) in
    (omega arith, get_or_from_slice_get line (length line - 1) last 0 (sym e))

pub no_last : (line : List ℕ) → None ≡ slice_get line (length line - 1) → length line ≡ 0
no_last [] e = refl
no_last (byte ∷ bytes) e = absurd (none-some _ (e ∙ slice_get-get_or (byte ∷ bytes) (length (byte ∷ bytes) - 1) 0 (omega arith)))

-- each law has what the tests before it left
module _ (line : List ℕ) where
  pub empty : length line ≡ 0 → fault_of line ≡ Empty
  unfolding fault_of
  empty e = rw (is_empty_lem line e)

  module _ (filled : 0 < length line) where
    pub too_long : longest_line < length line → fault_of line ≡ TooLong
    unfolding fault_of
    too_long long = simp (is_filled line filled, lt-ltb _ _ long)

    module _ (short : length line ≤ longest_line) where
      pub mark : begins_with_byte_order_mark line ≡ true → fault_of line ≡ ByteOrderMark
      unfolding fault_of
      mark begins = simp (is_filled line filled, le-ltb _ _ short, begins)

      module _ (unmarked : begins_with_byte_order_mark line ≡ false) where
        pub carriage_return : 0 < count_of 13 line → fault_of line ≡ CarriageReturn
        unfolding fault_of
        carriage_return some = simp (is_filled line filled, le-ltb _ _ short, unmarked, lt-ltb _ _ some)

        module _ (no_return : count_of 13 line ≡ 0) where
          pub tab : 0 < count_of 9 line → fault_of line ≡ Tab
          unfolding fault_of
          tab some = simp (is_filled line filled, le-ltb _ _ short, unmarked, no_return, lt-ltb _ _ some)

          module _ (no_tab : count_of 9 line ≡ 0) where
            pub space-at-end : get_or line (length line - 1) 0 ≡ space → fault_of line ≡ SpaceAtEnd
            unfolding fault_of
            space-at-end last = simp (is_filled line filled, le-ltb _ _ short, unmarked, no_return, no_tab, eq-eqb _ _ last)

            pub of_fields : (get_or line (length line - 1) 0 ≡ space → ⊥) → fault_of line ≡ fault_of_fields line
            unfolding fault_of
            of_fields ends = simp (is_filled line filled, le-ltb _ _ short, unmarked, no_return, no_tab, ne_eqb _ _ ends)

  pub no_letter : begins_with_letter (fields_of line) ≡ false → fault_of_fields line ≡ NoLetter
  unfolding fault_of_fields
  no_letter e = simp e

  module _ (letter : begins_with_letter (fields_of line) ≡ true) where
    pub no_number : all_numbers (drop 1 (fields_of line)) ≡ false → fault_of_fields line ≡ NoNumber
    unfolding fault_of_fields
    no_number e = simp (letter, e)

    module _ (numbers : all_numbers (drop 1 (fields_of line)) ≡ true) where
      pub wrong_count : has_right_count line ≡ false → fault_of_fields line ≡ WrongCount
      unfolding fault_of_fields
      wrong_count e = simp (letter, numbers, e)

      pub too_large : has_right_count line ≡ true → fault_of_fields line ≡ TooLarge
      unfolding fault_of_fields
      too_large e = simp (letter, numbers, e)
