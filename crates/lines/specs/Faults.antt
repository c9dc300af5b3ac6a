-- Why a line is not readable, for the person who wrote it; nothing of document 01 is said here. Assumes nothing.
use Rattle.std.specs.Prelude.{Bool, true, false, cond, not, ◌&&◌, List, [], ◌∷◌, ℕ, ◌-◌, eqb, ltb, nat_eq, length, drop, get_or, is_some}
use Rattle.std.specs.List.{count_by, starts_with}
use Rattle.lines.specs.Lines.{space, fields_of, is_empty, all_digits, form_of, longest_line}
use Rattle.lines.specs.declared.reasons.Fault.{Fault}
use Rattle.lines.specs.declared.reasons.Fault.TheVariants.{Empty, TooLong, ByteOrderMark, CarriageReturn, Tab, SpaceAtEnd, NoLetter, WrongCount, NoNumber, TooLarge}

-- ---- what is asked of the bytes

-- how often a byte stands in a line
unfoldable pub count_of : ℕ → List ℕ → ℕ
count_of byte line = count_by (λ first. eqb first byte) line

-- a byte stands somewhere in a line
abbrev pub holds : ℕ → List ℕ → Bool
holds byte line = ltb 0 (count_of byte line)

-- the first three bytes are EF BB BF, which some editors write before a text
unfoldable pub begins_with_byte_order_mark : List ℕ → Bool
begins_with_byte_order_mark line = starts_with nat_eq line (239 ∷ 187 ∷ 191 ∷ [])

-- the last byte is a space
abbrev pub ends_with_space : List ℕ → Bool
ends_with_space line = eqb (get_or line (length line - 1) 0) space

-- ---- what is asked of the fields

-- a byte is a letter where its form makes a call, of zeros as of any numbers
unfoldable pub is_letter : ℕ → Bool
is_letter byte = is_some ((form_of byte).line (λ place. 0))

-- the first field is a letter alone
unfoldable pub begins_with_letter : List (List ℕ) → Bool
begins_with_letter [] = false
begins_with_letter ([] ∷ fields) = false
begins_with_letter ((letter ∷ []) ∷ fields) = is_letter letter
begins_with_letter ((letter ∷ (byte ∷ bytes)) ∷ fields) = false

-- each field is a number, however large: digits, at least one
unfoldable pub all_numbers : List (List ℕ) → Bool
all_numbers [] = true
all_numbers (field ∷ fields) = not (is_empty field) && (all_digits field && all_numbers fields)

-- behind the first byte stand as many fields as its letter has limits
unfoldable pub has_right_count : List ℕ → Bool
has_right_count line = eqb (length (drop 1 (fields_of line))) (length (form_of (get_or line 0 0)).limits)

-- ---- the reasons

-- the number that is told of each
abbrev pub fault_number : Fault → ℕ
fault_number Empty = 1
fault_number TooLong = 2
fault_number ByteOrderMark = 3
fault_number CarriageReturn = 4
fault_number Tab = 5
fault_number SpaceAtEnd = 6
fault_number NoLetter = 7
fault_number WrongCount = 8
fault_number NoNumber = 9
fault_number TooLarge = 10

-- the reason of the first row whose test holds, or the other reason where none does
abbrev pub first_of : List (Fault × Bool) → Fault → Fault
first_of [] other = other
first_of (row ∷ rows) other = cond row.1 row.0 (first_of rows other)

-- The fields behind the letter are numbers before they are counted: two spaces side by side are no number, and not a number too many.
-- A line of which no test holds is readable, but for a number that is too large for its place.
unfoldable pub fault_of_fields : List ℕ → Fault
fault_of_fields line =
    first_of
    ((NoLetter, not (begins_with_letter (fields_of line)))
    ∷ (NoNumber, not (all_numbers (drop 1 (fields_of line))))
    ∷ (WrongCount, not (has_right_count line))
    ∷ [])
    TooLarge

-- 13 is the carriage return, 9 the tab
unfoldable pub fault_of : List ℕ → Fault
fault_of line =
    first_of
    ((Empty, is_empty line)
    ∷ (TooLong, ltb longest_line (length line))
    ∷ (ByteOrderMark, begins_with_byte_order_mark line)
    ∷ (CarriageReturn, holds 13 line)
    ∷ (Tab, holds 9 line)
    ∷ (SpaceAtEnd, ends_with_space line)
    ∷ [])
    (fault_of_fields line)
