-- A line that is not readable and has none of the reasons 1 to 9 has a number that is too large for its place. Assumes nothing.
use mathlib.Core.Bool.{Bool, true, false, cond, not, ◌&&◌, false≢true}
use mathlib.Core.List.{List, [], ◌∷◌}
use Rattle.std.specs.Prelude.{Option, None, Some, is_some}
use mathlib.Core.Path.{◌≡◌, refl, sym, ap, ◌∙◌}
use Prim.Native.Nat.{ℕ, suc, ◌-◌}
use native.Mathlib.Omega.{arith}
use borrow.Author.Tests.{eqb-true, lt-ltb, ltb-false, le-leb, not-false}
use lib.Dec.{eqb, leb, ltb}
use lib.ListN.{length, drop, get_or}
use Rattle.lines.specs.Lines.{
  space,
  fields_of,
  all_digits,
  is_empty,
  decimal,
  number_below,
  with_number,
  numbers_of,
  form_of,
  line_with,
  line_of,
  longest_line,
  read_line,
}
use Rattle.lines.specs.Claims.{AllBelow, TooLargeTold}
use Rattle.lines.specs.Faults.{count_of, begins_with_byte_order_mark, is_letter, begins_with_letter, all_numbers, has_right_count, fault_of_fields, fault_of}
use Rattle.lines.specs.declared.reasons.Fault.{Fault}
use Rattle.lines.specs.declared.reasons.Fault.TheVariants.{Empty, TooLong, ByteOrderMark, CarriageReturn, Tab, SpaceAtEnd, NoLetter, WrongCount, NoNumber, TooLarge}
use Rattle.lines.proofs.Told.{Said, alike, letter_of, Right, first_letter}

digits-read : (empty digits below : Bool) (said : ℕ) (rest : Bool)
    → (not empty && (digits && rest)) ≡ true
    → below ≡ true
    → (cond empty None (cond (digits && below) (Some said) None) ≡ Some said) × (rest ≡ true)
digits-read true digits below said rest e fits = absurd (false≢true e)
digits-read false false below said rest e fits = absurd (false≢true e)
digits-read false true below said rest e fits = (rw fits, e)

rest_none : (read : Option ℕ) (rest : Option (List ℕ)) (value : ℕ) → read ≡ Some value → with_number read rest ≡ None → rest ≡ None
rest_none read None value is e = refl
rest_none None (Some more) value is e = cc
rest_none (Some held) (Some more) value is e = cc

all_read : (limits : List ℕ) (fields : List (List ℕ))
    → all_numbers fields ≡ true
    → length fields ≡ length limits
    → AllBelow limits fields
    → numbers_of limits fields ≡ None
    → ⊥
unfolding numbers_of all_numbers
all_read [] [] numbers same below e = let no : ◌≡◌ {A = ℕ} 0 1 = cc in absurd (omega arith)
all_read [] (field ∷ fields) numbers same below e = absurd (omega arith)
all_read (limit ∷ limits) [] numbers same below e = absurd (omega arith)
all_read (limit ∷ limits) (field ∷ fields) numbers same below e =
    let first = digits-read (is_empty field) (all_digits field) (ltb (decimal 0 field) limit) (decimal 0 field) (all_numbers fields) numbers (lt-ltb _ _ (below 0 (omega arith))) in
    all_read limits fields first.1 (omega arith) (λ place inside. below (suc place) (omega arith))
    (rest_none (number_below limit field) (numbers_of limits fields) (decimal 0 field) first.0 e)

letter_reads : (letter : ℕ) (numbers : Option (List ℕ)) → is_letter letter ≡ true → line_with (form_of letter) numbers ≡ None → numbers ≡ None
unfolding is_letter
letter_reads letter None known e = refl
letter_reads letter (Some numbers) known e =
    absurd (false≢true (sym (ap is_some e) ∙ sym (alike letter (λ place. 0) (λ place. get_or numbers place 0)) ∙ known))

not-below : (fields : List (List ℕ)) → Right fields → line_of fields ≡ None → AllBelow (form_of (letter_of fields)).limits (drop 1 fields) → ⊥
unfolding line_of letter_of begins_with_letter
not-below [] right e below = absurd (false≢true right.0)
not-below ([] ∷ fields) right e below = absurd (false≢true right.0)
not-below ((letter ∷ []) ∷ fields) right e below =
    all_read (form_of letter).limits fields right.1.0 right.1.1 below (letter_reads letter (numbers_of (form_of letter).limits fields) right.0 e)
not-below ((letter ∷ (byte ∷ bytes)) ∷ fields) right e below = absurd (false≢true right.0)

-- where the last reason is told, no test before it holds
passed_over : (test : Bool) (reason rest : Fault) → (reason ≡ TooLarge → ⊥) → cond test reason rest ≡ TooLarge → (test ≡ false) × (rest ≡ TooLarge)
passed_over true reason rest other e = absurd (other e)
passed_over false reason rest other e = (refl, e)

short_line : (line : List ℕ) → fault_of line ≡ TooLarge → (is_empty line ≡ false) × (leb (length line) longest_line ≡ true) × (fault_of_fields line ≡ TooLarge)
unfolding fault_of
short_line line e =
    let filled = passed_over (is_empty line) Empty _ (λ q. cc) e in
    let short = passed_over (ltb longest_line (length line)) TooLong _ (λ q. cc) filled.1 in
    let unmarked = passed_over (begins_with_byte_order_mark line) ByteOrderMark _ (λ q. cc) short.1 in
    let no_return = passed_over (ltb 0 (count_of 13 line)) CarriageReturn _ (λ q. cc) unmarked.1 in
    let no_tab = passed_over (ltb 0 (count_of 9 line)) Tab _ (λ q. cc) no_return.1 in
    let ends = passed_over (eqb (get_or line (length line - 1) 0) space) SpaceAtEnd _ (λ q. cc) no_tab.1 in
    (filled.0, le-leb _ _ (ltb-false longest_line (length line) short.0), ends.1)

all_right : (line : List ℕ) → fault_of_fields line ≡ TooLarge
    → (begins_with_letter (fields_of line) ≡ true)
    × Said (form_of (get_or line 0 0)).limits (drop 1 (fields_of line))
unfolding fault_of_fields has_right_count
all_right line e =
    let letter = passed_over (not (begins_with_letter (fields_of line))) NoLetter _ (λ q. cc) e in
    let numbers = passed_over (not (all_numbers (drop 1 (fields_of line)))) NoNumber _ (λ q. cc) letter.1 in
    let count = passed_over (not (has_right_count line)) WrongCount _ (λ q. cc) numbers.1 in
    (not-false _ letter.0, (not-false _ numbers.0, eqb-true _ _ (not-false _ count.0)))

pub too_large_told : TooLargeTold
unfolding read_line
too_large_told [] e reason = absurd (false≢true (sym (short_line [] reason).0))
too_large_told (letter ∷ bytes) e reason =
    let tests = short_line (letter ∷ bytes) reason in
    let right = all_right (letter ∷ bytes) tests.2 in
    let same = first_letter letter bytes right.0 in
    let unread : line_of (fields_of (letter ∷ bytes)) ≡ None = rw tests.1 at e in
    (right.1.0, λ below. not-below (fields_of (letter ∷ bytes)) (right.0, rw same right.1) unread (rw same below))
