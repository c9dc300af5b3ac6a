-- A readable line has none of the reasons 1 to 9. Assumes nothing.
use mathlib.Core.Bool.{Bool, true, false, cond, not, ◌&&◌, false≢true}
use mathlib.Core.List.{List, [], ◌∷◌}
use Rattle.std.specs.Prelude.{Option, None, Some, is_some}
use Rattle.std.proofs.lemmas.List.Sums.{sum_by-cons}
use mathlib.Core.Path.{◌≡◌, refl, sym, ap, ◌∙◌}
use Prim.Native.Nat.{ℕ, ◌+◌, ◌-◌, ◌≤◌}
use native.Mathlib.Omega.{arith}
use borrow.Author.Tests.{eqb-true, eqb-false, eq-eqb, ne_eqb, leb-true, not-true}
use lib.Dec.{eqb, leb, ltb}
use lib.ListN.{length, drop, get_or}
use Rattle.calls.specs.declared.Call.{Call}
use Rattle.lines.specs.Lines.{
  space,
  fields_of,
  join_first,
  is_digit,
  all_digits,
  is_empty,
  decimal,
  number_below,
  with_number,
  numbers_of,
  Form,
  forms,
  form_among,
  form_of,
  line_with,
  line_of,
  longest_line,
  read_line,
}
use Rattle.lines.specs.Claims.{FaultsTold}
use Rattle.lines.specs.Faults.{count_of, begins_with_byte_order_mark, is_letter, begins_with_letter, all_numbers, has_right_count, fault_of}
use Rattle.lines.proofs.Fields.{some_field}
use Rattle.lines.proofs.Every.{every, ◌&◌, no_more}
use Rattle.lines.proofs.Bytes.{letter_alone, and_left, and_right, follows, numbers_behind}
use Rattle.lines.specs.declared.reasons.Fault.TheVariants.{TooLarge}
use Rattle.lines.proofs.Order.{of_fields, too_large}

-- ---- the numbers that were read

-- these fields are numbers, and so many
abbrev pub Said : List ℕ → List (List ℕ) → Type 0
Said limits fields = (all_numbers fields ≡ true) × (length fields ≡ length limits)

digits_by : (empty digits below : Bool) (said value : ℕ) (rest : Bool)
    → cond empty None (cond (digits && below) (Some said) None) ≡ Some value
    → rest ≡ true
    → (not empty && (digits && rest)) ≡ true
digits_by true digits below said value rest e others = let no : ◌≡◌ {A = ℕ} 0 1 = cc in absurd (omega arith)
digits_by false false below said value rest e others = let no : ◌≡◌ {A = ℕ} 0 1 = cc in absurd (omega arith)
digits_by false true below said value rest e others = others

more_said : (limit : ℕ) (limits field : List ℕ) (fields : List (List ℕ)) (read : Option ℕ) (rest : Option (List ℕ)) (numbers : List ℕ)
    → number_below limit field ≡ read
    → with_number read rest ≡ Some numbers
    → ((more : List ℕ) → rest ≡ Some more → Said limits fields)
    → Said (limit ∷ limits) (field ∷ fields)
unfolding all_numbers
more_said limit limits field fields None rest numbers is e others = let no : ◌≡◌ {A = ℕ} 0 1 = cc in absurd (omega arith)
more_said limit limits field fields (Some value) None numbers is e others = let no : ◌≡◌ {A = ℕ} 0 1 = cc in absurd (omega arith)
more_said limit limits field fields (Some value) (Some more) numbers is e others =
    let rest = others more refl in
    (digits_by (is_empty field) (all_digits field) (ltb (decimal 0 field) limit) (decimal 0 field) value (all_numbers fields) is rest.0, omega (arith, rest.1))

numbers_said : (limits : List ℕ) (fields : List (List ℕ)) (numbers : List ℕ) → numbers_of limits fields ≡ Some numbers → Said limits fields
unfolding numbers_of all_numbers
numbers_said [] [] numbers e = (refl, refl)
numbers_said [] (field ∷ fields) numbers e = let no : ◌≡◌ {A = ℕ} 0 1 = cc in absurd (omega arith)
numbers_said (limit ∷ limits) [] numbers e = let no : ◌≡◌ {A = ℕ} 0 1 = cc in absurd (omega arith)
numbers_said (limit ∷ limits) (field ∷ fields) numbers e =
    more_said limit limits field fields (number_below limit field) (numbers_of limits fields) numbers refl e (numbers_said limits fields)

-- ---- the fields

-- whether a form makes a call does not depend on the numbers
abbrev pub Alike : Form → Type 0
Alike form = (n m : ℕ → ℕ) → is_some (form.line n) ≡ is_some (form.line m)

pub alike : (letter : ℕ) → Alike (form_of letter)
alike letter =
    every {Holds = Alike} forms letter
    ((λ n m. refl)
    & (λ n m. refl)
    & (λ n m. refl)
    & (λ n m. refl)
    & (λ n m. refl)
    & (λ n m. refl)
    & (λ n m. refl)
    & (λ n m. refl)
    & (λ n m. refl)
    & (λ n m. refl)
    & (λ n m. refl)
    & (λ n m. refl)
    & (λ n m. refl)
    & (λ n m. refl)
    & (λ n m. refl)
    & no_more)
    (λ n m. refl)

unfoldable pub letter_of : List (List ℕ) → ℕ
letter_of fields = get_or (get_or fields 0 []) 0 0

abbrev pub Right : List (List ℕ) → Type 0
Right fields = (begins_with_letter fields ≡ true) × Said (form_of (letter_of fields)).limits (drop 1 fields)

letter_right : (letter : ℕ) (fields : List (List ℕ)) (call : Call) (numbers : Option (List ℕ))
    → numbers_of (form_of letter).limits fields ≡ numbers
    → line_with (form_of letter) numbers ≡ Some call
    → Right ((letter ∷ []) ∷ fields)
unfolding letter_of begins_with_letter is_letter
letter_right letter fields call None is e = let no : ◌≡◌ {A = ℕ} 0 1 = cc in absurd (omega arith)
letter_right letter fields call (Some numbers) is e =
    (alike letter (λ place. 0) (λ place. get_or numbers place 0) ∙ ap is_some e, numbers_said (form_of letter).limits fields numbers is)

fields_right : (fields : List (List ℕ)) (call : Call) → line_of fields ≡ Some call → Right fields
unfolding line_of
fields_right [] call e = let no : ◌≡◌ {A = ℕ} 0 1 = cc in absurd (omega arith)
fields_right ([] ∷ fields) call e = let no : ◌≡◌ {A = ℕ} 0 1 = cc in absurd (omega arith)
fields_right ((letter ∷ []) ∷ fields) call e = letter_right letter fields call (numbers_of (form_of letter).limits fields) refl e
fields_right ((letter ∷ (byte ∷ bytes)) ∷ fields) call e = let no : ◌≡◌ {A = ℕ} 0 1 = cc in absurd (omega arith)

-- the letter of the fields is the line's first byte
first_by : (apart : Bool) (letter : ℕ) (bytes : List ℕ)
    → begins_with_letter (cond apart ([] ∷ fields_of bytes) (join_first letter (fields_of bytes))) ≡ true
    → letter_of (cond apart ([] ∷ fields_of bytes) (join_first letter (fields_of bytes))) ≡ letter
unfolding begins_with_letter letter_of
first_by true letter bytes e = absurd (false≢true e)
first_by false letter bytes e = rw (some_field bytes).2

pub first_letter : (letter : ℕ) (bytes : List ℕ) → begins_with_letter (fields_of (letter ∷ bytes)) ≡ true → letter_of (fields_of (letter ∷ bytes)) ≡ letter
unfolding fields_of
first_letter letter bytes e = first_by (eqb letter space) letter bytes e

-- ---- the bytes

-- a byte that is no letter is not the first of a line that begins with one
not_letter : (byte letter : ℕ) → is_letter byte ≡ false → is_letter letter ≡ true → letter ≡ byte → ⊥
not_letter byte letter unread known e = false≢true (sym unread ∙ ap is_letter (sym e) ∙ known)

other_letter : (byte letter : ℕ) → is_letter byte ≡ false → is_letter letter ≡ true → eqb letter byte ≡ false
other_letter byte letter unread known = ne_eqb letter byte (not_letter byte letter unread known)

step_by : (apart filled : Bool) (first : ℕ) (bytes : List ℕ)
    → cond apart (filled && follows false bytes) (is_digit first && follows true bytes) ≡ true
    → follows (not apart) bytes ≡ true
step_by true filled first bytes e = and_right filled (follows false bytes) e
step_by false filled first bytes e = and_right (is_digit first) (follows true bytes) e

next_follows : (filled : Bool) (first : ℕ) (bytes : List ℕ) → follows filled (first ∷ bytes) ≡ true → follows (not (eqb first space)) bytes ≡ true
unfolding follows
next_follows filled first bytes e = step_by (eqb first space) filled first bytes e

-- a byte that is neither a digit nor a space stands nowhere behind the letter
module _ (byte : ℕ) (no_digit : is_digit byte ≡ false) (no_space : eqb byte space ≡ false) where
  none_by : (own filled : Bool) (first : ℕ) (bytes : List ℕ)
      → eqb first byte ≡ own
      → follows filled (first ∷ bytes) ≡ true
      → count_of byte bytes ≡ 0
      → cond own 1 0 + count_of byte bytes ≡ 0
  unfolding follows
  none_by true filled first bytes is e rest =
      absurd (false≢true (simp (no_space, no_digit) at (rw (eqb-true first byte is) at e)))
  none_by false filled first bytes is e rest = omega (arith, rest)

  none_behind : (filled : Bool) (bytes : List ℕ) → follows filled bytes ≡ true → count_of byte bytes ≡ 0
  unfolding count_of
  none_behind filled [] e = refl
  none_behind filled (first ∷ bytes) e =
      sum_by-cons (λ other. cond (eqb other byte) 1 0) first bytes
      ∙ none_by (eqb first byte) filled first bytes refl e (none_behind (not (eqb first space)) bytes (next_follows filled first bytes e))

  none_at_all : (letter : ℕ) (bytes : List ℕ) → is_letter byte ≡ false → is_letter letter ≡ true → follows true bytes ≡ true → count_of byte (letter ∷ bytes) ≡ 0
  unfolding count_of
  none_at_all letter bytes unread known e =
      let behind : count_of byte bytes ≡ 0 = none_behind true bytes e in
      sum_by-cons (λ other. cond (eqb other byte) 1 0) letter bytes ∙ rw (other_letter byte letter unread known) (omega (arith, behind))

-- the last byte is no space
last_filled : (before : ℕ) (bytes : List ℕ) → follows (not (eqb before space)) bytes ≡ true → eqb (get_or (before ∷ bytes) (length bytes) 0) space ≡ false
unfolding follows
last_filled before [] e = not-true (eqb before space) e
last_filled before (byte ∷ bytes) e = last_filled byte bytes (next_follows (not (eqb before space)) byte bytes e)

-- ---- the line

module _ (letter : ℕ) (bytes : List ℕ) (right : Right (fields_of (letter ∷ bytes))) where
  alone : is_letter letter ≡ true
  alone = and_left (is_letter letter) _ (sym (letter_alone letter bytes) ∙ right.0)

  behind : follows true bytes ≡ true
  behind = numbers_behind (letter ∷ bytes) right.0 ∙ right.1.0

  right_count : has_right_count (letter ∷ bytes) ≡ true
  unfolding has_right_count
  right_count =
      let same = first_letter letter bytes right.0 in
      eq-eqb _ _ (right.1.1 ∙ ap (λ (byte : ℕ). length (form_of byte).limits) same)

  no_reason : length (letter ∷ bytes) ≤ longest_line → fault_of (letter ∷ bytes) ≡ TooLarge
  unfolding begins_with_byte_order_mark is_letter form_among
  no_reason short =
      let unspaced = other_letter space letter refl alone in
      let last : length bytes ≡ length (letter ∷ bytes) - 1 = omega arith in
      let ends = last_filled letter bytes (rw unspaced behind) in
      of_fields (letter ∷ bytes) (omega arith) short
      (rw (ne_eqb 239 letter (λ e. not_letter 239 letter refl alone (sym e))))
      (none_at_all 13 refl refl letter bytes refl alone behind)
      (none_at_all 9 refl refl letter bytes refl alone behind)
      (λ e. eqb-false _ space ends (ap (λ (place : ℕ). get_or (letter ∷ bytes) place 0) last ∙ e))
      ∙ too_large (letter ∷ bytes) right.0 right.1.0 right_count

read_by : (short : Bool) (line : List ℕ) (call : Call)
    → leb (length line) longest_line ≡ short
    → cond short (line_of (fields_of line)) None ≡ Some call
    → fault_of line ≡ TooLarge
unfolding fields_of line_of
read_by false line call is e = let no : ◌≡◌ {A = ℕ} 0 1 = cc in absurd (omega arith)
read_by true [] call is e = let no : ◌≡◌ {A = ℕ} 0 1 = cc in absurd (omega arith)
read_by true (letter ∷ bytes) call is e =
    no_reason letter bytes (fields_right (fields_of (letter ∷ bytes)) call e) (leb-true (length (letter ∷ bytes)) longest_line is)

pub faults_told : FaultsTold
unfolding read_line
faults_told line call e = read_by (leb (length line) longest_line) line call refl e
