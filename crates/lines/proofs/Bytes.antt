-- A line's bytes tell of its fields what the reasons ask: how many there are, whether the first is a letter alone, and whether the others are
-- numbers. Assumes nothing.
use mathlib.Core.Bool.{Bool, true, false, cond, ◌&&◌, and_assoc, and-true, and-false, false≢true}
use mathlib.Core.List.{List, [], ◌∷◌}
use mathlib.Core.Path.{◌≡◌, refl, sym, ap, ◌∙◌, fun_ext}
use Prim.Native.Nat.{ℕ, ◌+◌, ◌<◌}
use native.Mathlib.Omega.{arith}
use borrow.Author.Tests.{eqb-true}
use lib.Dec.{eqb}
use lib.ListN.{length, drop, get_or, replicate, length-drop}
use Rattle.std.specs.Prelude.{Option, is_some}
use Rattle.std.proofs.lemmas.List.{length-map}
use Rattle.std.proofs.lemmas.List.Splits.{length-slice_split}
use Rattle.calls.specs.declared.Call.{Call}
use Rattle.lines.specs.Lines.{space, fields_of, join_first, is_digit, all_digits, form_among, form_of}
use Rattle.lines.specs.Reading.{limits_from, most_numbers}
use Rattle.lines.specs.Faults.{count_of, is_letter, begins_with_letter, all_numbers, has_right_count}
use Rattle.lines.proofs.Fields.{fields_split, some_field}
use Rattle.lines.proofs.Behind.{zeros_only}

-- ---- how many fields there are

-- one more than there are spaces
counted : (line : List ℕ) → length (fields_of line) ≡ count_of space line + 1
unfolding count_of
counted line = ap length (sym (fields_split line)) ∙ length-slice_split (λ byte. eqb byte space) line

counted-behind : (line : List ℕ) → length (drop 1 (fields_of line)) ≡ count_of space line
counted-behind line = omega (arith, length-drop 1 (fields_of line), counted line)

pub spaces_tell : (line : List ℕ) {spaces : ℕ} (largest : List ℕ)
    → spaces ≡ count_of space line
    → limits_from largest ≡ (form_of (get_or line 0 0)).limits
    → has_right_count line ≡ eqb spaces (length largest)
unfolding has_right_count
spaces_tell line {spaces} largest is same =
    ap (λ (n : ℕ). eqb n (length (form_of (get_or line 0 0)).limits)) (counted-behind line ∙ sym is)
    ∙ ap (eqb spaces) (ap length (sym same) ∙ length-map largest (λ number. number + 1))

-- ---- a letter alone

-- behind a letter there is nothing, or a space
abbrev pub alone : List ℕ → Bool
alone [] = true
alone (byte ∷ bytes) = eqb byte space

second_by : (apart : Bool) (letter byte : ℕ) (bytes : List ℕ)
    → begins_with_letter (join_first letter (cond apart ([] ∷ fields_of bytes) (join_first byte (fields_of bytes)))) ≡ (is_letter letter && apart)
unfolding begins_with_letter
second_by true letter byte bytes = sym (and-true (is_letter letter))
second_by false letter byte bytes = rw (some_field bytes).2 (sym (and-false (is_letter letter)))

first_by : (apart : Bool) (letter : ℕ) (bytes : List ℕ)
    → eqb letter space ≡ apart
    → begins_with_letter (cond apart ([] ∷ fields_of bytes) (join_first letter (fields_of bytes))) ≡ (is_letter letter && alone bytes)
unfolding fields_of form_among begins_with_letter is_letter
first_by true letter bytes e = rw (eqb-true letter space e)
first_by false letter [] e = sym (and-true (is_letter letter))
first_by false letter (byte ∷ bytes) e = second_by (eqb byte space) letter byte bytes

pub letter_alone : (letter : ℕ) (bytes : List ℕ) → begins_with_letter (fields_of (letter ∷ bytes)) ≡ (is_letter letter && alone bytes)
unfolding fields_of
letter_alone letter bytes = first_by (eqb letter space) letter bytes refl

-- what the letter makes of zeros tells whether it is one
pub letter_told : (byte : ℕ) {said : Option Call} → said ≡ (form_of byte).line (λ place. get_or (replicate most_numbers 0) place 0) → is_letter byte ≡ is_some said
unfolding is_letter
letter_told byte is = sym (ap is_some (is ∙ ap (form_of byte).line (fun_ext (λ place. zeros_only most_numbers place))))

pub letter_first : (field : List ℕ) (more : List (List ℕ)) (letter : ℕ) → field ≡ letter ∷ [] → begins_with_letter (field ∷ more) ≡ is_letter letter
unfolding begins_with_letter
letter_first field more letter e = rw e

pub other_first : (field : List ℕ) (more : List (List ℕ)) → (length field ≡ 1 → ⊥) → begins_with_letter (field ∷ more) ≡ false
unfolding begins_with_letter
other_first [] more other = refl
other_first (letter ∷ []) more other = absurd (other refl)
other_first (letter ∷ (byte ∷ bytes)) more other = refl

-- ---- numbers from left to right

-- what follows a letter's field: nothing, or a space and the fields behind it
abbrev pub behind : List ℕ → List (List ℕ)
behind [] = []
behind (_ ∷ bytes) = fields_of bytes

-- the rest of the bytes behind a letter is right, where the field under way has a byte already or has none
unfoldable pub follows : Bool → List ℕ → Bool
follows filled [] = filled
follows filled (byte ∷ bytes) = cond (eqb byte space) (filled && follows false bytes) (is_digit byte && follows true bytes)

-- the same of the fields
abbrev rest_numbers : Bool → List (List ℕ) → Bool
rest_numbers filled [] = true
rest_numbers true (field ∷ fields) = all_digits field && all_numbers fields
rest_numbers false (field ∷ fields) = all_numbers (field ∷ fields)

none_filled : (fields : List (List ℕ)) → rest_numbers false fields ≡ all_numbers fields
unfolding all_numbers
none_filled [] = refl
none_filled (field ∷ fields) = refl

-- a space ends a field, which has to be filled
spaced : (filled : Bool) (fields : List (List ℕ)) → (filled && rest_numbers false fields) ≡ rest_numbers filled ([] ∷ fields)
unfolding all_numbers all_digits
spaced true fields = none_filled fields
spaced false fields = refl

joined : (filled : Bool) (byte : ℕ) (fields : List (List ℕ)) → 0 < length fields
    → (is_digit byte && rest_numbers true fields) ≡ rest_numbers filled (join_first byte fields)
unfolding all_numbers all_digits
joined filled byte [] some = absurd (omega arith)
joined true byte (field ∷ fields) some = sym (and_assoc (is_digit byte) (all_digits field) (all_numbers fields))
joined false byte (field ∷ fields) some = sym (and_assoc (is_digit byte) (all_digits field) (all_numbers fields))

follows_by : (apart filled : Bool) (byte : ℕ) (bytes : List ℕ)
    → ((more : Bool) → follows more bytes ≡ rest_numbers more (fields_of bytes))
    → cond apart (filled && follows false bytes) (is_digit byte && follows true bytes)
    ≡ rest_numbers filled (cond apart ([] ∷ fields_of bytes) (join_first byte (fields_of bytes)))
follows_by true filled byte bytes rest = ap (λ (b : Bool). filled && b) (rest false) ∙ spaced filled (fields_of bytes)
follows_by false filled byte bytes rest =
    ap (λ (b : Bool). is_digit byte && b) (rest true) ∙ joined filled byte (fields_of bytes) (omega (arith, counted bytes))

follows_fields : (filled : Bool) (bytes : List ℕ) → follows filled bytes ≡ rest_numbers filled (fields_of bytes)
unfolding follows fields_of all_numbers all_digits
follows_fields true [] = refl
follows_fields false [] = refl
follows_fields filled (byte ∷ bytes) = follows_by (eqb byte space) filled byte bytes (λ more. follows_fields more bytes)

pub and_left : (a b : Bool) → (a && b) ≡ true → a ≡ true
and_left true b both = refl
and_left false b both = both

pub and_right : (a b : Bool) → (a && b) ≡ true → b ≡ true
and_right true b both = both
and_right false b both = absurd (false≢true both)

behind_by : (apart : Bool) (letter : ℕ) (bytes : List ℕ)
    → eqb letter space ≡ apart
    → (is_letter letter && alone bytes) ≡ true
    → drop 1 (cond apart ([] ∷ fields_of bytes) (join_first letter (fields_of bytes))) ≡ behind bytes
unfolding fields_of form_among is_letter
behind_by true letter bytes e told = absurd (false≢true (rw (eqb-true letter space e) at told))
behind_by false letter [] e told = refl
behind_by false letter (byte ∷ bytes) e told = rw (and_right (is_letter letter) (eqb byte space) told)

numbers_alone : (bytes : List ℕ) → alone bytes ≡ true → follows true bytes ≡ all_numbers (behind bytes)
unfolding follows all_numbers
numbers_alone [] told = refl
numbers_alone (byte ∷ bytes) told = rw told (follows_fields false bytes ∙ none_filled (fields_of bytes))

pub numbers_behind : (line : List ℕ) → begins_with_letter (fields_of line) ≡ true → follows true (drop 1 line) ≡ all_numbers (drop 1 (fields_of line))
unfolding fields_of begins_with_letter
numbers_behind [] told = absurd (false≢true told)
numbers_behind (letter ∷ bytes) told =
    let both = sym (letter_alone letter bytes) ∙ told in
    numbers_alone bytes (and_right (is_letter letter) (alone bytes) both) ∙ ap all_numbers (sym (behind_by (eqb letter space) letter bytes refl both))
