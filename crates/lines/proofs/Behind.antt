-- The numbers behind a letter, met field by field. Assumes nothing.
use Rattle.std.proofs.Common.{◌≡◌, ◌≤◌, ◌<◌, ◌+◌, ℕ, zero, suc, Bool, true, false, List, [], ◌∷◌, ◌++◌, length, get_or, take, drop, set, replicate, Option, Some, None, refl, sym, ap, ◌∙◌, arith}
use mathlib.Core.List.{append_assoc, append-nil}
use mathlib.Core.Path.{fun_ext}
use native.Mathlib.Numerals.{add-one}
use borrow.Author.Tests.{eqb-true, eqb-false, ltb-true, ltb-false}
use lib.Dec.{eqb, ltb}
use lib.ListN.{length-set, length-take, drop_of_length-le, get_or-eq_default}
use lib.Seq.{drop-cons, take-suc-set, get_or-set_same, get_or-set_other, get_or-take}
use Rattle.lines.specs.Lines.{number_below, with_number, numbers_of, Form, line_with}
use Rattle.lines.specs.Reading.{limits_from, most_numbers}
use Rattle.lines.proofs.Numbers.{number_below_lem}

-- numbers that were read, and those that follow
abbrev before : List ℕ → Option (List ℕ) → Option (List ℕ)
before numbers None = None
before numbers (Some more) = Some (numbers ++ more)

before_all : (rest : Option (List ℕ)) → before [] rest ≡ rest
before_all None = refl
before_all (Some more) = refl

one_moves : (numbers : List ℕ) (value : ℕ) (rest : Option (List ℕ))
    → before numbers (with_number (Some value) rest) ≡ before (numbers ++ (value ∷ [])) rest
one_moves numbers value None = refl
one_moves numbers value (Some more) = ap Some (sym (append_assoc numbers (value ∷ []) more))

pub zeros_only : (count place : ℕ) → get_or {A = ℕ} (replicate count 0) place 0 ≡ 0
zeros_only zero place = refl
zeros_only (suc count) zero = refl
zeros_only (suc count) (suc place) = zeros_only count place

-- The first i numbers are read, each at most the largest there, and these fields are left.
pub record Passed (largest : List ℕ) (fields left : List (List ℕ)) (i : ℕ) (numbers : List ℕ) : Type 0 where
  pub whole : length numbers ≡ most_numbers
  pub same : numbers_of (limits_from largest) fields ≡ before (take i numbers) (numbers_of (limits_from (drop i largest)) left)
  pub zeros : (place : ℕ) → i ≤ place → get_or numbers place 0 ≡ 0
  pub small : (place : ℕ) → get_or numbers place 0 ≤ get_or largest place 0

pub none_passed : (largest : List ℕ) (fields : List (List ℕ)) → Passed largest fields fields 0 (replicate most_numbers 0)
none_passed largest fields =
    record {
      whole = refl;
      same = sym (before_all (numbers_of (limits_from largest) fields));
      zeros = λ place behind. zeros_only most_numbers place;
      small = λ place. omega (arith, zeros_only most_numbers place);
    }

module _ {largest : List ℕ} {fields left : List (List ℕ)} {i : ℕ} {numbers : List ℕ} (passed : Passed largest fields left i numbers) where
  nothing_more : numbers_of (limits_from (drop i largest)) left ≡ None → numbers_of (limits_from largest) fields ≡ None
  nothing_more e = passed.same ∙ ap (before (take i numbers)) e

  -- one number more is wanted
  module _ (wanted : i < length largest) where
    next_limit : limits_from (drop i largest) ≡ (get_or largest i 0 + 1) ∷ limits_from (drop (i + 1) largest)
    next_limit = rw (drop-cons largest i 0 wanted, add-one i)

    pub ends_early : left ≡ [] → numbers_of (limits_from largest) fields ≡ None
    unfolding numbers_of
    ends_early none = nothing_more (rw (next_limit, none))

    module _ {field : List ℕ} {more : List (List ℕ)} (first : left ≡ field ∷ more) where
      next_field : numbers_of (limits_from (drop i largest)) left ≡ with_number (number_below (get_or largest i 0 + 1) field) (numbers_of (limits_from (drop (i + 1) largest)) more)
      unfolding numbers_of
      next_field = rw (next_limit, first)

      pub no_number : number_below (get_or largest i 0 + 1) field ≡ None → numbers_of (limits_from largest) fields ≡ None
      no_number none = nothing_more (next_field ∙ ap (λ (read : Option ℕ). with_number read (numbers_of (limits_from (drop (i + 1) largest)) more)) none)

      module _ {value : ℕ} (told : number_below (get_or largest i 0 + 1) field ≡ Some value) (room : i < length numbers) where
        -- in its own place stands the number, which is at most the largest there; the other places are as they were
        small_by : (own : Bool) (place : ℕ) → eqb place i ≡ own → get_or (set numbers i value) place 0 ≤ get_or largest place 0
        small_by true place e =
            let fits = number_below_lem (get_or largest i 0 + 1) field value told in
            rw (eqb-true place i e, get_or-set_same numbers i value 0 room) (omega arith)
        small_by false place e = rw (get_or-set_other numbers i place value 0 (eqb-false place i e)) (passed.small place)

        next : numbers_of (limits_from (drop i largest)) left ≡ with_number (Some value) (numbers_of (limits_from (drop (i + 1) largest)) more)
        next = next_field ∙ ap (λ (read : Option ℕ). with_number read (numbers_of (limits_from (drop (i + 1) largest)) more)) told

        pub one_passed : Passed largest fields more (i + 1) (set numbers i value)
        one_passed =
            let taken : take (i + 1) (set numbers i value) ≡ take i numbers ++ (value ∷ []) = rw (add-one i) (take-suc-set numbers i value room) in
            record {
              whole = simp length-set passed.whole;
              same = rw taken (passed.same ∙ ap (before (take i numbers)) next ∙ one_moves (take i numbers) value (numbers_of (limits_from (drop (i + 1) largest)) more));
              zeros = λ place past. get_or-set_other numbers i place value 0 (λ e. omega arith) ∙ passed.zeros place (omega arith);
              small = λ place. small_by (eqb place i) place refl;
            }

  -- no number more is wanted
  module _ (last : length largest ≤ i) where
    pub goes_on : {field : List ℕ} {more : List (List ℕ)} → left ≡ field ∷ more → numbers_of (limits_from largest) fields ≡ None
    unfolding numbers_of
    goes_on first = nothing_more (rw (drop_of_length-le largest last, first))

    none_more : left ≡ [] → numbers_of (limits_from (drop i largest)) left ≡ Some []
    unfolding numbers_of
    none_more none = rw (drop_of_length-le largest last, none)

    all_read : left ≡ [] → numbers_of (limits_from largest) fields ≡ Some (take i numbers)
    all_read none = passed.same ∙ ap (before (take i numbers)) (none_more none) ∙ ap Some (append-nil (take i numbers))

    -- behind those that were read there are zeros, as where a line has no such number
    read_by : (own : Bool) (place : ℕ) → ltb place i ≡ own → get_or (take i numbers) place 0 ≡ get_or numbers place 0
    read_by true place e = get_or-take i numbers place 0 (ltb-true place i e)
    read_by false place e =
        get_or-eq_default (take i numbers) 0 (simp length-take (omega (arith, ltb-false place i e)))
        ∙ sym (passed.zeros place (ltb-false place i e))

    pub line_read : (form : Form) → left ≡ [] → line_with form (numbers_of (limits_from largest) fields) ≡ form.line (λ place. get_or numbers place 0)
    line_read form none = ap (line_with form) (all_read none) ∙ ap form.line (fun_ext (λ place. read_by (ltb place i) place refl))
