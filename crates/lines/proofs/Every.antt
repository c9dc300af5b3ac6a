-- What holds of every letter's form, row by row: a form's call holds only numbers that have limits, and a number below its limit can be passed.
-- Assumes nothing.
use mathlib.Core.Bool.{Bool, true, false, cond}
use mathlib.Core.List.{List, [], ◌∷◌}
use Rattle.std.specs.Prelude.{Option, None, Some}
use mathlib.Core.Path.{◌≡◌, refl}
use Prim.Native.Char.{Char, code}
use Prim.Native.Nat.{ℕ, zero, suc, ◌<◌}
use native.Mathlib.Omega.{arith}
use lib.Dec.{eqb, leb}
use lib.ListN.{length, get_or}
use Rattle.lines.specs.Lines.{fields_of, number_below, with_number, numbers_of, Form, no_form, forms, form_among, form_of, line_with, line_of, longest_line, read_line}
use Rattle.calls.specs.declared.Call.{Call}
use Rattle.lines.specs.Claims.{Determined, NumbersDetermine, PassableLine, LinesPassable}
use Rattle.lines.proofs.Numbers.{number_below_lem}

-- ---- what holds of each row, and of no letter, holds of every byte

-- what holds of every row's form
infixr 20 ◌&◌
pub data Every (Holds : Form → Type 0) : List (Char × Form) → Type 1 where
  no_more : Every Holds []
  ◌&◌ : {row : Char × Form} {rows : List (Char × Form)} → Holds row.1 → Every Holds rows → Every Holds (row ∷ rows)

either : (Holds : Form → Type 0) (own : Bool) (form other : Form) → Holds form → Holds other → Holds (cond own form other)
either Holds true form other holds others = holds
either Holds false form other holds others = others

pub every : {Holds : Form → Type 0} (rows : List (Char × Form)) (letter : ℕ) → Every Holds rows → Holds no_form → Holds (form_among rows letter)
unfolding form_among
every [] letter no_more unread = unread
every {Holds} (row ∷ rows) letter (first & others) unread =
    either Holds (eqb letter (code row.0)) row.1 (form_among rows letter) first (every rows letter others unread)

-- ---- a form's line depends on the numbers that have limits alone

pub numbers_determine : NumbersDetermine
numbers_determine letter =
    every {Holds = Determined} forms letter
    ((λ n m same. rw (same 0 (omega arith)))
    & (λ n m same. rw (same 0 (omega arith), same 1 (omega arith)))
    & (λ n m same. rw (same 0 (omega arith), same 1 (omega arith)))
    & (λ n m same. rw (same 0 (omega arith), same 1 (omega arith)))
    & (λ n m same. rw (same 0 (omega arith), same 1 (omega arith)))
    & (λ n m same. rw (same 0 (omega arith)))
    & (λ n m same. rw (same 0 (omega arith), same 1 (omega arith)))
    & (λ n m same. rw (same 0 (omega arith), same 1 (omega arith), same 2 (omega arith), same 3 (omega arith)))
    & (λ n m same. rw (same 0 (omega arith), same 1 (omega arith)))
    & (λ n m same. rw (same 0 (omega arith), same 1 (omega arith)))
    & (λ n m same. rw (same 0 (omega arith), same 1 (omega arith), same 2 (omega arith)))
    & (λ n m same. rw (same 0 (omega arith), same 1 (omega arith), same 2 (omega arith)))
    & (λ n m same. rw (same 0 (omega arith), same 1 (omega arith), same 2 (omega arith)))
    & (λ n m same. refl)
    & (λ n m same. refl)
    & no_more)
    (λ n m same. refl)

-- ---- a line's call can be passed

-- so many numbers, each below its limit
abbrev Below : List ℕ → (ℕ → ℕ) → Type 0
Below limits n = (place : ℕ) → place < length limits → n place < get_or limits place 0

-- a form makes a call that can be passed of numbers that are below its limits
abbrev PassableForm : Form → Type 0
PassableForm form = (n : ℕ → ℕ) → Below form.limits n → PassableLine (form.line n)

forms_passable : (letter : ℕ) → PassableForm (form_of letter)
forms_passable letter =
    every {Holds = PassableForm} forms letter
    ((λ n below slice tickets. (below 0 (omega arith), tt))
    & (λ n below slice tickets. (below 0 (omega arith), below 1 (omega arith)))
    & (λ n below slice tickets. (below 0 (omega arith), below 1 (omega arith)))
    & (λ n below slice tickets. (below 0 (omega arith), below 1 (omega arith)))
    & (λ n below slice tickets. (below 0 (omega arith), below 1 (omega arith)))
    & (λ n below slice tickets. (below 0 (omega arith), tt))
    & (λ n below slice tickets. (below 0 (omega arith), below 1 (omega arith)))
    & (λ n below slice tickets. (below 0 (omega arith), (below 1 (omega arith), below 2 (omega arith), below 3 (omega arith))))
    & (λ n below slice tickets. (below 0 (omega arith), (below 1 (omega arith), tt)))
    & (λ n below slice tickets. (below 0 (omega arith), (below 1 (omega arith), tt)))
    & (λ n below slice tickets. (below 0 (omega arith), (below 1 (omega arith), below 2 (omega arith))))
    & (λ n below slice tickets. (below 0 (omega arith), (below 1 (omega arith), below 2 (omega arith))))
    & (λ n below slice tickets. (below 0 (omega arith), (below 1 (omega arith), below 2 (omega arith))))
    & (λ n below slice tickets. tickets)
    & (λ n below slice tickets. tickets)
    & no_more)
    (λ n below. tt)

-- the numbers that were read, if they were
abbrev ReadBelow : List ℕ → Option (List ℕ) → Type 0
ReadBelow limits None = Unit {0}
ReadBelow limits (Some numbers) = Below limits (λ place. get_or numbers place 0)

more_below : (limit : ℕ) (limits : List ℕ) (read : Option ℕ) (rest : Option (List ℕ))
    → ((value : ℕ) → read ≡ Some value → value < limit)
    → ReadBelow limits rest
    → ReadBelow (limit ∷ limits) (with_number read rest)
more_below limit limits None rest first others = tt
more_below limit limits (Some value) None first others = tt
more_below limit limits (Some value) (Some numbers) first others = by
  where
    by : Below (limit ∷ limits) (λ place. get_or (value ∷ numbers) place 0)
    by zero inside = first value refl
    by (suc place) inside = others place (omega arith)

numbers_below : (limits : List ℕ) (fields : List (List ℕ)) → ReadBelow limits (numbers_of limits fields)
unfolding numbers_of
numbers_below [] [] = λ place inside. absurd (omega arith)
numbers_below [] (field ∷ fields) = tt
numbers_below (limit ∷ limits) [] = tt
numbers_below (limit ∷ limits) (field ∷ fields) =
    more_below limit limits (number_below limit field) (numbers_of limits fields) (number_below_lem limit field) (numbers_below limits fields)

with_passable : (form : Form) (numbers : Option (List ℕ)) → PassableForm form → ReadBelow form.limits numbers → PassableLine (line_with form numbers)
with_passable form None passable below = tt
with_passable form (Some numbers) passable below = passable (λ place. get_or numbers place 0) below

fields_passable : (fields : List (List ℕ)) → PassableLine (line_of fields)
unfolding line_of
fields_passable [] = tt
fields_passable ([] ∷ fields) = tt
fields_passable ((letter ∷ []) ∷ fields) =
    with_passable (form_of letter) (numbers_of (form_of letter).limits fields) (forms_passable letter)
    (numbers_below (form_of letter).limits fields)
fields_passable ((letter ∷ (byte ∷ bytes)) ∷ fields) = tt

short_passable : (short : Bool) (line : Option Call) → PassableLine line → PassableLine (cond short line None)
short_passable true line passable = passable
short_passable false line passable = tt

pub lines_passable : LinesPassable
unfolding read_line
lines_passable bytes = short_passable (leb (length bytes) longest_line) (line_of (fields_of bytes)) (fields_passable (fields_of bytes))
