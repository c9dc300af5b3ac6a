-- Document 01, "The session program": the call that a line of bytes is. Assumes nothing.
use Rattle.std.specs.Prelude.{Bool, true, false, cond, ◌&&◌, List, [], ◌∷◌, ℕ, ◌+◌, ◌-◌, ◌*◌, eqb, leb, ltb, length, get_or, Option, Some, None}
use Prim.Native.Char.{Char, code}
use Rattle.calls.specs.declared.Bound.TheVariants.{Weak, Strong}
use Rattle.calls.specs.declared.Call.{Call}
use Rattle.calls.specs.declared.Call.TheVariants.{By, Sweep}
use Rattle.calls.specs.declared.Deed.TheVariants.{Channel, NewThread, AttachInput, AttachOutput, Detach, End, Set, Put, Get, Consume, ConsumeUntil}
use Rattle.calls.specs.declared.Which.TheVariants.{Earliest, Latest, Named}
use Rattle.calls.specs.Calls.{number_limit, ticket_limit}

-- ---- the fields of a line: its bytes, parted at each space

abbrev pub space : ℕ
space = code " "

abbrev pub join_first : ℕ → List (List ℕ) → List (List ℕ)
join_first byte [] = (byte ∷ []) ∷ []
join_first byte (field ∷ fields) = (byte ∷ field) ∷ fields

unfoldable pub fields_of : List ℕ → List (List ℕ)
fields_of [] = [] ∷ []
fields_of (byte ∷ bytes) = cond (eqb byte space) ([] ∷ fields_of bytes) (join_first byte (fields_of bytes))

-- ---- "decimal numbers": digits, at least one. "Leading zeros are read."

abbrev pub is_digit : ℕ → Bool
is_digit byte = leb (code "0") byte && leb byte (code "9")

unfoldable pub all_digits : List ℕ → Bool
all_digits [] = true
all_digits (byte ∷ bytes) = is_digit byte && all_digits bytes

abbrev pub is_empty : List ℕ → Bool
is_empty [] = true
is_empty (byte ∷ bytes) = false

unfoldable pub decimal : ℕ → List ℕ → ℕ
decimal before [] = before
decimal before (byte ∷ bytes) = decimal (before * 10 + (byte - code "0")) bytes

-- what a field says: a number below the limit, or nothing
abbrev pub number_below : ℕ → List ℕ → Option ℕ
number_below limit field =
    cond (is_empty field) None (cond (all_digits field && ltb (decimal 0 field) limit) (Some (decimal 0 field)) None)

-- ---- the numbers of a line

-- a number that was read before others: where either is nothing, "every other line .. answers `99 0 0`"
abbrev pub with_number : Option ℕ → Option (List ℕ) → Option (List ℕ)
with_number None numbers = None
with_number (Some number) None = None
with_number (Some number) (Some numbers) = Some (number ∷ numbers)

-- "decimal numbers, one space before each": as many as there are limits, each in a field of its own and below its limit; or nothing
unfoldable pub numbers_of : List ℕ → List (List ℕ) → Option (List ℕ)
numbers_of [] [] = Some []
numbers_of [] (field ∷ fields) = None
numbers_of (limit ∷ limits) [] = None
numbers_of (limit ∷ limits) (field ∷ fields) = with_number (number_below limit field) (numbers_of limits fields)

-- ---- the letters

-- what follows a letter and what it makes: the limits of its numbers, and what the line with them says, in which `n 0` is the first of them
pub record Form : Type 0 where
  pub limits : List ℕ
  pub line : (n : ℕ → ℕ) → Option Call

-- the row of a letter that makes a call
abbrev pub makes : List ℕ → ((ℕ → ℕ) → Call) → Form
makes limits call = record { limits = limits; line = λ n. Some (call n) }

-- a byte that is no letter: no number follows it, and it makes no call
abbrev pub no_form : Form
no_form = record { limits = []; line = λ n. None }

-- "`c t`, `n t v`, `i t c`, `o t c`, `d t k`, `e t`, `s t v`, `p t k ts ticket`, `g t k` (earliest), `G t k` (latest),
-- `x t k ts` (named), `f t k ts` (consume), `u t k ts` (until), `w`, `W` (weak, strong)."
abbrev pub forms : List (Char × Form)
forms =
    ("c", makes (number_limit ∷ []) (λ n. By (n 0) Channel))
    ∷ ("n", makes (number_limit ∷ number_limit ∷ []) (λ n. By (n 0) (NewThread (n 1))))
    ∷ ("i", makes (number_limit ∷ number_limit ∷ []) (λ n. By (n 0) (AttachInput (n 1))))
    ∷ ("o", makes (number_limit ∷ number_limit ∷ []) (λ n. By (n 0) (AttachOutput (n 1))))
    ∷ ("d", makes (number_limit ∷ number_limit ∷ []) (λ n. By (n 0) (Detach (n 1))))
    ∷ ("e", makes (number_limit ∷ []) (λ n. By (n 0) End))
    ∷ ("s", makes (number_limit ∷ number_limit ∷ []) (λ n. By (n 0) (Set (n 1))))
    ∷ ("p", makes (number_limit ∷ number_limit ∷ number_limit ∷ ticket_limit ∷ []) (λ n. By (n 0) (Put (n 1) (n 2) (n 3))))
    ∷ ("g", makes (number_limit ∷ number_limit ∷ []) (λ n. By (n 0) (Get (n 1) Earliest)))
    ∷ ("G", makes (number_limit ∷ number_limit ∷ []) (λ n. By (n 0) (Get (n 1) Latest)))
    ∷ ("x", makes (number_limit ∷ number_limit ∷ number_limit ∷ []) (λ n. By (n 0) (Get (n 1) (Named (n 2)))))
    ∷ ("f", makes (number_limit ∷ number_limit ∷ number_limit ∷ []) (λ n. By (n 0) (Consume (n 1) (n 2))))
    ∷ ("u", makes (number_limit ∷ number_limit ∷ number_limit ∷ []) (λ n. By (n 0) (ConsumeUntil (n 1) (n 2))))
    ∷ ("w", makes [] (λ n. Sweep Weak))
    ∷ ("W", makes [] (λ n. Sweep Strong))
    ∷ []

-- the first of some rows that has the byte for its letter
unfoldable pub form_among : List (Char × Form) → ℕ → Form
form_among [] byte = no_form
form_among (row ∷ rows) byte = cond (eqb byte (code row.0)) row.1 (form_among rows byte)

-- "a letter": each byte has a form, and one that is none of the letters has `no_form`
abbrev pub form_of : ℕ → Form
form_of byte = form_among forms byte

-- ---- the line

-- the line of a form with the numbers that were read, or "every other line" where they were not
abbrev pub line_with : Form → Option (List ℕ) → Option Call
line_with form None = None
line_with form (Some numbers) = form.line (λ place. get_or numbers place 0)

-- "A line is a letter, then decimal numbers, one space before each": the first field is the letter alone, the others are the numbers
unfoldable pub line_of : List (List ℕ) → Option Call
line_of [] = None
line_of ([] ∷ fields) = None
line_of ((letter ∷ []) ∷ fields) = line_with (form_of letter) (numbers_of (form_of letter).limits fields)
line_of ((letter ∷ (byte ∷ bytes)) ∷ fields) = None

-- "lines of at most 80 bytes"
abbrev pub longest_line : ℕ
longest_line = 80

-- "Every other line, the empty and the overlong included, answers `99 0 0` and changes nothing."
unfoldable pub read_line : List ℕ → Option Call
read_line bytes = cond (leb (length bytes) longest_line) (line_of (fields_of bytes)) None
