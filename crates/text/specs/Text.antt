-- An answer as text. Document 01, "The session program": the program prints code, value, time, and for an accepted
-- sweep the tickets, with one space between and a newline after them.
-- A text is the list of its bytes.
use Prim.Native.Char.{code}
use Rattle.std.specs.Prelude.{ℕ, zero, suc, ◌+◌, ◌*◌, ◌/◌, ◌%◌, List, [], ◌∷◌, ◌++◌, Bool, cond, ◌&&◌, ◌≡◌, ltb, leb, length, take, drop}
use Rattle.std.proofs.lemmas.List.Edits.{sets}

-- the decimal digits of v, at most the last `places` of them: a number below ten is one digit, any other has the digits
-- of its tenth and then its last digit. So no zero stands before a number that has no more than `places` digits.
unfoldable pub digits : ℕ → ℕ → List ℕ
digits zero v = []
digits (suc places) v = cond (ltb v 10) ((code "0" + v) ∷ []) (digits places (v / 10) ++ ((code "0" + v % 10) ∷ []))

-- so many digits hold every number of 64 bits: the largest is 18446744073709551615
abbrev pub most_digits : ℕ
most_digits = 20

-- a number in decimal digits
unfoldable pub decimal_text : ℕ → List ℕ
decimal_text v = digits most_digits v

-- a space and a number
unfoldable pub field_text : ℕ → List ℕ
field_text v = code " " ∷ decimal_text v

-- numbers, a space before each
unfoldable pub fields_text : List ℕ → List ℕ
fields_text [] = []
fields_text (v ∷ rest) = field_text v ++ fields_text rest

-- "a newline after each such line"
abbrev pub newline : ℕ
newline = code "\n"

-- the line of an answer: code, value, time and the tickets, one space between, and the newline
unfoldable pub answer_text : ℕ → ℕ → ℕ → List ℕ → List ℕ
answer_text code value time tickets = decimal_text code ++ field_text value ++ field_text time ++ fields_text tickets ++ (newline ∷ [])

-- "its slice has 64 places", so no sweep hands more tickets back
abbrev pub most_tickets : ℕ
most_tickets = 64

-- the room for a field, in places: a space and a number of the most digits
abbrev pub field_room : ℕ
field_room = 1 + most_digits

-- the room for a line with so many tickets: the code, fields for the value, the time and each ticket, and the newline
abbrev pub line_room : ℕ → ℕ
line_room count = most_digits + field_room * (2 + count) + 1

-- the room for an answer, 1407 places: enough for every one. The law `answer-length` says that no line is longer than 1387, since code and time
-- have 32 bits.
abbrev pub answer_room : ℕ
answer_room = line_room most_tickets

-- whether a line is written: from `at` on there is the room for an answer, and there are `count` tickets, no more than a sweep can hand back
unfoldable pub has_room : ℕ → ℕ → ℕ → ℕ → Bool
has_room at places count held = leb (at + answer_room) places && leb count most_tickets && leb count held

-- the bytes of out with the text in the places from `at` on
unfoldable pub written : List ℕ → ℕ → List ℕ → List ℕ
written out at text = take at out ++ text ++ drop (at + length text) out

-- What the writers inside promise each other: `after` is `before` with the text stored byte by byte from `at` on,
-- and `end` is the place after it. Texts written one after the other chain in this form; `written` is the same for a reader.
pub record Wrote (before : List ℕ) (at : ℕ) (text after : List ℕ) (end : ℕ) : Type 0 where
  pub place : end ≡ at + length text
  pub bytes : after ≡ sets before at text
