-- Sessions that are computed from their bytes: document 01's own, and the ends of an input. Assumes nothing.
use mathlib.Core.Path.{◌≡◌, refl, ◌∙◌}
use mathlib.Core.List.{List, [], ◌∷◌, ◌++◌}
use Prim.Native.Char.{code}
use Prim.Native.Nat.{ℕ, ◌+◌, ◌-◌}
use lib.ListN.{replicate}
use Rattle.desk.proofs.Computing.{computing}
use Rattle.lines.specs.Lines.{fields_of, all_digits, decimal, numbers_of, form_among, line_of, read_line}
use Rattle.lines.proofs.Examples.{bytes}
use Rattle.text.specs.Text.{digits, decimal_text, field_text, fields_text, answer_text, answer_room}
use Rattle.session.specs.Turns.{turn_by}
use Rattle.session.specs.Sessions.{lines_of, answers, session_text}
use Rattle.session.specs.Stream.{start, read_byte, printed_by, reader_after, printed_for, printed_at_end, used_of, together, printed_in_parts}
use Rattle.session.proofs.Parts.{session_in_parts}

-- every definition that a session computes with; named on an `unfolding` line, it opens them all
unfoldable sessions : Unit {0}
unfolding computing fields_of all_digits decimal numbers_of form_among line_of read_line digits decimal_text field_text fields_text answer_text turn_by lines_of answers session_text start read_byte printed_by reader_after printed_for printed_at_end used_of together printed_in_parts
sessions = tt

-- ---- document 01, "Whole input and whole output"

abbrev document_input : List (List ℕ)
document_input =
    bytes "c 0\n"
    ∷ bytes "i 0 0\n"
    ∷ bytes "o 0 0\n"
    ∷ bytes "p 0 1 5 500\n"
    ∷ bytes "s 0 4294967295\n"
    ∷ bytes "p 0 1 6 600\n"
    ∷ bytes "g 0 0\n"
    ∷ bytes "p 0 1 6 600\n"
    ∷ bytes "f 0 0 5\n"
    ∷ bytes "w\n"
    ∷ bytes "W\n"
    ∷ bytes "p 0 1 4 400\n"
    ∷ []

abbrev document_output : List (List ℕ)
document_output =
    bytes "0 0 0\n"
    ∷ bytes "0 0 0\n"
    ∷ bytes "0 1 0\n"
    ∷ bytes "0 0 0\n"
    ∷ bytes "0 0 0\n"
    ∷ bytes "6 0 0\n"
    ∷ bytes "0 500 5\n"
    ∷ bytes "0 0 0\n"
    ∷ bytes "0 0 0\n"
    ∷ bytes "0 0 0\n"
    ∷ bytes "0 1 6 500\n"
    ∷ bytes "6 0 0\n"
    ∷ []

document_session : session_text (together document_input) ≡ together document_output
unfolding sessions
document_session = refl

-- the same, fed line by line
document_in_lines : printed_in_parts start document_input ≡ together document_output
document_in_lines = session_in_parts document_input ∙ document_session

-- and as one part, by computing the reader's own steps
document_at_once : printed_in_parts start (together document_input ∷ []) ≡ together document_output
unfolding sessions
document_at_once = refl

-- ---- the ends of an input

abbrev unreadable : List ℕ
unreadable = bytes "99 0 0\n"

abbrev accepted : List ℕ
accepted = bytes "0 0 0\n"

-- "an empty input prints nothing"
empty_input : session_text [] ≡ []
unfolding sessions
empty_input = refl

-- a lone newline is one line, the empty one; "nothing after a final newline is a line"
lone_newline : session_text (bytes "\n") ≡ unreadable
unfolding sessions
lone_newline = refl

two_newlines : session_text (bytes "\n\n") ≡ unreadable ++ unreadable
unfolding sessions
two_newlines = refl

-- "The last line may lack its newline."
last_line_open : session_text (bytes "c 0") ≡ accepted
unfolding sessions
last_line_open = refl

last_line_ended : session_text (bytes "c 0\n") ≡ accepted
unfolding sessions
last_line_ended = refl

-- chopped within a line, with empty parts between
chopped_line : printed_in_parts start (bytes "c" ∷ [] ∷ bytes " 0" ∷ []) ≡ accepted
unfolding sessions
chopped_line = refl

-- ---- "lines of at most 80 bytes": `c` and a number of zeros

abbrev zeros : ℕ → List ℕ
zeros n = bytes "c " ++ replicate n (code "0")

eighty_bytes : session_text (zeros 78 ++ bytes "\n") ≡ accepted
unfolding sessions
eighty_bytes = refl

eighty_one_bytes : session_text (zeros 79 ++ bytes "\n") ≡ unreadable
unfolding sessions
eighty_one_bytes = refl

-- the last line without its newline, and the same as they are read byte by byte
eighty_bytes_last : printed_in_parts start (zeros 78 ∷ []) ≡ accepted
unfolding sessions
eighty_bytes_last = refl

eighty_one_bytes_last : printed_in_parts start (zeros 79 ∷ []) ≡ unreadable
unfolding sessions
eighty_one_bytes_last = refl

-- an overlong line changes nothing, and the line after it is read
after_overlong : printed_in_parts start ((zeros 198 ++ bytes "\nc 0\n") ∷ []) ≡ unreadable ++ accepted
unfolding sessions
after_overlong = refl

-- ---- how much of a part is used: a newline waits where the room for an answer is not left

used_with_room : used_of start (bytes "c 0\n") answer_room ≡ 4
unfolding sessions
used_with_room = refl

used_without_room : used_of start (bytes "c 0\n") (answer_room - 1) ≡ 3
unfolding sessions
used_without_room = refl

-- the first answer takes 6 places
second_waits : used_of start (bytes "c 0\nc 0\n") (answer_room + 5) ≡ 7
unfolding sessions
second_waits = refl

second_fits : used_of start (bytes "c 0\nc 0\n") (answer_room + 6) ≡ 8
unfolding sessions
second_fits = refl
