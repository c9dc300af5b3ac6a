-- The same session as its bytes arrive, in parts of any size: what the reader keeps between two parts, and what it prints for a part.
-- `session_in_parts` (proofs/Parts.antt) says that the parts together print the whole session. Assumes nothing.
use Rattle.std.specs.Prelude.{◌≡◌, Bool, cond, ◌&&◌, List, [], ◌∷◌, ◌++◌, ℕ, suc, ◌+◌, ◌-◌, eqb, ltb, length, replicate, set, take}
use Rattle.desk.specs.declared.Desk.{Desk}
use Rattle.desk.specs.Desk.{fresh}
use Rattle.lines.specs.Lines.{longest_line}
use Rattle.text.specs.Text.{answer_room, newline}
use Rattle.session.specs.declared.Notes.{Notes}
use Rattle.session.specs.declared.Reader.{Reader}
use Rattle.session.specs.Turns.{turn, printed}
use Rattle.session.specs.Sessions.{lines_of, session_text}
use Rattle.session.specs.Notes.{none_yet, noted, notes_of}

-- of an overlong line so many bytes are enough to know that it is overlong
abbrev pub line_kept : ℕ
line_kept = longest_line + 1

-- the desk, the bytes that are kept of the line that has not ended yet, and what was noted of those that have
abbrev pub reader : Desk → List ℕ → ℕ → Notes → Reader
reader desk line held notes = record { desk = desk; line = line; held = held; notes = notes }

abbrev pub line_so_far : Reader → List ℕ
line_so_far r = take r.held r.line

-- "starting with a fresh desk"
unfoldable pub start : Reader
start = reader fresh (replicate line_kept 0) 0 none_yet

-- one byte: a newline ends the line, any other byte joins it
abbrev pub with_byte : Reader → ℕ → Reader
with_byte r byte = cond (ltb r.held line_kept) (reader r.desk (set r.line r.held byte) (r.held + 1) r.notes) r

unfoldable pub read_byte : Reader → ℕ → Reader
read_byte r byte =
    cond (eqb byte newline)
    (reader (turn r.desk (line_so_far r)).desk r.line 0 (noted r.notes (line_so_far r)))
    (with_byte r byte)

unfoldable pub printed_by : Reader → ℕ → List ℕ
printed_by r byte = cond (eqb byte newline) (printed (turn r.desk (line_so_far r))) []

-- the reader after some bytes, and what is printed for them
unfoldable pub reader_after : Reader → List ℕ → Reader
reader_after r [] = r
reader_after r (byte ∷ bytes) = reader_after (read_byte r byte) bytes

unfoldable pub printed_for : Reader → List ℕ → List ℕ
printed_for r [] = []
printed_for r (byte ∷ bytes) = printed_by r byte ++ printed_for (read_byte r byte) bytes

-- the end of the input: a last line that lacks its newline
unfoldable pub printed_at_end : Reader → List ℕ
printed_at_end r = cond (eqb r.held 0) [] (printed (turn r.desk (line_so_far r)))

unfoldable pub noted_at_end : Reader → Notes
noted_at_end r = cond (eqb r.held 0) r.notes (noted r.notes (line_so_far r))

-- ---- one part of the input, as far as the output has room

-- at the end, nothing is written, and nothing more is noted, where the room for an answer is not left
abbrev pub written_at_end : Reader → ℕ → List ℕ
written_at_end r room = cond (ltb room answer_room) [] (printed_at_end r)

abbrev pub notes_at_end : Reader → ℕ → Notes
notes_at_end r room = cond (ltb room answer_room) r.notes (noted_at_end r)

-- how many bytes are used of a part, with this much room for the output: a newline waits where the room for an answer is not left
abbrev pub waits : ℕ → ℕ → Bool
waits byte room = eqb byte newline && ltb room answer_room

unfoldable pub used_of : Reader → List ℕ → ℕ → ℕ
used_of r [] room = 0
used_of r (byte ∷ bytes) room = cond (waits byte room) 0 (suc (used_of (read_byte r byte) bytes (room - length (printed_by r byte))))

-- ---- the claim: however the input is chopped, the whole output is that of the whole input

unfoldable pub together : List (List ℕ) → List ℕ
together [] = []
together (part ∷ parts) = part ++ together parts

unfoldable pub printed_in_parts : Reader → List (List ℕ) → List ℕ
printed_in_parts r [] = printed_at_end r
printed_in_parts r (part ∷ parts) = printed_for r part ++ printed_in_parts (reader_after r part) parts

-- `session_in_parts`
abbrev pub SessionInParts : Type 0
SessionInParts = (parts : List (List ℕ)) → printed_in_parts start parts ≡ session_text (together parts)

-- `notes_of_session`: what is noted byte by byte is what is noted of the lines of the whole input
abbrev pub NotesOfSession : Type 0
NotesOfSession = (input : List ℕ) → noted_at_end (reader_after start input) ≡ notes_of none_yet (lines_of input)
