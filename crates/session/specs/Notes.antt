-- What a session can tell at its end of the lines answered 99, for the person who wrote them. Document 01 says nothing of it, and the session's
-- answers do not depend on it. Assumes nothing.
use Rattle.std.specs.Prelude.{cond, List, [], ◌∷◌, ℕ, ◌+◌, min, eqb, Option, Some, None}
use Rattle.calls.specs.declared.Call.{Call}
use Rattle.lines.specs.Faults.{fault_number, fault_of}
use Rattle.lines.specs.Lines.{read_line}
use Rattle.session.specs.declared.FirstUnreadable.{FirstUnreadable}
use Rattle.session.specs.declared.Notes.{Notes}

-- a count of 64 bits, with some more: it stays at the largest
abbrev pub largest_count : ℕ
largest_count = 18446744073709551615

abbrev pub counted_to : ℕ → ℕ → ℕ
counted_to count more = min (count + more) largest_count

-- the first unreadable line: its number, from 1, and the number of the reason why it is unreadable
abbrev pub first_unreadable : ℕ → ℕ → FirstUnreadable
first_unreadable number fault = record { number = number; fault = fault }

-- how many lines, how many of them unreadable, and the first of these
abbrev pub notes : ℕ → ℕ → Option FirstUnreadable → Notes
notes lines unreadable first = record { lines = lines; unreadable = unreadable; first = first }

abbrev pub none_yet : Notes
none_yet = notes 0 0 None

-- with one line more
unfoldable pub noted_by : Notes → Option Call → List ℕ → Notes
noted_by n (Some call) line = notes (counted_to n.lines 1) n.unreadable n.first
noted_by n None line =
    cond (eqb n.unreadable 0)
    (notes (counted_to n.lines 1) 1 (Some (first_unreadable (counted_to n.lines 1) (fault_number (fault_of line)))))
    (notes (counted_to n.lines 1) (counted_to n.unreadable 1) n.first)

abbrev pub noted : Notes → List ℕ → Notes
noted n line = noted_by n (read_line line) line

-- and with some lines more
unfoldable pub notes_of : Notes → List (List ℕ) → Notes
notes_of n [] = n
notes_of n (line ∷ lines) = notes_of (noted n line) lines
