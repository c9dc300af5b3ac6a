-- Document 01, "The session program": what one line does to the desk, and what is printed for it. Assumes nothing.
use Rattle.std.specs.Prelude.{cond, List, [], ℕ, eqb, replicate, take, Option, Some, None}
use Rattle.rows.specs.declared.Answer.{Answer}
use Rattle.calls.specs.declared.Call.TheVariants.{By, Sweep}
use Rattle.calls.specs.declared.Call as InCode
use Rattle.calls.specs.Calls.{Call, by, sweep}
use Rattle.rows.specs.Answers.{answer}
use Rattle.desk.specs.declared.Desk.{Desk}
use Rattle.desk.specs.Calls.{step, slice_after}
use Rattle.lines.specs.Lines.{read_line}
use Rattle.text.specs.Text.{answer_text, most_tickets}

-- the answer to a line, the tickets printed after it, and the next desk
pub record Turn : Type 0 where
  pub answer : Answer
  pub tickets : List ℕ
  pub desk : Desk

-- "its slice has 64 places"
abbrev pub slice : List ℕ
slice = replicate most_tickets 0

-- the turn of a call: "For each line it prints code, value, time", here of what the desk does
abbrev pub calling : Desk → Call → List ℕ → Turn
calling d call tickets = record { answer = (step d call).answer; tickets = tickets; desk = (step d call).desk }

-- "for an accepted sweep the tickets"
abbrev pub sweeping : Desk → Call → Turn
sweeping d call =
    calling d call (cond (eqb (step d call).answer.code 0) (take (step d call).answer.value (slice_after d call)) [])

-- 99: "session line not readable"
abbrev pub unreadable : ℕ
unreadable = 99

-- a readable line is its call; "every other line .. answers `99 0 0` and changes nothing"
unfoldable pub turn_by : Desk → Option InCode.Call → Turn
turn_by d (Some (By thread deed)) = calling d (by thread deed) []
turn_by d (Some (Sweep bound)) = sweeping d (sweep bound slice)
turn_by d None = record { answer = answer unreadable 0 0; tickets = []; desk = d }

-- the turn of "a line", from its bytes
abbrev pub turn : Desk → List ℕ → Turn
turn d line = turn_by d (read_line line)

-- "For each line it prints code, value, time, and for an accepted sweep the tickets"
abbrev pub printed : Turn → List ℕ
printed t = answer_text t.answer.code t.answer.value t.answer.time t.tickets
