-- What is claimed of every line, beside the contract of `read`. Assumes nothing.
use Rattle.std.specs.Prelude.{true, List, [], ◌≡◌, ℕ, ◌<◌, length, drop, get_or, Option, Some, None}
use Rattle.calls.specs.Calls.{Passable, Tickets, with_slice}
use Rattle.calls.specs.declared.Call.{Call}
use Rattle.lines.specs.Lines.{fields_of, decimal, Form, form_of, read_line}
use Rattle.lines.specs.Faults.{all_numbers, fault_of}
use Rattle.lines.specs.declared.reasons.Fault.TheVariants.{TooLarge}

-- the line of a form is the same for numbers that are the same as far as the form has limits
abbrev pub Determined : Form → Type 0
Determined form =
    (n m : ℕ → ℕ) → ((place : ℕ) → place < length form.limits → n place ≡ m place) → form.line n ≡ form.line m

-- `numbers_determine`: no letter's call holds a number that the line does not give, since there are limits for all that it holds:
-- "`p t k ts ticket`" has four
abbrev pub NumbersDetermine : Type 0
NumbersDetermine = (letter : ℕ) → Determined (form_of letter)

-- a line's call can be passed, with any slice beside it
abbrev pub PassableLine : Option Call → Type 0
PassableLine (Some call) = (slice : List ℕ) → Tickets slice → Passable (with_slice call slice)
PassableLine None = Unit {0}

-- `lines_passable`: "Threads, channels, connections and times are 32-bit, tickets 64-bit.": every line's call is one that a program can pass,
-- so that what holds of every run holds of a session's
abbrev pub LinesPassable : Type 0
LinesPassable = (bytes : List ℕ) → PassableLine (read_line bytes)

-- `faults_told`: a readable line has none of the reasons 1 to 9: each of them alone is why a line is not readable
abbrev pub FaultsTold : Type 0
FaultsTold = (line : List ℕ) (call : Call) → read_line line ≡ Some call → fault_of line ≡ TooLarge

-- each of so many fields, read as a number, is below its limit
abbrev pub AllBelow : List ℕ → List (List ℕ) → Type 0
AllBelow limits fields = (place : ℕ) → place < length limits → decimal 0 (get_or fields place []) < get_or limits place 0

-- `too_large_told`: a line that is not readable for the reason 10 has numbers behind its letter, of which not each is below its limit
abbrev pub TooLargeTold : Type 0
TooLargeTold = (line : List ℕ)
    → read_line line ≡ None
    → fault_of line ≡ TooLarge
    → (all_numbers (drop 1 (fields_of line)) ≡ true) × (AllBelow (form_of (get_or line 0 0)).limits (drop 1 (fields_of line)) → ⊥)
