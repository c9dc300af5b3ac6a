-- Document 01, "What a connection has seen": the four states by name. Assumes nothing.
use Rattle.std.specs.Prelude.{Bool, true, false, ℕ}
use Rattle.calls.specs.declared.State.{State}
use Rattle.calls.specs.declared.State.TheVariants.{Absent, Unseen, Open, Consumed}

-- "A state stands in the value, as 0 ABSENT, 1 UNSEEN, 2 OPEN, 3 CONSUMED"
abbrev pub state_number : State → ℕ
state_number Absent = 0
state_number Unseen = 1
state_number Open = 2
state_number Consumed = 3

abbrev pub is_unseen : State → Bool
is_unseen Absent = false
is_unseen Unseen = true
is_unseen Open = false
is_unseen Consumed = false

abbrev pub is_open : State → Bool
is_open Absent = false
is_open Unseen = false
is_open Open = true
is_open Consumed = false

-- "UNSEEN or OPEN"
abbrev pub is_pending : State → Bool
is_pending Absent = false
is_pending Unseen = true
is_pending Open = true
is_pending Consumed = false
