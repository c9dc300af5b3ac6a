-- Document 01, "Calls, and the order of their checks": how a call is answered. Assumes nothing.
use Rattle.std.specs.Prelude.{Bool, true, cond, ◌&&◌, List, [], ◌∷◌, ℕ, Result, Ok, Err}
use Rattle.rows.specs.declared.Answer.{Answer}
use Rattle.rows.specs.declared.Told.{Told}
use Rattle.rows.specs.declared.Refusal.{Refusal}
use Rattle.rows.specs.declared.Refusal.TheVariants.{NoThread, NoChannel, NoConnection, OtherDirection, NoTimestamp, BelowVisibleTime, AlreadyPresent, ItemsFull, TableFull, NothingUnseen, NotOpen, SliceTooShort}

-- "Each answer is a code, a value and a time."
abbrev pub answer : ℕ → ℕ → ℕ → Answer
answer code value time = record { code = code; value = value; time = time }

-- what an accepted call tells
abbrev pub tells : ℕ → ℕ → Told
tells value time = record { value = value; time = time }

-- 0: "accepted"
abbrev pub accepted : Told → Answer
accepted told = answer 0 told.value told.time

-- "A refusal answers value 0 and time 0", but for those of which 01 says more
abbrev pub refusal : ℕ → Answer
refusal code = answer code 0 0

-- what has to hold, and the whole refusal where it does not
pub record Check : Type 0 where
  pub holds : Bool
  pub refused : Answer

abbrev pub needs : Bool → Answer → Check
needs holds refused = record { holds = holds; refused = refused }

-- no refusal is the case
unfoldable pub passes : List Check → Bool
passes [] = true
passes (c ∷ checks) = c.holds && passes checks

-- "Refusals are tested in the order written here.": the first check that fails answers; where none does, the call is accepted
unfoldable pub decided : List Check → Told → Answer
decided [] told = accepted told
decided (c ∷ checks) told = cond c.holds (decided checks told) c.refused

-- ---- the refusals by name

-- the codes of 01's table
abbrev pub code_of : Refusal → ℕ
code_of NoThread = 1
code_of NoChannel = 2
code_of NoConnection = 3
code_of OtherDirection = 4
code_of NoTimestamp = 5
code_of BelowVisibleTime = 6
code_of AlreadyPresent = 7
code_of ItemsFull = 8
code_of TableFull = 9
code_of NothingUnseen = 10
code_of NotOpen = 11
code_of (SliceTooShort items) = 12

-- "A refusal answers value 0 and time 0, except 12, whose value is the number of items to hand back."
abbrev pub value_of : Refusal → ℕ
value_of NoThread = 0
value_of NoChannel = 0
value_of NoConnection = 0
value_of OtherDirection = 0
value_of NoTimestamp = 0
value_of BelowVisibleTime = 0
value_of AlreadyPresent = 0
value_of ItemsFull = 0
value_of TableFull = 0
value_of NothingUnseen = 0
value_of NotOpen = 0
value_of (SliceTooShort items) = items

abbrev pub refused_by : Refusal → Answer
refused_by refusal = answer (code_of refusal) (value_of refusal) 0

-- the answer to a call that was accepted, or refused so
abbrev pub answered : Result Told Refusal → Answer
answered (Ok told) = accepted told
answered (Err refusal) = refused_by refusal
