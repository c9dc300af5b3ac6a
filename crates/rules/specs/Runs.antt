-- Runs: the calls that a program can make, the replies that it gets, and what it could still get. Assumes nothing.
use Rattle.std.specs.Prelude.{◌≡◌, Bool, false, cond, ◌&&◌, ℕ, ◌+◌, eqb}
use mathlib.Core.List.{List, [], ◌∷◌, sum, zip_with}
use Rattle.std.proofs.Math.Option.{some}
use Rattle.calls.specs.declared.Which.{Which}
use Rattle.calls.specs.Calls.{Call, get, is_put, is_sweep, Passable}
use Rattle.calls.specs.Questions.{Question, Request, make, ask}
use Rattle.rules.specs.Rules.{View, fresh_view, input_from, Item, Outcome, Does, Says}

-- any calls, refused ones and sweeps with slices of any length included
pub data Run : View → View → Type 0 where
  stop : {v : View} → Run v v
  next : {v w : View} (call : Call) (o : Outcome) → Passable call → Does v call o → Run o.view w → Run v w

-- where runs start: "A fresh desk has thread 0 with virtual time 0 and nothing else."
pub data Start : View → Type 0 where
  fresh : Start fresh_view

-- "From a fresh desk, after any calls": the fresh desk is the one start
pub record Reachable (v : View) : Type 0 where
  pub start : View
  pub starts : Start start
  pub run : Run start v

-- "further run of accepted calls other than sweeps"
pub data Further : View → View → Type 0 where
  stop : {v : View} → Further v v
  next : {v w : View} (call : Call) (o : Outcome) → Passable call → is_sweep call ≡ false → Does v call o → o.code ≡ 0 → Further o.view w → Further v w

-- some further run leads to a get that is accepted and answers this very item: through a connection to its channel, with its timestamp and its ticket.
-- Any thread that then lives may make the get: one "now living or yet to be created".
pub record CouldBeGot (v : View) (item : Item) : Type 0 where
  pub later : View
  pub run : Further v later
  pub thread : ℕ
  pub connection : ℕ
  pub which : Which
  pub outcome : Outcome
  pub passable : Passable (get thread connection which)
  pub does : Does later (get thread connection which) outcome
  pub accepted : outcome.code ≡ 0
  pub channel : input_from (later.connection connection) ≡ some item.channel
  pub timestamp : outcome.time ≡ item.timestamp
  pub ticket : outcome.value ≡ item.ticket

-- ---- what a program sees

-- "Each answer is a code, a value and a time." Beside it stands the slice that was lent, as it then is.
pub record Reply : Type 0 where
  pub code : ℕ
  pub value : ℕ
  pub time : ℕ
  pub slice : List ℕ

-- the reply to a call
abbrev pub reply_of : Outcome → Reply
reply_of o = record { code = o.code; value = o.value; time = o.time; slice = o.slice }

-- the reply to a question, which is lent no slice
abbrev pub plain_reply : ℕ → ℕ → ℕ → Reply
plain_reply code value time = record { code = code; value = value; time = time; slice = [] }

-- these are the replies to these calls and questions, one after the other, and this is the view after them; a question is "without effect"
pub data Gives : View → List Request → List Reply → View → Type 0 where
  stop : {v : View} → Gives v [] [] v
  called : {v w : View} {call : Call} {requests : List Request} {replies : List Reply} (o : Outcome) → Does v call o → Gives o.view requests replies w
      → Gives v (make call ∷ requests) (reply_of o ∷ replies) w
  questioned : {v w : View} {question : Question} {requests : List Request} {replies : List Reply} (code value time : ℕ) → Says v question code value time
      → Gives v requests replies w → Gives v (ask question ∷ requests) (plain_reply code value time ∷ replies) w

-- ---- the accounts, "both taken from the answers"

-- this number where the answer's code is 0 and it is a call that counts, and otherwise 0
abbrev pub if_accepted : Reply → Bool → ℕ → ℕ
if_accepted reply counts number = cond (eqb reply.code 0 && counts) number 0

-- an accepted put counts for one; a question is "never counted"
abbrev pub put_count : Request → Reply → ℕ
put_count (make call) reply = if_accepted reply (is_put call) 1
put_count (ask question) reply = 0

-- "the accepted puts", over all calls and questions
unfoldable pub accepted_puts : List Request → List Reply → ℕ
accepted_puts requests replies = sum ◌+◌ 0 (zip_with put_count requests replies)

-- an accepted sweep counts for the tickets that it handed back, by the value of its answer
abbrev pub back_count : Request → Reply → ℕ
back_count (make call) reply = if_accepted reply (is_sweep call) reply.value
back_count (ask question) reply = 0

-- "all tickets handed back", over all calls and questions
unfoldable pub tickets_back : List Request → List Reply → ℕ
tickets_back requests replies = sum ◌+◌ 0 (zip_with back_count requests replies)
