-- What can be observed of a desk: its columns and words read as the rules speak of them. Assumes nothing.
use Rattle.std.specs.Prelude.{cond, List, [], ◌∷◌, ℕ, ltb}
use Rattle.std.proofs.Math.Option.{Option, none, some}
use Rattle.words.specs.Places.{lowest_of}
use Rattle.words.specs.Words.{has}
use Rattle.calls.specs.Calls.{Call}
use Rattle.calls.specs.Questions.{Request, make, ask}
use Rattle.rows.specs.declared.Answer.{Answer}
use Rattle.tables.specs.Columns.{thread_places, item_places}
use Rattle.tables.specs.Seen.{place_of, state}
use Rattle.desk.specs.declared.Desk.{Desk}
use Rattle.desk.specs.Desk.{is_living, time_of, owned_by, is_channel, items_in, is_input, is_output, leads_to, connection_at, ticket_at}
use Rattle.desk.specs.Calls.{step, slice_after}
use Rattle.desk.specs.Questions.{reply}
use Rattle.rules.specs.Rules.{Connection, unused, output, input, View, Outcome}
use Rattle.rules.specs.Runs.{Reply}

-- the thread whose connection it is; the number of threads where it is nobody's
unfoldable pub owner_of : Desk → ℕ → ℕ
owner_of d connection = lowest_of (λ thread. has (owned_by d thread) connection) thread_places

-- a connection of the rules: an input with its mark and the state of each timestamp, or an output
abbrev pub connection_of : Desk → ℕ → Connection
connection_of d connection =
    cond (is_input d connection)
    (input (owner_of d connection) (leads_to d connection) (connection_at d connection).mark (state d.timestamps (connection_at d connection)))
    (cond (is_output d connection) (output (owner_of d connection) (leads_to d connection)) unused)

-- the ticket of the channel's item with the timestamp, wherever it lies
abbrev pub item_of : Desk → ℕ → ℕ → Option ℕ
item_of d channel timestamp =
    cond (ltb (place_of d.timestamps (items_in d channel) timestamp) item_places)
    (some (ticket_at d (place_of d.timestamps (items_in d channel) timestamp))) none

-- which threads live and at which virtual times, which channels there are, what each connection's number stands for, and which items lie where: no
-- place of an item, no word and nothing of a free place can be observed
unfoldable pub view_of : Desk → View
view_of d = record {
  thread = λ thread. cond (is_living d thread) (some (time_of d thread)) none;
  channel = is_channel d;
  connection = connection_of d;
  item = item_of d;
}

-- what the desk does at a call, by the definitions that its contracts promise
unfoldable pub outcome_of : Desk → Call → Outcome
outcome_of d call = record {
  code = (step d call).answer.code;
  value = (step d call).answer.value;
  time = (step d call).answer.time;
  view = view_of (step d call).desk;
  slice = slice_after d call;
}

-- ---- what a program sees: nothing here looks at a view

abbrev pub made_reply : Answer → List ℕ → Reply
made_reply answer slice = record { code = answer.code; value = answer.value; time = answer.time; slice = slice }

-- the replies of the desk to calls and questions, one after the other, and the desk after them
unfoldable pub replies_of : Desk → List Request → List Reply
replies_of d [] = []
replies_of d (make call ∷ requests) = made_reply (step d call).answer (slice_after d call) ∷ replies_of (step d call).desk requests
replies_of d (ask question ∷ requests) = made_reply (reply d question) [] ∷ replies_of d requests

unfoldable pub desk_after : Desk → List Request → Desk
desk_after d [] = d
desk_after d (make call ∷ requests) = desk_after (step d call).desk requests
desk_after d (ask question ∷ requests) = desk_after d requests
