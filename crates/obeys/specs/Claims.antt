-- That the desk obeys the rules, and what follows of it from what holds of every run under them. Each claim is proved in proofs/ under the name that
-- stands beside it. Assumes nothing.
use Rattle.std.specs.Prelude.{◌≡◌, false, List, ◌↔◌, ◌≢◌, ℕ, ◌+◌, ◌≤◌, ◌<◌, length}
use Rattle.std.proofs.Math.Option.{none, some}
use Rattle.calls.specs.declared.Bound.{Bound}
use Rattle.calls.specs.declared.Bound.TheVariants.{Weak, Strong}
use Rattle.calls.specs.Calls.{Call, sweep, put, is_sweep, Passable, AllPassable, Tickets}
use Rattle.calls.specs.Questions.{Question, ask_items_present, Request, PassableRequests}
use Rattle.rows.specs.Answers.{answer}
use Rattle.desk.specs.declared.Desk.{Desk}
use Rattle.desk.specs.Desk.{is_living, fresh}
use Rattle.desk.specs.Calls.{bound_of, step, after}
use Rattle.desk.specs.Questions.{reply}
use Rattle.rules.specs.Rules.{never, View, fresh_view, output_to, input_from, BoundOf, Item, IsPresent, ◌∈◌, InLine, Does, Says}
use Rattle.rules.specs.Runs.{Start, Reachable, CouldBeGot, Reply, Gives, accepted_puts, tickets_back}
use Rattle.rules.specs.Claims.{Handed, Forward}
use Rattle.obeys.specs.Reached.{DeskStart, Reached}
use Rattle.obeys.specs.View.{view_of, outcome_of, replies_of, desk_after}

-- ---- the desk does what the rules say

-- of every reached desk and every passable call: the answer, the view afterwards, every number of the slice: `desk_does`
abbrev pub DeskDoes : Type 0
DeskDoes = (d : Desk) → Reached d → (call : Call) → Passable call → Does (view_of d) call (outcome_of d call)

-- the five questions: `desk_says`
abbrev pub DeskSays : Type 0
DeskSays = (d : Desk) → Reached d → (question : Question)
    → Says (view_of d) question (reply d question).code (reply d question).value (reply d question).time

-- "A fresh desk has thread 0 with virtual time 0 and nothing else.": `starts_fresh`
abbrev pub StartsFresh : Type 0
StartsFresh = view_of fresh ≡ fresh_view

-- every start of a desk is a start of the rules: `desk_starts`
abbrev pub DeskStarts : Type 0
DeskStarts = (d : Desk) → DeskStart d → Start (view_of d)

-- and without a word of what is observed of a desk: over any calls and questions, the replies that the code gives are replies that the rules give:
-- `desk_gives`; and the rules give no others: `desk_gives_no_other`
abbrev pub DeskGives : Type 0
DeskGives = (requests : List Request) → PassableRequests requests → (v : View) × Gives fresh_view requests (replies_of fresh requests) v

abbrev pub DeskGivesNoOther : Type 0
DeskGivesNoOther =
    (requests : List Request) → PassableRequests requests → (replies : List Reply) (v : View) → Gives fresh_view requests replies v
    → replies ≡ replies_of fresh requests

-- ---- so what holds of every run under the rules holds of the desk

-- what every reached desk shows is reachable under the rules, so that every claim of rules/Claims speaks of it: `reached_reachable`. Those that speak
-- of calls are written out for what the code does.
abbrev pub ReachedReachable : Type 0
ReachedReachable = (d : Desk) → Reached d → Reachable (view_of d)

-- the code's sweep hands back these items, in line, with every slice that is long enough, and is refused with every shorter one
pub record DeskHandsBack (d : Desk) (bound : Bound) (items : List Item) : Type 0 where
  pub in_line : InLine items
  pub long : (slice : List ℕ) → Tickets slice → length items ≤ length slice → Handed (view_of d) bound items slice (outcome_of d (sweep bound slice))
  pub short : (slice : List ℕ) → Tickets slice → length slice < length items
      → outcome_of d (sweep bound slice) ≡ record { code = 12; value = length items; time = 0; view = view_of d; slice = slice }

-- demand 3: what the code's strong sweep hands back is exactly what could not be got
pub record DeskSweptExactly (d : Desk) : Type 0 where
  pub items : List Item
  pub hands_back : DeskHandsBack d Strong items
  pub exactly : (item : Item) → (item ∈ items) ↔ (IsPresent (view_of d) item × (CouldBeGot (view_of d) item → ⊥))
  pub kept : (item : Item) → IsPresent (view_of d) item → (item ∈ items → ⊥) → CouldBeGot (view_of d) item

-- `desk_sweeps_exactly`
abbrev pub DeskSweepsExactly : Type 0
DeskSweepsExactly = (d : Desk) → Reached d → DeskSweptExactly d

-- and its weak sweep hands back exactly what lies below the weak bound, and only what could not be got
pub record DeskSweptOnly (d : Desk) : Type 0 where
  pub items : List Item
  pub hands_back : DeskHandsBack d Weak items
  pub below : (item : Item) → (item ∈ items) ↔ (IsPresent (view_of d) item × (item.timestamp < bound_of d Weak))
  pub only : (item : Item) → item ∈ items → CouldBeGot (view_of d) item → ⊥

-- `desk_sweeps_only`
abbrev pub DeskSweepsOnly : Type 0
DeskSweepsOnly = (d : Desk) → Reached d → DeskSweptOnly d

-- the bounds that the code takes are those of the rules: `desk_bounds`; and they never fall: `desk_bounds_never_fall`
abbrev pub DeskBounds : Type 0
DeskBounds = (d : Desk) → Reached d → (bound : Bound) → BoundOf (view_of d) bound (bound_of d bound)

abbrev pub DeskBoundsNeverFall : Type 0
DeskBoundsNeverFall = (d : Desk) → Reached d → (calls : List Call) → AllPassable calls → (bound : Bound) → bound_of d bound ≤ bound_of (after d calls) bound

-- "With no living thread both bounds are never.": `desk_never_without_threads`; "every later call that names a thread is refused":
-- `desk_refused_without_threads`
abbrev pub NoThreads : Desk → Type 0
NoThreads d = (thread : ℕ) → is_living d thread ≡ false

abbrev pub DeskNeverWithoutThreads : Type 0
DeskNeverWithoutThreads = (d : Desk) → Reached d → NoThreads d → (bound : Bound) → bound_of d bound ≡ never

abbrev pub DeskRefusedWithoutThreads : Type 0
DeskRefusedWithoutThreads =
    (d : Desk) → Reached d → NoThreads d → (calls : List Call) → AllPassable calls → (call : Call) → Passable call → is_sweep call ≡ false
    → (step (after d calls) call).answer ≡ answer 1 0 0

-- no state goes back, over any call that leaves an input connection in place: `desk_moves_forward`
abbrev pub DeskMovesForward : Type 0
DeskMovesForward =
    (d : Desk) → Reached d → (call : Call) → Passable call → (connection : ℕ) → input_from ((view_of d).connection connection) ≢ none
    → input_from ((view_of (step d call).desk).connection connection) ≢ none
    → Forward ((view_of d).connection connection) ((view_of (step d call).desk).connection connection)

-- "No pair of channel and timestamp is accepted twice.", with any calls between the two puts: `desk_no_pair_twice`
abbrev pub PutAccepted : Desk → (channel thread connection timestamp ticket : ℕ) → Type 0
PutAccepted d channel thread connection timestamp ticket =
    Passable (put thread connection timestamp ticket) × ((step d (put thread connection timestamp ticket)).answer.code ≡ 0)
    × (output_to ((view_of d).connection connection) ≡ some channel)

abbrev pub DeskNoPairTwice : Type 0
DeskNoPairTwice =
    (d : Desk) → Reached d → (calls : List Call) → AllPassable calls → (channel timestamp thread connection ticket thread' connection' ticket' : ℕ)
    → PutAccepted d channel thread connection timestamp ticket
    → PutAccepted (after (step d (put thread connection timestamp ticket)).desk calls) channel thread' connection' timestamp ticket' → ⊥

-- the accounts from any start, whose own items count as puts, from the code's own answers: `desk_accounts_balance`
abbrev pub DeskAccountsBalance : Type 0
DeskAccountsBalance =
    (d : Desk) → DeskStart d → (requests : List Request) → PassableRequests requests
    → (reply d ask_items_present).value + accepted_puts requests (replies_of d requests)
    ≡ (reply (desk_after d requests) ask_items_present).value + tickets_back requests (replies_of d requests)

-- "Over any calls from a fresh desk, ..": `fresh_desk_accounts_balance`
abbrev pub FreshDeskAccountsBalance : Type 0
FreshDeskAccountsBalance =
    (requests : List Request) → PassableRequests requests
    → accepted_puts requests (replies_of fresh requests)
    ≡ (reply (desk_after fresh requests) ask_items_present).value + tickets_back requests (replies_of fresh requests)
