-- What holds of every run, stated over the rules alone. Each claim is proved in proofs/ under the name that stands beside it. What stands in quotation
-- marks is 01's, or one of the three demands that docs/PROMISES.md begins with. Assumes nothing.
use Rattle.std.specs.Prelude.{◌≡◌, Bool, true, false, List, ◌++◌, ◌⊎◌, ◌↔◌, ◌≢◌, ℕ, ◌+◌, ◌≤◌, ◌<◌, drop, length}
use Rattle.std.proofs.Math.Option.{Option, none, some}
use Rattle.calls.specs.declared.State.{State}
use Rattle.calls.specs.declared.State.TheVariants.{Absent, Open, Consumed}
use Rattle.calls.specs.declared.Which.{Which}
use Rattle.calls.specs.declared.Bound.{Bound}
use Rattle.calls.specs.declared.Bound.TheVariants.{Weak, Strong}
use Rattle.calls.specs.Calls.{Call, sweep, detach, end, put, get, consume, is_sweep, slice_of, Ticket, Passable}
use Rattle.calls.specs.Questions.{Question, ask_items_present, Request}
use Rattle.calls.specs.States.{state_number}
use Rattle.rules.specs.Rules.{never, channel_places, connection_places, item_places, thread_places, Pairs, everything, Connection, unused, output, input, View, fresh_view, owner, output_to, input_from, KeepTime, state_on, WeakBound, StrongBound, BoundOf, Item, IsPresent, ◌∈◌, InLine, Listed, tickets, Outcome, left, Does, Says}
use Rattle.rules.specs.Runs.{Run, Reachable, CouldBeGot, Reply, Gives, accepted_puts, tickets_back}

-- ---- every call is answered, in one way

-- `every_call_answered`
abbrev pub EveryCallAnswered : Type 0
EveryCallAnswered = (v : View) → Reachable v → (call : Call) → (o : Outcome) × Does v call o

-- "Two answers allowed for one call are proved to be equal": `does_one_thing`
abbrev pub DoesOneThing : Type 0
DoesOneThing = (v : View) (call : Call) (o p : Outcome) → Does v call o → Does v call p → o ≡ p

-- nor is a question left open: `every_question_answered`
abbrev pub EveryQuestionAnswered : Type 0
EveryQuestionAnswered = (v : View) → Reachable v → (question : Question) → (code value time : ℕ) × Says v question code value time

-- over any calls and questions there is one list of replies: `gives_once`
abbrev pub GivesOnce : Type 0
GivesOnce = (v w u : View) (requests : List Request) (replies others : List Reply) → Gives v requests replies w → Gives v requests others u → replies ≡ others

-- "It leaves the desk and the slice as they were.": `refused_changes_nothing`
abbrev pub RefusedChangesNothing : Type 0
RefusedChangesNothing = (v : View) (call : Call) (o : Outcome) → Does v call o → o.code ≢ 0 → (o.view ≡ v) × (o.slice ≡ slice_of call)

-- ---- demand 3

-- with a slice that is long enough the sweep is accepted: value and time, every number of the slice, and what leaves
pub record Handed (v : View) (bound : Bound) (items : List Item) (lent : List ℕ) (o : Outcome) : Type 0 where
  pub code : o.code ≡ 0
  pub value : o.value ≡ length items
  pub time : BoundOf v bound o.time
  pub slice : o.slice ≡ tickets items ++ drop (length items) lent
  pub stays : (item : Item) → IsPresent o.view item ↔ (IsPresent v item × (item ∈ items → ⊥))

-- a sweep hands back these items, in line, and with a slice that is too short it is refused
pub record HandsBack (v : View) (bound : Bound) (items : List Item) : Type 0 where
  pub in_line : InLine items
  pub long : (slice : List ℕ) → length items ≤ length slice → (o : Outcome) → Does v (sweep bound slice) o → Handed v bound items slice o
  pub short : (slice : List ℕ) → length slice < length items → (o : Outcome) → Does v (sweep bound slice) o
      → o ≡ record { code = 12; value = length items; time = 0; view = v; slice = slice }

-- "a strong sweep with a long enough slice hands back exactly the present items that no further run of accepted calls other than sweeps could get, by
-- a thread now living or yet to be created", and what stays could be got
pub record SweptExactly (v : View) : Type 0 where
  pub items : List Item
  pub hands_back : HandsBack v Strong items
  pub exactly : (item : Item) → (item ∈ items) ↔ (IsPresent v item × (CouldBeGot v item → ⊥))
  pub kept : (item : Item) → IsPresent v item → (item ∈ items → ⊥) → CouldBeGot v item

-- `swept_exactly_the_unreachable`
abbrev pub SweptExactlyTheUnreachable : Type 0
SweptExactlyTheUnreachable = (v : View) → Reachable v → SweptExactly v

-- a weak sweep hands back exactly what lies below the weak bound, and only what could not be got, so only what a strong one would
pub record SweptOnly (v : View) : Type 0 where
  pub items : List Item
  pub hands_back : HandsBack v Weak items
  pub below : (bound : ℕ) → WeakBound v bound → (item : Item) → (item ∈ items) ↔ (IsPresent v item × (item.timestamp < bound))
  pub only : (item : Item) → item ∈ items → CouldBeGot v item → ⊥

-- `weakly_swept_only_the_unreachable`
abbrev pub WeaklySweptOnlyTheUnreachable : Type 0
WeaklySweptOnlyTheUnreachable = (v : View) → Reachable v → SweptOnly v

-- what stays after a sweep can be got as well as before it, and no state at or above its bound changes: `sweeps_spare_the_rest`
abbrev pub SweepsSpareTheRest : Type 0
SweepsSpareTheRest =
    (v : View) → Reachable v → (bound : Bound) (slice : List ℕ) → Passable (sweep bound slice) → (o : Outcome) → Does v (sweep bound slice) o → o.code ≡ 0
    → ((item : Item) → IsPresent o.view item → CouldBeGot v item → CouldBeGot o.view item)
    × ((connection timestamp : ℕ) → o.time ≤ timestamp → state_on (o.view.connection connection) timestamp ≡ state_on (v.connection connection) timestamp)

-- ---- the bounds

-- both are there: `bounds_are_there`
abbrev pub BoundsAreThere : Type 0
BoundsAreThere = (v : View) → Reachable v → (bound : Bound) → (time : ℕ) × BoundOf v bound time

-- "The strong bound never goes down, also where threads end and their numbers are used again.", and no more does the weak one: `bounds_never_fall`
abbrev pub BoundsNeverFall : Type 0
BoundsNeverFall =
    (v w : View) → Reachable v → Run v w → (bound : Bound) (before now : ℕ) → BoundOf v bound before → BoundOf w bound now → before ≤ now

-- `weak_below_strong`
abbrev pub WeakBelowStrong : Type 0
WeakBelowStrong = (v : View) → Reachable v → (weak strong : ℕ) → WeakBound v weak → StrongBound v strong → weak ≤ strong

-- "With no living thread both bounds are never.": `never_without_threads`
abbrev pub NeverWithoutThreads : Type 0
NeverWithoutThreads = (v : View) → Reachable v → ((thread : ℕ) → v.thread thread ≡ none) → (bound : Bound) → BoundOf v bound never

-- "If the last thread ends, every later call that names a thread is refused.": every call but a sweep names one: `refused_without_threads`
abbrev pub RefusedWithoutThreads : Type 0
RefusedWithoutThreads =
    (v w : View) → ((thread : ℕ) → v.thread thread ≡ none) → Run v w → (call : Call) → is_sweep call ≡ false → (o : Outcome) → Does w call o
    → (o.code ≡ 1) × (o.value ≡ 0) × (o.time ≡ 0)

-- ---- what a connection has seen

-- "For a timestamp on it: CONSUMED if below the mark; otherwise ABSENT if the channel has no such item; otherwise UNSEEN, OPEN or CONSUMED"
pub record Sees (items : ℕ → Option ℕ) (mark : ℕ) (seen : ℕ → State) : Type 0 where
  pub below : (timestamp : ℕ) → timestamp < mark → seen timestamp ≡ Consumed
  pub absent : (timestamp : ℕ) → mark ≤ timestamp → items timestamp ≡ none → seen timestamp ≡ Absent
  pub present : (timestamp ticket : ℕ) → mark ≤ timestamp → items timestamp ≡ some ticket → seen timestamp ≢ Absent

-- `every_input_sees`
abbrev pub EveryInputSees : Type 0
EveryInputSees =
    (v : View) → Reachable v → (connection channel mark : ℕ) → input_from (v.connection connection) ≡ some channel
    → KeepTime (v.connection connection) mark → Sees (v.item channel) mark (state_on (v.connection connection))

-- ABSENT, UNSEEN, OPEN, CONSUMED and never back (000, section 3.2): over any call that leaves an input connection in place it reads the same channel,
-- no timestamp's state goes back, and its keep time does not fall
pub record Forward (old new : Connection) : Type 0 where
  pub channel : input_from old ≡ input_from new
  pub states : (timestamp : ℕ) → state_number (state_on old timestamp) ≤ state_number (state_on new timestamp)
  pub keeps : (was is : ℕ) → KeepTime old was → KeepTime new is → was ≤ is

-- `seen_moves_forward`
abbrev pub SeenMovesForward : Type 0
SeenMovesForward =
    (v : View) → Reachable v → (call : Call) → Passable call → (o : Outcome) → Does v call o → (connection : ℕ)
    → input_from (v.connection connection) ≢ none → input_from (o.view.connection connection) ≢ none → Forward (v.connection connection) (o.view.connection connection)

-- "a get sets open, a consume by name clears open and sets consumed, and nothing else sets either": what is OPEN was so before, or this call got it
-- through this connection: `only_gets_open`
abbrev pub OnlyGetsOpen : Type 0
OnlyGetsOpen =
    (v : View) (call : Call) (o : Outcome) → Does v call o → (connection timestamp : ℕ) → state_on (o.view.connection connection) timestamp ≡ Open
    → (state_on (v.connection connection) timestamp ≡ Open) ⊎ ((thread : ℕ) × (which : Which) × (call ≡ get thread connection which) × (o.time ≡ timestamp))

-- and what is CONSUMED, from the mark on, was so before, or this call consumed it by name on this connection: `only_consumes_consume`
abbrev pub OnlyConsumesConsume : Type 0
OnlyConsumesConsume =
    (v : View) (call : Call) (o : Outcome) → Does v call o → (connection timestamp mark : ℕ) → KeepTime (o.view.connection connection) mark → mark ≤ timestamp
    → state_on (o.view.connection connection) timestamp ≡ Consumed
    → (state_on (v.connection connection) timestamp ≡ Consumed) ⊎ ((thread : ℕ) × (call ≡ consume thread connection timestamp))

-- a connection stays its thread's, to its channel, in its direction, until that thread detaches it or ends: `connections_stay`
abbrev pub ConnectionsStay : Type 0
ConnectionsStay =
    (v : View) (call : Call) (o : Outcome) → Does v call o → (connection thread : ℕ) → owner (v.connection connection) ≡ some thread
    → ((owner (o.view.connection connection) ≡ some thread)
    × (output_to (o.view.connection connection) ≡ output_to (v.connection connection))
    × (input_from (o.view.connection connection) ≡ input_from (v.connection connection)))
    ⊎ ((call ≡ detach thread connection) ⊎ (call ≡ end thread))

-- ---- limits

-- a "living thread": it has a virtual time
abbrev pub Living : (ℕ → Option ℕ) → ℕ → Type 0
Living threads thread = (time : ℕ) × (threads thread ≡ some time)

-- what is in order about the connection with this number; an input sees what `EveryInputSees` says
abbrev pub ConnectionFits : (ℕ → Option ℕ) → (ℕ → Bool) → (ℕ → ℕ → Option ℕ) → ℕ → Connection → Type 0
ConnectionFits threads channels items number unused = Unit {0}
ConnectionFits threads channels items number (output thread channel) = (number < connection_places) × Living threads thread × (channels channel ≡ true)
ConnectionFits threads channels items number (input thread channel mark seen) =
    (number < connection_places) × Living threads thread × (channels channel ≡ true) × (mark ≤ never) × Sees (items channel) mark seen

-- "Threads 16 (0..15), channels 8 (0..7), connections 32 (0..31)": no number is past its table's end, no time past never; a connection's thread lives and
-- its channel exists, and so does an item's; never is no timestamp; a ticket is a "64-bit unsigned number"
pub record ViewInOrder (v : View) : Type 0 where
  pub threads : (thread time : ℕ) → v.thread thread ≡ some time → (thread < thread_places) × (time ≤ never)
  pub channels : (channel : ℕ) → v.channel channel ≡ true → channel < channel_places
  pub connections : (connection : ℕ) → ConnectionFits v.thread v.channel v.item connection (v.connection connection)
  pub items : (channel timestamp ticket : ℕ) → v.item channel timestamp ≡ some ticket → (v.channel channel ≡ true) × (timestamp < never) × Ticket ticket

-- `every_view_in_order`
abbrev pub EveryViewInOrder : Type 0
EveryViewInOrder = (v : View) → Reachable v → ViewInOrder v

-- whatever items leave, what is left is in order: `left_in_order`
abbrev pub LeftInOrder : Type 0
LeftInOrder = (v : View) → ViewInOrder v → (gone : Pairs) → ViewInOrder (left v gone)

-- ---- items

-- no call but a sweep removes or changes an item: `only_sweeps_remove`
abbrev pub OnlySweepsRemove : Type 0
OnlySweepsRemove =
    (v : View) → Reachable v → (call : Call) → Passable call → is_sweep call ≡ false → (o : Outcome) → Does v call o
    → (item : Item) → IsPresent v item → IsPresent o.view item

-- no call but a put of it brings an item: `only_puts_bring`
abbrev pub OnlyPutsBring : Type 0
OnlyPutsBring =
    (v : View) (call : Call) (o : Outcome) → Does v call o → (item : Item) → IsPresent o.view item
    → IsPresent v item
    ⊎ ((thread connection : ℕ) × (call ≡ put thread connection item.timestamp item.ticket) × (output_to (v.connection connection) ≡ some item.channel))

-- an accepted get answers a present item of its connection's channel: `gets_what_is_present`
abbrev pub GetsWhatIsPresent : Type 0
GetsWhatIsPresent =
    (v : View) (thread connection : ℕ) (which : Which) (o : Outcome) → Does v (get thread connection which) o → o.code ≡ 0
    → (channel : ℕ) × (input_from (v.connection connection) ≡ some channel) × (v.item channel o.time ≡ some o.value)

-- an accepted put to this channel, at this timestamp, with this ticket
pub record PutBy (v : View) (channel timestamp ticket : ℕ) (o : Outcome) : Type 0 where
  pub thread : ℕ
  pub connection : ℕ
  pub passable : Passable (put thread connection timestamp ticket)
  pub does : Does v (put thread connection timestamp ticket) o
  pub accepted : o.code ≡ 0
  pub into : output_to (v.connection connection) ≡ some channel

-- the ticket that comes back is the ticket that was put: whatever calls follow an accepted put, what is present in its channel at its timestamp, and so
-- what a get answers and a sweep hands back, carries its ticket: `comes_back_as_put`
abbrev pub ComesBackAsPut : Type 0
ComesBackAsPut =
    (v w : View) → Reachable v → (channel timestamp ticket other : ℕ) (o : Outcome) → PutBy v channel timestamp ticket o
    → Run o.view w → w.item channel timestamp ≡ some other → other ≡ ticket

-- "No pair of channel and timestamp is accepted twice.": `no_pair_twice`
abbrev pub NoPairTwice : Type 0
NoPairTwice =
    (v w : View) → Reachable v → (channel timestamp ticket other : ℕ) (o p : Outcome) → PutBy v channel timestamp ticket o
    → Run o.view w → PutBy w channel timestamp other p → ⊥

-- the items present are one list of at most 64: `items_are_listed`
abbrev pub ItemsAreListed : Type 0
ItemsAreListed = (v : View) → Reachable v → (items : List Item) × Listed v everything items × (length items ≤ item_places)

-- the accounts from any view; a start's own items count as puts: `accounts_balance`
abbrev pub AccountsBalance : Type 0
AccountsBalance =
    (start v : View) (own : List Item) → Listed start everything own → (requests : List Request) (replies : List Reply) (code value time : ℕ)
    → Gives start requests replies v → Says v ask_items_present code value time
    → length own + accepted_puts requests replies ≡ value + tickets_back requests replies

-- "Over any calls from a fresh desk, the accepted puts number the items present plus all tickets handed back, both taken from the answers.":
-- `fresh_accounts_balance`
abbrev pub FreshAccountsBalance : Type 0
FreshAccountsBalance =
    (requests : List Request) (replies : List Reply) (v : View) (code value time : ℕ) → Gives fresh_view requests replies v → Says v ask_items_present code value time
    → accepted_puts requests replies ≡ value + tickets_back requests replies
