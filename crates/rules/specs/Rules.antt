-- The rules: what can be observed of a desk, and what each call and each question of document 01 does. To be read with 01 or with the paper (000) in
-- the other hand, and with nothing else: no word and no row of the desk's tables stands here. From the crate calls come the names of the calls and
-- questions, of the two bounds, of the four states (with their numbers) and of earliest, latest and named, the slice that a sweep is lent, and 01's
-- sizes and never.
-- Assumes nothing.
use Rattle.std.specs.Prelude.{◌≡◌, Bool, true, false, cond, List, [], ◌∷◌, ◌++◌, map, ◌⊎◌, ◌↔◌, ◌≢◌, ℕ, suc, max, ◌≤◌, ◌<◌, eqb, ltb, drop, length}
use Rattle.std.proofs.Math.Option.{Option, none, some}
use Rattle.calls.specs.declared.State.{State}
use Rattle.calls.specs.declared.State.TheVariants.{Absent, Unseen, Open, Consumed}
use Rattle.calls.specs.declared.Which.{Which}
use Rattle.calls.specs.declared.Which.TheVariants.{Earliest, Latest, Named}
use Rattle.calls.specs.declared.Deed.{Deed}
use Rattle.calls.specs.declared.Deed.TheVariants.{Channel, NewThread, AttachInput, AttachOutput, Detach, End, Set, Put, Get, Consume, ConsumeUntil}
use Rattle.calls.specs.declared.Bound.{Bound}
use Rattle.calls.specs.declared.Bound.TheVariants.{Weak, Strong}
use Rattle.calls.specs.Calls.{Call, by, sweep, slice_of}
use Rattle.calls.specs.Questions.{Question, ask_visible_time, ask_weak_bound, ask_strong_bound, ask_state_of, ask_items_present}
use Rattle.calls.specs.States.{state_number}
pub use Rattle.calls.specs.Numbers.{never, channel_places, thread_places, connection_places, item_places}

-- ---- what is there

-- what a connection's number stands for: nothing, or a thread's connection to a channel, in one direction. "Each input connection has a mark",
-- and on it each timestamp has a state.
pub data Connection : Type 0 where
  unused : Connection
  output : (thread channel : ℕ) → Connection
  input : (thread channel mark : ℕ) (seen : ℕ → State) → Connection

-- "The desk keeps threads (reading programs), channels, connections and items."
pub record View : Type 0 where
  -- the virtual time of a living thread
  pub thread : ℕ → Option ℕ
  -- whether there is such a channel
  pub channel : ℕ → Bool
  pub connection : ℕ → Connection
  -- the ticket of the item in a channel at a timestamp
  pub item : (channel timestamp : ℕ) → Option ℕ

-- a set of pairs "of channel and timestamp"
abbrev pub Pairs : Type 0
Pairs = (channel timestamp : ℕ) → Bool

-- all pairs, with or without an item; among them are all of "the items present"
abbrev pub everything : Pairs
everything channel timestamp = true

-- the pairs with a timestamp below a bound, with or without an item; among them is "Every present item with a smaller timestamp"
abbrev pub below : ℕ → Pairs
below bound channel timestamp = ltb timestamp bound

-- ---- how a view changes: one thing, and all else stays

-- the same but at one number
abbrev pub at : {A : Type 0} → (ℕ → A) → ℕ → A → ℕ → A
at old number new n = cond (eqb n number) new (old n)

abbrev pub with_thread : View → ℕ → Option ℕ → View
with_thread v thread time =
    record { thread = at v.thread thread time; channel = v.channel; connection = v.connection; item = v.item }

abbrev pub with_channel : View → ℕ → View
with_channel v channel =
    record { thread = v.thread; channel = at v.channel channel true; connection = v.connection; item = v.item }

abbrev pub with_connections : View → (ℕ → Connection) → View
with_connections v connections =
    record { thread = v.thread; channel = v.channel; connection = connections; item = v.item }

abbrev pub with_connection : View → ℕ → Connection → View
with_connection v number connection = with_connections v (at v.connection number connection)

abbrev pub with_items : View → (ℕ → ℕ → Option ℕ) → View
with_items v items =
    record { thread = v.thread; channel = v.channel; connection = v.connection; item = items }

-- "A fresh desk has thread 0 with virtual time 0 and nothing else."
abbrev pub fresh_view : View
fresh_view = record { thread = at (λ _. none) 0 (some 0); channel = λ _. false; connection = λ _. unused; item = λ _ _. none }

-- ---- of one connection

-- its thread
abbrev pub owner : Connection → Option ℕ
owner unused = none
owner (output thread channel) = some thread
owner (input thread channel mark seen) = some thread

-- the channel that it writes to, and the channel that it reads from
abbrev pub output_to : Connection → Option ℕ
output_to unused = none
output_to (output thread channel) = some channel
output_to (input thread channel mark seen) = none

abbrev pub input_from : Connection → Option ℕ
input_from unused = none
input_from (output thread channel) = none
input_from (input thread channel mark seen) = some channel

-- "Keep time of an input connection: its mark. An item consumed by name does not move it." What is no input connection has none.
abbrev pub KeepTime : Connection → ℕ → Type 0
KeepTime unused time = ⊥
KeepTime (output thread channel) time = ⊥
KeepTime (input thread channel mark seen) time = time ≡ mark

-- "For a timestamp on it": on what is no input connection every timestamp counts as ABSENT
abbrev pub state_on : Connection → ℕ → State
state_on unused timestamp = Absent
state_on (output thread channel) timestamp = Absent
state_on (input thread channel mark seen) timestamp = seen timestamp

-- an input connection changes; what is none stays
abbrev pub if_input : (ℕ → ℕ → ℕ → (ℕ → State) → Connection) → Connection → Connection
if_input change unused = unused
if_input change (output thread channel) = output thread channel
if_input change (input thread channel mark seen) = change thread channel mark seen

-- one timestamp has another state
abbrev pub seen_as : State → ℕ → Connection → Connection
seen_as state timestamp = if_input (λ thread channel mark seen. input thread channel mark (at seen timestamp state))

-- "mark becomes the larger of itself and timestamp + 1" (consume until), "the larger of itself and the bound" (a sweep): below that time all is CONSUMED,
-- and from it on nothing changes
abbrev pub consumed_below : ℕ → Connection → Connection
consumed_below time =
    if_input (λ thread channel mark seen. input thread channel (max mark time) (λ timestamp. cond (ltb timestamp time) Consumed (seen timestamp)))

-- an item comes into a channel: what was ABSENT on its input connections becomes UNSEEN, what is below a mark stays CONSUMED
abbrev pub noticed : State → State
noticed Absent = Unseen
noticed Unseen = Unseen
noticed Open = Open
noticed Consumed = Consumed

abbrev pub noticing : ℕ → ℕ → Connection → Connection
noticing channel timestamp =
    if_input (λ thread from mark seen. input thread from mark (cond (eqb from channel) (at seen timestamp (noticed (seen timestamp))) seen))

-- items leave a channel: "When an item leaves the desk, both are cleared for its place on every connection.", and a timestamp without an item is
-- "CONSUMED if below the mark; otherwise ABSENT"
abbrev pub forgetting : Pairs → Connection → Connection
forgetting gone =
    if_input (λ thread from mark seen. input thread from mark
    (λ timestamp. cond (gone from timestamp) (cond (ltb timestamp mark) Consumed Absent) (seen timestamp)))

-- what a new input connection with this mark sees of a channel: "CONSUMED if below the mark; otherwise ABSENT if the channel has no such item";
-- otherwise UNSEEN, for nothing was got through it
abbrev pub unseen_if : Option ℕ → State
unseen_if none = Absent
unseen_if (some ticket) = Unseen

abbrev pub first_seen : (ℕ → Option ℕ) → ℕ → ℕ → State
first_seen items mark timestamp = cond (ltb timestamp mark) Consumed (unseen_if (items timestamp))

-- nothing where it is the thread's
abbrev pub freed_from : ℕ → Connection → Connection
freed_from thread unused = unused
freed_from thread (output its channel) = cond (eqb its thread) unused (output its channel)
freed_from thread (input its channel mark seen) = cond (eqb its thread) unused (input its channel mark seen)

-- ---- visible time and the two bounds

-- the smallest of some times; never where there is none
pub record Smallest (Among : ℕ → Type 0) (least : ℕ) : Type 0 where
  pub at_most_never : least ≤ never
  pub at_most_each : (time : ℕ) → Among time → least ≤ time
  pub attained : least < never → Among least

-- some living thread has this virtual time
abbrev pub IsTime : View → ℕ → Type 0
IsTime v time = (thread : ℕ) × (v.thread thread ≡ some time)

-- "Visible time of a thread: the smallest of its virtual time and of all timestamps OPEN on its input connections." VIS(t) of 000, section 3.2.1.
abbrev pub VisibleTime : View → ℕ → ℕ → Type 0
VisibleTime v thread =
    Smallest (λ time. (v.thread thread ≡ some time)
    ⊎ ((connection : ℕ) × (owner (v.connection connection) ≡ some thread) × (state_on (v.connection connection) time ≡ Open)))

-- "Weak bound (000, section 4): the smallest of all virtual times of living threads and all keep times."
abbrev pub WeakBound : View → ℕ → Type 0
WeakBound v = Smallest (λ time. IsTime v time ⊎ ((connection : ℕ) × KeepTime (v.connection connection) time))

-- "Strong bound (000, section 5): the smallest of all virtual times and of all timestamps of present items that are UNSEEN or OPEN on some input
-- connection." It is minO of theorem 5.0, read so that it is sound, with minV where minV is at most minK: nothing below minV is UNSEEN or OPEN then. As
-- printed, the theorem has minK there, and that would fall at the first attach: from never, where there is no input connection yet, to the mark.
abbrev pub StrongBound : View → ℕ → Type 0
StrongBound v =
    Smallest (λ time. IsTime v time
    ⊎ ((connection : ℕ) × ((state_on (v.connection connection) time ≡ Unseen) ⊎ (state_on (v.connection connection) time ≡ Open))))

-- "A sweep takes its bound."
abbrev pub BoundOf : View → Bound → ℕ → Type 0
BoundOf v Weak = WeakBound v
BoundOf v Strong = StrongBound v

-- ---- items in line

-- an item by all that is known of it
pub record Item : Type 0 where
  pub channel : ℕ
  pub timestamp : ℕ
  pub ticket : ℕ

-- it is one of "the items present": in its channel, at its timestamp, is its ticket
abbrev pub IsPresent : View → Item → Type 0
IsPresent v item = v.item item.channel item.timestamp ≡ some item.ticket

-- it is one of these
infix 20 ◌∈◌
abbrev pub ◌∈◌ : Item → List Item → Type 0
item ∈ [] = ⊥
item ∈ (first ∷ items) = (item ≡ first) ⊎ (item ∈ items)

-- "by channel number, then timestamp"
abbrev pub Before : Item → Item → Type 0
Before item other =
    (item.channel < other.channel) ⊎ ((item.channel ≡ other.channel) × (item.timestamp < other.timestamp))

-- each before all that follow it, so that "Tickets go to the front of the slice by channel number, then timestamp"
abbrev pub InLine : List Item → Type 0
InLine [] = Unit {0}
InLine (first ∷ items) = ((item : Item) → item ∈ items → Before first item) × InLine items

-- these are the present items of a set of pairs, in line
pub record Listed (v : View) (among : Pairs) (items : List Item) : Type 0 where
  pub in_line : InLine items
  pub exactly : (item : Item) → (item ∈ items) ↔ (IsPresent v item × (among item.channel item.timestamp ≡ true))

-- "Tickets go to the front of the slice": these items' own, in the same order
abbrev pub tickets : List Item → List ℕ
tickets items = map (λ (item : Item). item.ticket) items

-- ---- what is free, and what a get takes

-- what number a new thread, channel or connection may take: no thread lives with it, there is no such channel, no such connection
abbrev pub FreeThread : View → ℕ → Type 0
FreeThread v thread = v.thread thread ≡ none

abbrev pub FreeChannel : View → ℕ → Type 0
FreeChannel v channel = v.channel channel ≡ false

abbrev pub FreeConnection : View → ℕ → Type 0
FreeConnection v connection = v.connection connection ≡ unused

-- "takes the lowest free place"
abbrev pub Lowest : (ℕ → Type 0) → ℕ → Type 0
Lowest Free number = Free number × ((lower : ℕ) → lower < number → Free lower → ⊥)

-- "Which is earliest, latest or one named timestamp, among UNSEEN items only."
abbrev pub Takes : Which → (ℕ → Type 0) → ℕ → Type 0
Takes Earliest Fits timestamp = Fits timestamp × ((other : ℕ) → Fits other → timestamp ≤ other)
Takes Latest Fits timestamp = Fits timestamp × ((other : ℕ) → Fits other → other ≤ timestamp)
Takes (Named name) Fits timestamp = Fits timestamp × (timestamp ≡ name)

-- the same of one connection: "UNSEEN" on it
abbrev pub TakesUnseen : View → ℕ → Which → ℕ → Type 0
TakesUnseen v connection which = Takes which (λ timestamp. state_on (v.connection connection) timestamp ≡ Unseen)

-- ---- the refusals

-- a code, what it takes to be refused with it, and what value and time then go with it
pub record Refusal : Type 1 where
  pub code : ℕ
  pub Case : Type 0
  pub value : Case → ℕ
  pub time : Case → ℕ

-- "A refusal answers value 0 and time 0, .."
abbrev pub refuse : ℕ → Type 0 → Refusal
refuse code Case = record { code = code; Case = Case; value = λ _. 0; time = λ _. 0 }

-- 1: "no such living thread"
abbrev pub no_thread : View → ℕ → Refusal
no_thread v thread = refuse 1 (v.thread thread ≡ none)

-- 2: "no such channel"
abbrev pub no_channel : View → ℕ → Refusal
no_channel v channel = refuse 2 (v.channel channel ≡ false)

-- 3: "no such connection, or another thread's"; where no thread is named, "no such connection"
abbrev pub not_its_own : View → ℕ → ℕ → Refusal
not_its_own v thread connection = refuse 3 (owner (v.connection connection) ≢ some thread)

abbrev pub no_connection : View → ℕ → Refusal
no_connection v connection = refuse 3 (v.connection connection ≡ unused)

-- 4: "connection of the other direction"
abbrev pub no_output : View → ℕ → Refusal
no_output v connection = refuse 4 (output_to (v.connection connection) ≡ none)

abbrev pub no_input : View → ℕ → Refusal
no_input v connection = refuse 4 (input_from (v.connection connection) ≡ none)

-- 5: "never given where a timestamp is needed"
abbrev pub no_timestamp : ℕ → Refusal
no_timestamp timestamp = refuse 5 (never ≤ timestamp)

-- "Only a named one can meet 5."
abbrev pub NamesNever : Which → Type 0
NamesNever Earliest = ⊥
NamesNever Latest = ⊥
NamesNever (Named timestamp) = never ≤ timestamp

abbrev pub named_never : Which → Refusal
named_never which = refuse 5 (NamesNever which)

-- 6: "time below the caller's visible time"
abbrev pub too_early : View → ℕ → ℕ → Refusal
too_early v thread time = refuse 6 ((visible : ℕ) × VisibleTime v thread visible × (time < visible))

-- 7: "timestamp already present in the channel"
abbrev pub taken : View → ℕ → ℕ → Refusal
taken v connection timestamp =
    refuse 7 ((channel ticket : ℕ) × (output_to (v.connection connection) ≡ some channel) × (v.item channel timestamp ≡ some ticket))

-- 8: "64 items present"
abbrev pub desk_full : View → Refusal
desk_full v = refuse 8 ((items : List Item) × Listed v everything items × (length items ≡ item_places))

-- 9: "the table has no free place". "Threads 16 (0..15), channels 8 (0..7), connections 32 (0..31), both directions together"
abbrev pub table_full : ℕ → (ℕ → Type 0) → Refusal
table_full places Free = refuse 9 ((number : ℕ) → number < places → Free number → ⊥)

-- 10: "no UNSEEN item that fits"
abbrev pub nothing_unseen : View → ℕ → Which → Refusal
nothing_unseen v connection which = refuse 10 ((timestamp : ℕ) → TakesUnseen v connection which timestamp → ⊥)

-- 11: "item is not OPEN on the connection"
abbrev pub not_open : View → ℕ → ℕ → Refusal
not_open v connection timestamp = refuse 11 (state_on (v.connection connection) timestamp ≢ Open)

-- 12: "slice shorter than the items to hand back", ".. except 12, whose value is the number of items to hand back."
abbrev pub slice_short : View → (ℕ → Type 0) → List ℕ → Refusal
slice_short v IsBound slice = record {
  code = 12;
  Case = (bound : ℕ) × (items : List Item) × IsBound bound × Listed v (below bound) items × (length slice < length items);
  value = λ (bound, items, is, those, short). length items;
  time = λ _. 0;
}

-- ---- what an accepted call leads to

-- an answer, what can be observed afterwards, and the lent slice afterwards; a call that is lent none has the empty one
pub record Outcome : Type 0 where
  pub code : ℕ
  pub value : ℕ
  pub time : ℕ
  pub view : View
  pub slice : List ℕ

-- 0: "accepted"
abbrev pub done : ℕ → ℕ → View → List ℕ → Outcome
done value time view slice = record { code = 0; value = value; time = time; view = view; slice = slice }

-- an item comes into a channel
abbrev pub with_item : View → ℕ → ℕ → ℕ → View
with_item v channel timestamp ticket =
    with_items (with_connections v (λ connection. noticing channel timestamp (v.connection connection)))
    (λ c. cond (eqb c channel) (at (v.item c) timestamp (some ticket)) (v.item c))

-- "its connections and its place freed; items stay"
abbrev pub ended : View → ℕ → View
ended v thread = with_connections (with_thread v thread none) (λ connection. freed_from thread (v.connection connection))

-- an item "leaves the desk", here every item of a set of pairs; no mark moves
abbrev pub left : View → Pairs → View
left v gone =
    with_items (with_connections v (λ connection. forgetting gone (v.connection connection)))
    (λ channel timestamp. cond (gone channel timestamp) none (v.item channel timestamp))

-- "On every input connection the mark then becomes the larger of itself and the bound.": no item leaves by that
abbrev pub raised_to : View → ℕ → View
raised_to v bound = with_connections v (λ connection. consumed_below bound (v.connection connection))

-- "Every present item with a smaller timestamp leaves the desk.", and then the marks
abbrev pub swept : View → ℕ → View
swept v bound = raised_to (left v (below bound)) bound

-- ---- the calls

-- a row of 01's table: the refusals in their order, and what an accepted call leads to
pub record Row : Type 1 where
  pub refusals : List Refusal
  pub Accepts : Outcome → Type 0

abbrev pub row : List Refusal → (Outcome → Type 0) → Row
row refusals Accepts = record { refusals = refusals; Accepts = Accepts }

-- what the thread does, with the refusals after 1: "Put, set and new thread need a time not below the caller's visible time (6)." "A get looks at no
-- virtual time (rule V1 of 000)."
abbrev pub deed_row : View → ℕ → Deed → Row
deed_row v thread Channel =
    row (table_full channel_places (FreeChannel v) ∷ [])
    (λ o. (number : ℕ) × Lowest (FreeChannel v) number × (o ≡ done number 0 (with_channel v number) []))
deed_row v thread (NewThread time) =
    row (too_early v thread time ∷ table_full thread_places (FreeThread v) ∷ [])
    (λ o. (number : ℕ) × Lowest (FreeThread v) number × (o ≡ done number 0 (with_thread v number (some time)) []))
deed_row v thread (AttachInput channel) =
    row (no_channel v channel ∷ table_full connection_places (FreeConnection v) ∷ [])
    (λ o. (number visible : ℕ) × Lowest (FreeConnection v) number × VisibleTime v thread visible
    × (o ≡ done number visible (with_connection v number (input thread channel visible (first_seen (v.item channel) visible))) []))
deed_row v thread (AttachOutput channel) =
    row (no_channel v channel ∷ table_full connection_places (FreeConnection v) ∷ [])
    (λ o. (number : ℕ) × Lowest (FreeConnection v) number × (o ≡ done number 0 (with_connection v number (output thread channel)) []))
deed_row v thread (Detach connection) =
    row (not_its_own v thread connection ∷ [])
    (λ o. o ≡ done 0 0 (with_connection v connection unused) [])
deed_row v thread End = row [] (λ o. o ≡ done 0 0 (ended v thread) [])
deed_row v thread (Set time) =
    row (too_early v thread time ∷ [])
    (λ o. o ≡ done 0 0 (with_thread v thread (some time)) [])
deed_row v thread (Put connection timestamp ticket) =
    row (not_its_own v thread connection ∷ no_output v connection ∷ no_timestamp timestamp ∷ too_early v thread timestamp
    ∷ taken v connection timestamp ∷ desk_full v ∷ [])
    (λ o. (channel : ℕ) × (output_to (v.connection connection) ≡ some channel) × (o ≡ done 0 0 (with_item v channel timestamp ticket) []))
deed_row v thread (Get connection which) =
    row (not_its_own v thread connection ∷ no_input v connection ∷ named_never which ∷ nothing_unseen v connection which ∷ [])
    (λ o. (channel timestamp ticket : ℕ) × (input_from (v.connection connection) ≡ some channel) × TakesUnseen v connection which timestamp
    × (v.item channel timestamp ≡ some ticket)
    × (o ≡ done ticket timestamp (with_connection v connection (seen_as Open timestamp (v.connection connection))) []))
deed_row v thread (Consume connection timestamp) =
    row (not_its_own v thread connection ∷ no_input v connection ∷ no_timestamp timestamp ∷ not_open v connection timestamp ∷ [])
    (λ o. o ≡ done 0 0 (with_connection v connection (seen_as Consumed timestamp (v.connection connection))) [])
deed_row v thread (ConsumeUntil connection timestamp) =
    row (not_its_own v thread connection ∷ no_input v connection ∷ no_timestamp timestamp ∷ [])
    (λ o. o ≡ done 0 0 (with_connection v connection (consumed_below (suc timestamp) (v.connection connection))) [])

-- "Tickets go to the front of the slice by channel number, then timestamp; the rest of the slice is untouched. Value is their number, time the bound."
abbrev pub sweep_row : View → (ℕ → Type 0) → List ℕ → Row
sweep_row v IsBound slice =
    row (slice_short v IsBound slice ∷ [])
    (λ o. (bound : ℕ) × (items : List Item) × IsBound bound × Listed v (below bound) items
    × (o ≡ done (length items) bound (swept v bound) (tickets items ++ drop (length items) slice)))

-- a call that names a thread is first asked whether it lives; a sweep names none
abbrev pub rule : View → Call → Row
rule v (by thread deed) = row (no_thread v thread ∷ (deed_row v thread deed).refusals) (deed_row v thread deed).Accepts
rule v (sweep bound slice) = sweep_row v (BoundOf v bound) slice

-- it is not the case
abbrev pub Not : Refusal → Type 0
Not refusal = refusal.Case → ⊥

-- "Refusals are tested in the order written here.": the first that is the case answers
abbrev pub Refuses : List Refusal → ℕ → ℕ → ℕ → Type 0
Refuses [] code value time = ⊥
Refuses (first ∷ later) code value time =
    ((case : first.Case) × (code ≡ first.code) × (value ≡ first.value case) × (time ≡ first.time case))
    ⊎ (Not first × Refuses later code value time)

-- none is the case
abbrev pub NoneOf : List Refusal → Type 0
NoneOf [] = Unit {0}
NoneOf (first ∷ later) = Not first × NoneOf later

-- what a call does: it is refused, and "leaves the desk and the slice as they were", or it is accepted
abbrev pub Does : View → Call → Outcome → Type 0
Does v call o =
    (Refuses (rule v call).refusals o.code o.value o.time × (o.view ≡ v) × (o.slice ≡ slice_of call))
    ⊎ (NoneOf (rule v call).refusals × (rule v call).Accepts o)

-- ---- the questions

-- "Questions without effect, refused by the same codes": the refusals in their order, and the value and the time of an answer
pub record Asked : Type 1 where
  pub refusals : List Refusal
  pub Tells : (value time : ℕ) → Type 0

abbrev pub asked : List Refusal → (ℕ → ℕ → Type 0) → Asked
asked refusals Tells = record { refusals = refusals; Tells = Tells }

-- "A visible time or a bound stands in the time, with value 0. A state stands in the value, .., and the number of items stands in the value, both with
-- time 0." "no thread is named" where a state is asked for.
abbrev pub asked_of : View → Question → Asked
asked_of v (ask_visible_time thread) = asked (no_thread v thread ∷ []) (λ value time. (value ≡ 0) × VisibleTime v thread time)
asked_of v ask_weak_bound = asked [] (λ value time. (value ≡ 0) × WeakBound v time)
asked_of v ask_strong_bound = asked [] (λ value time. (value ≡ 0) × StrongBound v time)
asked_of v (ask_state_of connection timestamp) =
    asked (no_connection v connection ∷ no_input v connection ∷ no_timestamp timestamp ∷ [])
    (λ value time. (value ≡ state_number (state_on (v.connection connection) timestamp)) × (time ≡ 0))
asked_of v ask_items_present = asked [] (λ value time. (items : List Item) × Listed v everything items × (value ≡ length items) × (time ≡ 0))

-- what a question is answered: it is "refused by the same codes", or it is answered with 0 and what it asks for
abbrev pub Says : View → Question → (code value time : ℕ) → Type 0
Says v question code value time =
    Refuses (asked_of v question).refusals code value time
    ⊎ (NoneOf (asked_of v question).refusals × (code ≡ 0) × (asked_of v question).Tells value time)
