-- Document 01, "Calls, and the order of their checks" and "Sweeps": each call as its refusals in order, its effect, and what it tells.
-- Assumes nothing.
use Rattle.std.specs.Prelude.{Bool, true, false, cond, List, [], ◌∷◌, ℕ, ◌+◌, max, leb, ltb, length, set, Option, Result}
use Rattle.words.specs.Words.{with, without, except, lowest_free, count}
use Rattle.calls.specs.declared.Bound.{Bound}
use Rattle.calls.specs.declared.Bound.TheVariants.{Weak, Strong}
use Rattle.calls.specs.declared.Deed.{Deed}
use Rattle.calls.specs.declared.Deed.TheVariants.{Channel, NewThread, AttachInput, AttachOutput, Detach, End, Set, Put, Get, Consume, ConsumeUntil}
use Rattle.calls.specs.declared.Which.{Which}
use Rattle.calls.specs.declared.Which.TheVariants.{Earliest, Latest, Named}
use Rattle.calls.specs.Calls.{Call, by, sweep}
use Rattle.calls.specs.States.{is_open}
use Rattle.rows.specs.declared.Found.{Found}
use Rattle.rows.specs.declared.Refusal.{Refusal}
use Rattle.rows.specs.declared.Told.{Told}
use Rattle.rows.specs.Answers.{tells, answer, answered, refusal, Check, needs, passes, decided}
use Rattle.rows.specs.Choices.{is_found, place_found, timestamp_found}
use Rattle.rows.specs.Numbers.{never}
use Rattle.tables.specs.Columns.{set_at, thread_places, channel_places, connection_places, item_places}
use Rattle.tables.specs.Seen.{place_of, state}
use Rattle.tables.specs.Search.{sought}
use Rattle.leaving.specs.Leaving.{cleared, handed_back, items_below, lessened, raised}
use Rattle.desk.specs.declared.Desk.{Desk}
use Rattle.desk.specs.declared.Next.{Next}
use Rattle.desk.specs.Desk.{is_living, is_channel, is_input, is_output, attached, owns, owned_by, leads_to, items_in, connection_at, ticket_at, with_threads, with_channels, with_connections, with_seen, with_items}
use Rattle.desk.specs.Times.{visible_time, weak_bound, strong_bound}

-- ---- "A new thread, channel, connection or item takes the lowest free place."

abbrev pub free_thread : Desk → ℕ
free_thread d = lowest_free d.living

abbrev pub free_channel : Desk → ℕ
free_channel d = lowest_free d.channels

abbrev pub free_connection : Desk → ℕ
free_connection d = lowest_free (attached d)

abbrev pub free_item : Desk → ℕ
free_item d = lowest_free d.present

-- the number of items present
abbrev pub items_present : Desk → ℕ
items_present d = count d.present

-- ---- the refusals, by their codes

-- 1: "no such living thread"
abbrev pub thread_lives : Desk → ℕ → Check
thread_lives d thread = needs (is_living d thread) (refusal 1)

-- 2: "no such channel"
abbrev pub channel_exists : Desk → ℕ → Check
channel_exists d channel = needs (is_channel d channel) (refusal 2)

-- 3: "no such connection, or another thread's"
abbrev pub connection_owned : Desk → ℕ → ℕ → Check
connection_owned d thread connection = needs (owns d thread connection) (refusal 3)

-- 4: "connection of the other direction"
abbrev pub connection_reads : Desk → ℕ → Check
connection_reads d connection = needs (is_input d connection) (refusal 4)

abbrev pub connection_writes : Desk → ℕ → Check
connection_writes d connection = needs (is_output d connection) (refusal 4)

-- 5: "never given where a timestamp is needed"
abbrev pub timestamp_given : ℕ → Check
timestamp_given timestamp = needs (ltb timestamp never) (refusal 5)

-- 6: "time below the caller's visible time". "Put, set and new thread need a time not below the caller's visible time (6)."
abbrev pub time_visible : Desk → ℕ → ℕ → Check
time_visible d thread time = needs (leb (visible_time d thread) time) (refusal 6)

-- 7: "timestamp already present in the channel"
abbrev pub timestamp_absent : Desk → ℕ → ℕ → Check
timestamp_absent d connection timestamp =
    needs (leb item_places (place_of d.timestamps (items_in d (leads_to d connection)) timestamp)) (refusal 7)

-- 8: "64 items present"
abbrev pub item_fits : Desk → Check
item_fits d = needs (ltb (items_present d) item_places) (refusal 8)

-- 9: "the table has no free place"
abbrev pub place_free : ℕ → ℕ → Check
place_free place places = needs (ltb place places) (refusal 9)

-- 10: "no UNSEEN item that fits"
-- what a get finds
abbrev pub sought_by : Desk → ℕ → Which → Option Found
sought_by d connection which = sought d.timestamps (connection_at d connection) which

abbrev pub item_found : Desk → ℕ → Which → Check
item_found d connection which = needs (is_found (sought_by d connection which)) (refusal 10)

-- "Only a named one can meet 5."
abbrev pub is_given : Which → Bool
is_given Earliest = true
is_given Latest = true
is_given (Named timestamp) = ltb timestamp never

abbrev pub which_given : Which → Check
which_given which = needs (is_given which) (refusal 5)

-- 11: "item is not OPEN on the connection"
abbrev pub item_open : Desk → ℕ → ℕ → Check
item_open d connection timestamp = needs (is_open (state d.timestamps (connection_at d connection) timestamp)) (refusal 11)

-- "A sweep takes its bound."
abbrev pub bound_of : Desk → Bound → ℕ
bound_of d Weak = weak_bound d
bound_of d Strong = strong_bound d

-- "Every present item with a smaller timestamp leaves the desk."
abbrev pub leaving : Desk → ℕ → ℕ
leaving d bound = items_below d.timestamps d.present bound

-- 12: "slice shorter than the items to hand back", ".. except 12, whose value is the number of items to hand back."
abbrev pub slice_long : Desk → ℕ → List ℕ → Check
slice_long d bound slice = needs (leb (count (leaving d bound)) (length slice)) (answer 12 (count (leaving d bound)) 0)

-- ---- the effects

-- a new thread with this virtual time, whoever creates it
unfoldable pub adopted : Desk → ℕ → Desk
adopted d time = with_threads d (with d.living (free_thread d)) (set d.times (free_thread d) time)

-- a new connection of the thread to the channel, an input with this mark or an output. Its facts stay as its place had them: none, as the place was free.
unfoldable pub attached_to : Desk → (reads : Bool) (thread channel mark : ℕ) → Desk
attached_to d reads thread channel mark =
    with_connections d
    (set d.owned thread (with (owned_by d thread) (free_connection d)))
    (cond reads d.outputs (with d.outputs (free_connection d)))
    (set d.leads (free_connection d) channel)
    (cond reads (with d.inputs (free_connection d)) d.inputs)
    (set d.marks (free_connection d) mark)
    d.opened
    d.consumed

-- some connections freed, whose ever they were
unfoldable pub unattached : Desk → (gone : ℕ) → Desk
unattached d gone =
    with_connections d
    d.owned
    (except d.outputs gone)
    (cleared connection_places gone d.leads)
    (except d.inputs gone)
    (cleared connection_places gone d.marks)
    (cleared connection_places gone d.opened)
    (cleared connection_places gone d.consumed)

-- some of the thread's connections freed
unfoldable pub freed : Desk → (thread gone : ℕ) → Desk
freed d thread gone =
    with_connections d
    (set d.owned thread (except (owned_by d thread) gone))
    (except d.outputs gone)
    (cleared connection_places gone d.leads)
    (except d.inputs gone)
    (cleared connection_places gone d.marks)
    (cleared connection_places gone d.opened)
    (cleared connection_places gone d.consumed)

-- "its connections and its place freed; items stay"
unfoldable pub ended : Desk → ℕ → Desk
ended d thread = with_threads (freed d thread (owned_by d thread)) (without d.living thread) (set d.times thread 0)

-- a new item of the channel in the lowest free place
unfoldable pub stored : Desk → (channel timestamp ticket : ℕ) → Desk
stored d channel timestamp ticket =
    with_items d
    (with d.present (free_item d))
    (set_at channel_places d.held channel (with (items_in d channel) (free_item d)))
    (set d.timestamps (free_item d) timestamp)
    (set d.tickets (free_item d) ticket)

-- "a get sets open": "item becomes OPEN"
unfoldable pub becomes_open : Desk → (connection place : ℕ) → Desk
becomes_open d connection place =
    with_seen d d.marks (set d.opened connection (with (connection_at d connection).opened place)) d.consumed

-- "a consume by name clears open and sets consumed, and nothing else sets either"
unfoldable pub consumed_by_name : Desk → (connection place : ℕ) → Desk
consumed_by_name d connection place =
    with_seen d d.marks
    (set d.opened connection (without (connection_at d connection).opened place))
    (set d.consumed connection (with (connection_at d connection).consumed place))

-- "mark becomes the larger of itself and timestamp + 1". "A raised mark leaves them as they are."
unfoldable pub raised_mark : Desk → (connection time : ℕ) → Desk
raised_mark d connection time = with_seen d (set d.marks connection (max (connection_at d connection).mark time)) d.opened d.consumed

-- the items in some places leave: these are free, and "both are cleared for its place on every connection"
unfoldable pub left : Desk → ℕ → Desk
left d gone =
    with_items (with_seen d d.marks (lessened connection_places gone d.opened) (lessened connection_places gone d.consumed))
    (except d.present gone)
    (lessened channel_places gone d.held)
    (cleared item_places gone d.timestamps)
    (cleared item_places gone d.tickets)

-- "On every input connection the mark then becomes the larger of itself and the bound."
unfoldable pub raised_to : Desk → ℕ → Desk
raised_to d bound = with_seen d (raised d.inputs bound d.marks) d.opened d.consumed

-- what leaves, and then the marks
unfoldable pub swept : Desk → ℕ → Desk
swept d bound = raised_to (left d (leaving d bound)) bound

-- ---- the calls

-- "ticket, timestamp"
abbrev pub found_told : Desk → Option Found → Told
found_told d found = tells (ticket_at d (place_found found)) (timestamp_found found)

-- a row of 01's table: the refusals in order; and of an accepted call the effect, and the value and the time that it tells
pub record Row : Type 0 where
  pub checks : List Check
  pub effect : Desk
  pub told : Told

abbrev pub row : List Check → Desk → Told → Row
row checks effect told = record { checks = checks; effect = effect; told = told }

-- what a thread does, with the refusals after 1
abbrev pub deed_row : Desk → ℕ → Deed → Row
deed_row d thread Channel =
    row (place_free (free_channel d) channel_places ∷ [])
    (with_channels d (with d.channels (free_channel d)))
    (tells (free_channel d) 0)
deed_row d thread (NewThread time) =
    row (time_visible d thread time ∷ place_free (free_thread d) thread_places ∷ [])
    (adopted d time)
    (tells (free_thread d) 0)
deed_row d thread (AttachInput channel) =
    row (channel_exists d channel ∷ place_free (free_connection d) connection_places ∷ [])
    (attached_to d true thread channel (visible_time d thread))
    (tells (free_connection d) (visible_time d thread))
deed_row d thread (AttachOutput channel) =
    row (channel_exists d channel ∷ place_free (free_connection d) connection_places ∷ [])
    (attached_to d false thread channel 0)
    (tells (free_connection d) 0)
deed_row d thread (Detach connection) =
    row (connection_owned d thread connection ∷ [])
    (freed d thread (with 0 connection))
    (tells 0 0)
deed_row d thread End = row [] (ended d thread) (tells 0 0)
deed_row d thread (Set time) =
    row (time_visible d thread time ∷ [])
    (with_threads d d.living (set d.times thread time))
    (tells 0 0)
deed_row d thread (Put connection timestamp ticket) =
    row
    (connection_owned d thread connection
    ∷ connection_writes d connection
    ∷ timestamp_given timestamp
    ∷ time_visible d thread timestamp
    ∷ timestamp_absent d connection timestamp
    ∷ item_fits d
    ∷ [])
    (stored d (leads_to d connection) timestamp ticket)
    (tells 0 0)
deed_row d thread (Get connection which) =
    row
    (connection_owned d thread connection
    ∷ connection_reads d connection
    ∷ which_given which
    ∷ item_found d connection which
    ∷ [])
    (becomes_open d connection (place_found (sought_by d connection which)))
    (found_told d (sought_by d connection which))
deed_row d thread (Consume connection timestamp) =
    row
    (connection_owned d thread connection
    ∷ connection_reads d connection
    ∷ timestamp_given timestamp
    ∷ item_open d connection timestamp
    ∷ [])
    (consumed_by_name d connection (place_of d.timestamps (connection_at d connection).items timestamp))
    (tells 0 0)
deed_row d thread (ConsumeUntil connection timestamp) =
    row (connection_owned d thread connection ∷ connection_reads d connection ∷ timestamp_given timestamp ∷ [])
    (raised_mark d connection (timestamp + 1))
    (tells 0 0)

-- "Value is their number, time the bound."
abbrev pub sweep_row : Desk → ℕ → List ℕ → Row
sweep_row d bound slice = row (slice_long d bound slice ∷ []) (swept d bound) (tells (count (leaving d bound)) bound)

-- a call that names a thread is first asked whether it lives; a sweep names none
unfoldable pub checks : Desk → Call → List Check
checks d (by thread deed) = thread_lives d thread ∷ (deed_row d thread deed).checks
checks d (sweep bound slice) = (sweep_row d (bound_of d bound) slice).checks

-- what an accepted call does to the desk, and what it tells
unfoldable pub effect : Desk → Call → Desk
effect d (by thread deed) = (deed_row d thread deed).effect
effect d (sweep bound slice) = (sweep_row d (bound_of d bound) slice).effect

unfoldable pub told : Desk → Call → Told
told d (by thread deed) = (deed_row d thread deed).told
told d (sweep bound slice) = (sweep_row d (bound_of d bound) slice).told

-- the answer, and the next desk, which is the given one where no refusal is the case. A refusal "leaves the desk and the slice as they were".
unfoldable pub outcome : Desk → List Check → Told → Desk → Next
outcome d tests says next = record { answer = decided tests says; desk = cond (passes tests) next d }

-- what the code of a call came to, which changes the desk in place: told or refused, and the desk then
abbrev pub came_to : Result Told Refusal → Desk → Next
came_to outcome desk = record { answer = answered outcome; desk = desk }

-- what a call does, accepted or refused: every contract of a call is an equality with this
unfoldable pub step : Desk → Call → Next
step d call = outcome d (checks d call) (told d call) (effect d call)

-- the slice that a sweep was lent, afterwards; the other calls are lent none
unfoldable pub slice_after : Desk → Call → List ℕ
slice_after d (by thread deed) = []
slice_after d (sweep bound slice) = handed_back d.timestamps d.tickets d.held (leaving d (bound_of d bound)) slice

-- the desk after some calls
unfoldable pub after : Desk → List Call → Desk
after d [] = d
after d (call ∷ calls) = after (step d call).desk calls
