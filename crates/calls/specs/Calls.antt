-- Document 01, "Calls, and the order of their checks": the rows of its table as data, and the numbers that a program can pass. Assumes nothing.
use Rattle.std.specs.Prelude.{Bool, true, false, List, [], ◌∷◌, ℕ, ◌^◌, ◌<◌}
use Rattle.calls.specs.declared.Which.{Which}
use Rattle.calls.specs.declared.Which.TheVariants.{Earliest, Latest, Named}
use Rattle.calls.specs.declared.Deed.{Deed}
use Rattle.calls.specs.declared.Deed.TheVariants.{Channel, NewThread, AttachInput, AttachOutput, Detach, End, Set, Put, Get, Consume, ConsumeUntil}
use Rattle.calls.specs.declared.Bound.{Bound}
use Rattle.calls.specs.declared.Bound.TheVariants.{Weak, Strong}
use Rattle.calls.specs.declared.Call as InCode
use Rattle.calls.specs.declared.Call.TheVariants.{By, Sweep}

-- a call is a thread's deed, or a sweep, which names no thread and is lent a slice
pub data Call : Type 0 where
  by : (thread : ℕ) (deed : Deed) → Call
  sweep : (bound : Bound) (slice : List ℕ) → Call

-- a call of the code, with the slice that it is lent beside it: a thread's deed uses none
abbrev pub with_slice : InCode.Call → List ℕ → Call
with_slice (By thread deed) slice = by thread deed
with_slice (Sweep bound) slice = sweep bound slice

-- ---- the calls under the names of 01's table, with their numbers in its order; its "channel" is `new_channel` here and its "set" is `set_time`

abbrev pub new_channel : (thread : ℕ) → Call
new_channel thread = by thread Channel

abbrev pub new_thread : (thread time : ℕ) → Call
new_thread thread time = by thread (NewThread time)

abbrev pub attach_input : (thread channel : ℕ) → Call
attach_input thread channel = by thread (AttachInput channel)

abbrev pub attach_output : (thread channel : ℕ) → Call
attach_output thread channel = by thread (AttachOutput channel)

abbrev pub detach : (thread connection : ℕ) → Call
detach thread connection = by thread (Detach connection)

abbrev pub end : (thread : ℕ) → Call
end thread = by thread End

abbrev pub set_time : (thread time : ℕ) → Call
set_time thread time = by thread (Set time)

abbrev pub put : (thread connection timestamp ticket : ℕ) → Call
put thread connection timestamp ticket = by thread (Put connection timestamp ticket)

abbrev pub get : (thread connection : ℕ) → Which → Call
get thread connection which = by thread (Get connection which)

abbrev pub consume : (thread connection timestamp : ℕ) → Call
consume thread connection timestamp = by thread (Consume connection timestamp)

abbrev pub consume_until : (thread connection timestamp : ℕ) → Call
consume_until thread connection timestamp = by thread (ConsumeUntil connection timestamp)

abbrev pub weak_sweep : (slice : List ℕ) → Call
weak_sweep slice = sweep Weak slice

abbrev pub strong_sweep : (slice : List ℕ) → Call
strong_sweep slice = sweep Strong slice

abbrev pub is_sweep : Call → Bool
is_sweep (by thread deed) = false
is_sweep (sweep bound slice) = true

-- an accepted put is counted in the accounts
abbrev pub is_put_deed : Deed → Bool
is_put_deed Channel = false
is_put_deed (NewThread time) = false
is_put_deed (AttachInput channel) = false
is_put_deed (AttachOutput channel) = false
is_put_deed (Detach connection) = false
is_put_deed End = false
is_put_deed (Set time) = false
is_put_deed (Put connection timestamp ticket) = true
is_put_deed (Get connection which) = false
is_put_deed (Consume connection timestamp) = false
is_put_deed (ConsumeUntil connection timestamp) = false

abbrev pub is_put : Call → Bool
is_put (by thread deed) = is_put_deed deed
is_put (sweep bound slice) = false

-- the slice that a call was lent; the empty one where it was lent none
abbrev pub slice_of : Call → List ℕ
slice_of (by thread deed) = []
slice_of (sweep bound slice) = slice

-- ---- calls whose numbers a program can pass: "Threads, channels, connections and times are 32-bit, tickets 64-bit."

abbrev pub number_limit : ℕ
number_limit = 2 ^ 32

abbrev pub ticket_limit : ℕ
ticket_limit = 2 ^ 64

abbrev pub Number : ℕ → Type 0
Number n = n < number_limit

abbrev pub Ticket : ℕ → Type 0
Ticket n = n < ticket_limit

abbrev pub Tickets : List ℕ → Type 0
Tickets [] = Unit {0}
Tickets (n ∷ slice) = Ticket n × Tickets slice

abbrev pub PassableWhich : Which → Type 0
PassableWhich Earliest = Unit {0}
PassableWhich Latest = Unit {0}
PassableWhich (Named timestamp) = Number timestamp

abbrev pub PassableDeed : Deed → Type 0
PassableDeed Channel = Unit {0}
PassableDeed (NewThread time) = Number time
PassableDeed (AttachInput channel) = Number channel
PassableDeed (AttachOutput channel) = Number channel
PassableDeed (Detach connection) = Number connection
PassableDeed End = Unit {0}
PassableDeed (Set time) = Number time
PassableDeed (Put connection timestamp ticket) = Number connection × Number timestamp × Ticket ticket
PassableDeed (Get connection which) = Number connection × PassableWhich which
PassableDeed (Consume connection timestamp) = Number connection × Number timestamp
PassableDeed (ConsumeUntil connection timestamp) = Number connection × Number timestamp

-- the length of a slice is left free: no claim needs it bounded
abbrev pub Passable : Call → Type 0
Passable (by thread deed) = Number thread × PassableDeed deed
Passable (sweep bound slice) = Tickets slice

abbrev pub AllPassable : List Call → Type 0
AllPassable [] = Unit {0}
AllPassable (call ∷ calls) = Passable call × AllPassable calls
