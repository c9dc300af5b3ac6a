-- Document 01, "Cases at the edges": P1 to P10, and further cases that pin what no claim about runs does, as one table of data with one claim over it.
-- Assumes nothing.
use Rattle.std.specs.Prelude.{◌≡◌, Bool, true, false, ◌&&◌, List, [], ◌∷◌, ◌++◌, ℕ, zero, suc, eqb}
use Rattle.calls.specs.declared.Which.TheVariants.{Earliest, Latest, Named}
use Rattle.calls.specs.Calls.{Call, new_channel, new_thread, attach_input, attach_output, detach, end, set_time, put, get, consume, consume_until, weak_sweep, strong_sweep}
use Rattle.calls.specs.Questions.{ask_visible_time, ask_weak_bound, ask_strong_bound, ask_state_of, ask_items_present, Request, make, ask}
use Rattle.rows.specs.declared.Answer.{Answer}
use Rattle.rows.specs.Answers.{answer}
use Rattle.rows.specs.Numbers.{never}
use Rattle.desk.specs.declared.Desk.{Desk}
use Rattle.desk.specs.Desk.{fresh}
use Rattle.desk.specs.Calls.{step, slice_after, after}
use Rattle.desk.specs.Questions.{reply}

-- a case: calls from a fresh desk, then a call or a question, then the answer expected, and the slice that was lent afterwards
pub record Case : Type 0 where
  pub calls : List Call
  pub last : Request
  pub expected : Answer
  pub slice : List ℕ

abbrev pub expect : List Call → Request → Answer → Case
expect calls last expected = record { calls = calls; last = last; expected = expected; slice = [] }

abbrev pub expect_slice : List Call → Request → Answer → List ℕ → Case
expect_slice calls last expected slice = record { calls = calls; last = last; expected = expected; slice = slice }

-- P2 to P4: one channel, output connection 0, virtual time and so visible time 5
abbrev pub at_five : List Call
at_five = new_channel 0 ∷ attach_output 0 0 ∷ set_time 0 5 ∷ []

-- P5: item 5 in channel 0, UNSEEN on the only input connection, 0, whose mark is 0; virtual time never
abbrev pub unseen_five : List Call
unseen_five = new_channel 0 ∷ attach_input 0 0 ∷ attach_output 0 0 ∷ put 0 1 5 500 ∷ set_time 0 never ∷ []

-- P6: the same, OPEN
abbrev pub open_five : List Call
open_five = unseen_five ++ get 0 0 Earliest ∷ []

-- P9: thread 0 at 3; its only connection, input 0, has consumed item 3
abbrev pub consumed_three : List Call
consumed_three =
    new_channel 0
    ∷ attach_output 0 0
    ∷ put 0 0 3 300
    ∷ detach 0 0
    ∷ attach_input 0 0
    ∷ set_time 0 3
    ∷ get 0 0 (Named 3)
    ∷ consume 0 0 3
    ∷ []

-- P10: the same, after P9's sweep
abbrev pub swept_at_three : List Call
swept_at_three = consumed_three ++ strong_sweep [] ∷ []

-- two threads, both at never: thread 1 holds item 5 OPEN on its input connection 1, thread 0 holds nothing and has output connection 0
abbrev pub open_for_other : List Call
open_for_other =
    new_channel 0
    ∷ attach_output 0 0
    ∷ new_thread 0 0
    ∷ attach_input 1 0
    ∷ put 0 0 5 500
    ∷ set_time 0 never
    ∷ set_time 1 never
    ∷ get 1 1 Earliest
    ∷ []

-- items 5 and 6 UNSEEN on input connection 0, mark 0
abbrev pub unseen_five_and_six : List Call
unseen_five_and_six = new_channel 0 ∷ attach_input 0 0 ∷ attach_output 0 0 ∷ put 0 1 5 500 ∷ put 0 1 6 600 ∷ []

-- thread 0 at 6; 5 consumed by name and 6 UNSEEN
abbrev pub consumed_five : List Call
consumed_five = unseen_five_and_six ++ get 0 0 (Named 5) ∷ consume 0 0 5 ∷ set_time 0 6 ∷ []

-- item 7 in channel 0, item 5 in channel 1, and thread 0 at 8
abbrev pub in_two_channels : List Call
in_two_channels =
    new_channel 0
    ∷ new_channel 0
    ∷ attach_output 0 0
    ∷ attach_output 0 1
    ∷ put 0 1 5 500
    ∷ put 0 0 7 700
    ∷ set_time 0 8
    ∷ []

-- input connections 0 and 1 of thread 0, output connection 2, and item 5 UNSEEN on both inputs
abbrev pub two_inputs : List Call
two_inputs = new_channel 0 ∷ attach_input 0 0 ∷ attach_input 0 0 ∷ attach_output 0 0 ∷ put 0 2 5 500 ∷ []

-- so often the same call
abbrev pub times : ℕ → Call → List Call
times zero call = []
times (suc n) call = call ∷ times n call

-- so many items present, at the timestamps below that number
abbrev pub put_all : ℕ → List Call
put_all zero = []
put_all (suc n) = put_all n ++ put 0 0 n n ∷ []

abbrev pub items_put : ℕ → List Call
items_put n = new_channel 0 ∷ attach_output 0 0 ∷ put_all n

abbrev pub cases : List Case
cases =
    -- P1: fresh desk: both bounds 0
    expect [] (ask ask_weak_bound) (answer 0 0 0)
    ∷ expect [] (ask ask_strong_bound) (answer 0 0 0)
    -- P2: visible time 5: put at 4 refused with 6
    ∷ expect at_five (ask (ask_visible_time 0)) (answer 0 0 5)
    ∷ expect at_five (make (put 0 0 4 400)) (answer 6 0 0)
    -- P3: put at 5, where 5 is present, refused with 7
    ∷ expect (at_five ++ put 0 0 5 500 ∷ []) (make (put 0 0 5 501)) (answer 7 0 0)
    -- P4: put at 6 accepted
    ∷ expect (at_five ++ put 0 0 5 500 ∷ []) (make (put 0 0 6 600)) (answer 0 0 0)
    -- P5: item 5 UNSEEN on the only input connection, mark 0, virtual time never: weak 0, strong 5
    ∷ expect unseen_five (ask (ask_state_of 0 5)) (answer 0 1 0)
    ∷ expect unseen_five (ask ask_weak_bound) (answer 0 0 0)
    ∷ expect unseen_five (ask ask_strong_bound) (answer 0 0 5)
    -- and an UNSEEN item does not count into visible time: the thread may not put without having got anything (at 6, for 5 would meet 7 as well)
    ∷ expect unseen_five (ask (ask_visible_time 0)) (answer 0 0 never)
    ∷ expect unseen_five (make (put 0 1 6 600)) (answer 6 0 0)
    -- P6: the same, OPEN: visible time 5, strong 5
    ∷ expect open_five (ask (ask_state_of 0 5)) (answer 0 2 0)
    ∷ expect open_five (ask (ask_visible_time 0)) (answer 0 0 5)
    ∷ expect open_five (ask ask_strong_bound) (answer 0 0 5)
    -- P7: strong sweep, one item to leave, slice of 0: code 12, value 1
    ∷ expect (at_five ++ put 0 0 5 500 ∷ set_time 0 6 ∷ []) (make (strong_sweep [])) (answer 12 1 0)
    -- P8: consume until 4,294,967,294: mark never. With the virtual time at never the weak bound is the mark.
    ∷ expect (unseen_five ++ consume_until 0 0 4294967294 ∷ []) (ask ask_weak_bound) (answer 0 0 never)
    -- P9: thread at 3, its only connection has consumed item 3: strong 3; nothing leaves
    ∷ expect consumed_three (ask (ask_state_of 0 3)) (answer 0 3 0)
    ∷ expect consumed_three (ask ask_strong_bound) (answer 0 0 3)
    ∷ expect consumed_three (make (strong_sweep [])) (answer 0 0 3)
    -- P10: from P9: new thread at 3, attach, get 3 accepted; new thread at 2 refused with 6
    ∷ expect swept_at_three (make (new_thread 0 3)) (answer 0 1 0)
    ∷ expect (swept_at_three ++ new_thread 0 3 ∷ attach_input 1 0 ∷ []) (make (get 1 1 (Named 3))) (answer 0 300 3)
    ∷ expect swept_at_three (make (new_thread 0 2)) (answer 6 0 0)
    -- "of all timestamps OPEN on its input connections": another thread's do not count; put, new thread and a new mark go by it, not by the virtual time
    ∷ expect open_for_other (ask (ask_visible_time 1)) (answer 0 0 5)
    ∷ expect open_for_other (ask (ask_visible_time 0)) (answer 0 0 never)
    ∷ expect open_five (make (put 0 1 6 600)) (answer 0 0 0)
    ∷ expect open_five (make (new_thread 0 5)) (answer 0 1 0)
    ∷ expect open_five (make (attach_input 0 0)) (answer 0 2 5)
    -- "A thread at never that holds 5 OPEN may set 5.", and not 4; once it is consumed the time that was set counts
    ∷ expect open_five (make (set_time 0 5)) (answer 0 0 0)
    ∷ expect open_five (make (set_time 0 4)) (answer 6 0 0)
    ∷ expect (open_five ++ set_time 0 7 ∷ consume 0 0 5 ∷ []) (ask (ask_visible_time 0)) (answer 0 0 7)
    -- "Which is earliest, latest or one named timestamp, among UNSEEN items only."
    ∷ expect unseen_five_and_six (make (get 0 0 Earliest)) (answer 0 500 5)
    ∷ expect unseen_five_and_six (make (get 0 0 Latest)) (answer 0 600 6)
    ∷ expect (unseen_five_and_six ++ get 0 0 Latest ∷ []) (make (get 0 0 Latest)) (answer 0 500 5)
    ∷ expect unseen_five_and_six (make (get 0 0 (Named 4))) (answer 10 0 0)
    ∷ expect open_five (make (get 0 0 (Named 5))) (answer 10 0 0)
    -- a get, a consume and a consume until act on their own connection alone
    ∷ expect (two_inputs ++ get 0 0 Earliest ∷ []) (make (get 0 1 (Named 5))) (answer 0 500 5)
    ∷ expect (two_inputs ++ get 0 0 Earliest ∷ consume 0 0 5 ∷ []) (ask (ask_state_of 1 5)) (answer 0 1 0)
    ∷ expect (two_inputs ++ consume_until 0 0 5 ∷ []) (ask (ask_state_of 1 5)) (answer 0 1 0)
    -- consume until 5 leaves 6 as it is
    ∷ expect (unseen_five_and_six ++ consume_until 0 0 5 ∷ []) (ask (ask_state_of 0 5)) (answer 0 3 0)
    ∷ expect (unseen_five_and_six ++ consume_until 0 0 5 ∷ []) (ask (ask_state_of 0 6)) (answer 0 1 0)
    -- the answers of the other accepted calls
    ∷ expect at_five (make (attach_output 0 0)) (answer 0 1 0)
    ∷ expect unseen_five (make (detach 0 0)) (answer 0 0 0)
    ∷ expect open_five (make (consume 0 0 5)) (answer 0 0 0)
    ∷ expect unseen_five (make (consume_until 0 0 5)) (answer 0 0 0)
    ∷ expect unseen_five (make (end 0)) (answer 0 0 0)
    -- each refusal, before those that come after it
    ∷ expect [] (make (put 1 0 never 0)) (answer 1 0 0)
    ∷ expect [] (make (attach_input 0 0)) (answer 2 0 0)
    ∷ expect (new_channel 0 ∷ times 32 (attach_output 0 0)) (make (attach_output 0 1)) (answer 2 0 0)
    ∷ expect open_for_other (make (detach 0 1)) (answer 3 0 0)
    ∷ expect open_for_other (make (put 1 0 never 0)) (answer 3 0 0)
    ∷ expect open_for_other (make (get 0 1 (Named never))) (answer 3 0 0)
    ∷ expect unseen_five (make (put 0 0 never 0)) (answer 4 0 0)
    ∷ expect unseen_five (make (consume 0 1 never)) (answer 4 0 0)
    ∷ expect unseen_five (make (consume_until 0 1 never)) (answer 4 0 0)
    ∷ expect unseen_five (make (put 0 1 never 0)) (answer 5 0 0)
    ∷ expect unseen_five (make (get 0 0 (Named never))) (answer 5 0 0)
    ∷ expect unseen_five (make (consume 0 0 never)) (answer 5 0 0)
    ∷ expect unseen_five (make (consume_until 0 0 never)) (answer 5 0 0)
    ∷ expect (at_five ++ put 0 0 5 500 ∷ set_time 0 6 ∷ []) (make (put 0 0 5 501)) (answer 6 0 0)
    ∷ expect (set_time 0 5 ∷ times 15 (new_thread 0 5)) (make (new_thread 0 4)) (answer 6 0 0)
    ∷ expect (items_put 64) (make (put 0 0 63 0)) (answer 7 0 0)
    ∷ expect unseen_five (make (consume 0 0 5)) (answer 11 0 0)
    -- a state is asked of a connection: "3 where there is no such connection, 4, 5"
    ∷ expect unseen_five (ask (ask_state_of 0 6)) (answer 0 0 0)
    ∷ expect unseen_five (ask (ask_state_of 2 never)) (answer 3 0 0)
    ∷ expect unseen_five (ask (ask_state_of 1 never)) (answer 4 0 0)
    ∷ expect unseen_five (ask (ask_state_of 0 never)) (answer 5 0 0)
    -- 7 asks for the timestamp in its own channel
    ∷ expect in_two_channels (make (put 0 0 5 501)) (answer 6 0 0)
    ∷ expect (in_two_channels ++ put 0 0 9 900 ∷ []) (make (put 0 1 9 901)) (answer 0 0 0)
    -- "Threads 16 (0..15), channels 8 (0..7), connections 32 (0..31), both directions together; items 64"
    ∷ expect (times 14 (new_thread 0 0)) (make (new_thread 0 0)) (answer 0 15 0)
    ∷ expect (times 15 (new_thread 0 0)) (make (new_thread 0 0)) (answer 9 0 0)
    ∷ expect (times 7 (new_channel 0)) (make (new_channel 0)) (answer 0 7 0)
    ∷ expect (times 8 (new_channel 0)) (make (new_channel 0)) (answer 9 0 0)
    ∷ expect (new_channel 0 ∷ times 31 (attach_input 0 0)) (make (attach_output 0 0)) (answer 0 31 0)
    ∷ expect (new_channel 0 ∷ times 32 (attach_input 0 0)) (make (attach_output 0 0)) (answer 9 0 0)
    ∷ expect (items_put 64) (make (put 0 0 64 0)) (answer 8 0 0)
    ∷ expect (items_put 64) (ask ask_items_present) (answer 0 64 0)
    -- "Places freed by an end .. are used again": a thread's number; an end frees no other thread's connections
    ∷ expect (new_thread 0 3 ∷ end 1 ∷ []) (ask (ask_visible_time 1)) (answer 1 0 0)
    ∷ expect (new_thread 0 3 ∷ end 1 ∷ []) (make (new_thread 0 4)) (answer 0 1 0)
    ∷ expect (new_thread 0 3 ∷ end 1 ∷ new_thread 0 4 ∷ []) (ask (ask_visible_time 1)) (answer 0 0 4)
    ∷ expect (open_for_other ++ end 0 ∷ []) (ask (ask_state_of 1 5)) (answer 0 2 0)
    -- a weak sweep goes by the marks: none leaves where 5 was consumed by name, one where all was consumed until 5
    ∷ expect_slice consumed_five (make (weak_sweep (0 ∷ 9 ∷ []))) (answer 0 0 0) (0 ∷ 9 ∷ [])
    ∷ expect_slice (unseen_five_and_six ++ consume_until 0 0 5 ∷ set_time 0 6 ∷ []) (make (weak_sweep (0 ∷ 9 ∷ []))) (answer 0 1 6) (500 ∷ 9 ∷ [])
    -- a strong sweep goes by what is UNSEEN or OPEN; "a consumed timestamp" does not "turn ABSENT", and 6, at the bound, stays UNSEEN
    ∷ expect_slice consumed_five (make (strong_sweep (0 ∷ 9 ∷ []))) (answer 0 1 6) (500 ∷ 9 ∷ [])
    ∷ expect (consumed_five ++ strong_sweep (0 ∷ []) ∷ []) (ask (ask_state_of 0 5)) (answer 0 3 0)
    ∷ expect (consumed_five ++ strong_sweep (0 ∷ []) ∷ []) (ask (ask_state_of 0 6)) (answer 0 1 0)
    -- a mark is raised on every input connection, where an item left its channel or not
    ∷ expect (new_channel 0 ∷ new_channel 0 ∷ attach_input 0 0 ∷ attach_output 0 1 ∷ put 0 1 5 500 ∷ set_time 0 8 ∷ strong_sweep (0 ∷ []) ∷ []) (ask ask_weak_bound) (answer 0 0 8)
    -- "Keeping the old open fact when a place is used for another item": the place of 5 is used for 7, which is UNSEEN, whether 5 was consumed by name
    -- or left OPEN below a raised mark
    ∷ expect (consumed_five ++ strong_sweep (0 ∷ []) ∷ put 0 1 7 700 ∷ []) (ask (ask_state_of 0 7)) (answer 0 1 0)
    ∷ expect (unseen_five_and_six ++ get 0 0 (Named 5) ∷ consume_until 0 0 5 ∷ set_time 0 6 ∷ strong_sweep (0 ∷ []) ∷ put 0 1 7 700 ∷ []) (ask (ask_state_of 0 7)) (answer 0 1 0)
    -- "by channel number, then timestamp; the rest of the slice is untouched"
    ∷ expect_slice in_two_channels (make (strong_sweep (0 ∷ 0 ∷ 9 ∷ []))) (answer 0 2 8) (700 ∷ 500 ∷ 9 ∷ [])
    ∷ expect_slice (new_channel 0 ∷ attach_output 0 0 ∷ put 0 0 7 700 ∷ put 0 0 5 500 ∷ set_time 0 8 ∷ []) (make (strong_sweep (0 ∷ 0 ∷ []))) (answer 0 2 8) (500 ∷ 700 ∷ [])
    ∷ expect_slice in_two_channels (make (strong_sweep (4 ∷ []))) (answer 12 2 0) (4 ∷ [])
    -- with no living thread a sweep is accepted, its bound is never, and everything leaves
    ∷ expect_slice (in_two_channels ++ end 0 ∷ []) (make (weak_sweep (0 ∷ 0 ∷ []))) (answer 0 2 never) (700 ∷ 500 ∷ [])
    ∷ []

abbrev pub answer_of : Desk → Request → Answer
answer_of d (make call) = (step d call).answer
answer_of d (ask question) = reply d question

abbrev pub slice_of_last : Desk → Request → List ℕ
slice_of_last d (make call) = slice_after d call
slice_of_last d (ask question) = []

abbrev pub same : Answer → Answer → Bool
same a b = eqb a.code b.code && (eqb a.value b.value && eqb a.time b.time)

abbrev pub same_slice : List ℕ → List ℕ → Bool
same_slice [] [] = true
same_slice [] (b ∷ others) = false
same_slice (a ∷ more) [] = false
same_slice (a ∷ more) (b ∷ others) = eqb a b && same_slice more others

abbrev pub holds_on : Desk → Case → Bool
holds_on d one = same (answer_of d one.last) one.expected && same_slice (slice_of_last d one.last) one.slice

unfoldable pub all_hold : List Case → Bool
all_hold [] = true
all_hold (one ∷ others) = holds_on (after fresh one.calls) one && all_hold others

-- the claim
abbrev pub CasesHold : Type 0
CasesHold = all_hold cases ≡ true
