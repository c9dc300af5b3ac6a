-- A line's turn, from what the functions promise that read it, make its call and write its answer. Assumes nothing.
use Prim.Native.Nat.{ℕ, ◌+◌, ◌≤◌, zero-le}
use mathlib.Core.Path.{◌≡◌, refl}
use mathlib.Core.Bool.{Bool, true, false, cond}
use mathlib.Core.List.{List, []}
use lib.Dec.{eqb}
use lib.ListN.{length, take}
use native.Mathlib.Omega.{arith}
use Rattle.words.specs.Words.{count, has}
use Rattle.words.proofs.Laws.{count_le}
use Rattle.rows.specs.declared.Told.{Told}
use Rattle.rows.specs.Answers.{answer, Check, passes, decided}
use Rattle.rows.proofs.Laws.{bool_cases}
use Rattle.rows.proofs.Checks.{coded, decided_zero, passed, pass_decided}
use Rattle.desk.specs.declared.Desk.{Desk}
use Rattle.desk.specs.declared.Next.{Next}
use Rattle.std.specs.Prelude.{Option, Some, None}
use Rattle.calls.specs.declared.Bound.{Bound}
use Rattle.calls.specs.declared.Deed.{Deed}
use Rattle.calls.specs.declared.Call as InCode
use Rattle.calls.specs.declared.Call.TheVariants.{By, Sweep}
use Rattle.calls.specs.Calls.{by, sweep}
use Rattle.desk.specs.Calls.{checks, told, outcome, step, slice_after}
use Rattle.lines.specs.Lines.{read_line}
use Rattle.text.specs.Text.{has_room, answer_room, most_tickets, written}
use Rattle.text.proofs.Room.{room}
use Rattle.session.specs.Turns.{Turn, slice, unreadable, turn_by, turn, printed}
use Rattle.session.specs.Tickets.{swept_count}

-- ---- no more tickets are printed than the slice has places

-- of an answer that tells no more where it is accepted; refused, there are none
accepted_few : (checks : List Check) (told : Told) → coded checks ≡ true → told.value ≤ most_tickets → swept_count (decided checks told) ≤ most_tickets
accepted_few checks told codes few =
    bool_cases (passes checks)
    (λ all. rw (pass_decided checks told (passed checks all)) few)
    (λ some. rw (decided_zero checks told codes, some) zero-le)

-- a word has 64 places
count_few : (w : ℕ) → count w ≤ most_tickets
unfolding count
count_few w = count_le (has w) most_tickets

-- a sweep's value is the number of items that leave
swept_few : (d : Desk) (bound : Bound) → swept_count (step d (sweep bound slice)).answer ≤ most_tickets
unfolding step outcome told checks
swept_few d bound = accepted_few (checks d (sweep bound slice)) (told d (sweep bound slice)) refl (count_few _)

-- ---- the turn of a line, from the contract of the function that its call is made by

-- the turn of an answer, so many tickets of the slice, and a desk
abbrev turned : Next → ℕ → List ℕ → Turn
turned next number slice = record { answer = next.answer; tickets = take number slice; desk = next.desk }

-- what a line leaves is its turn, and the slice has the places and the tickets that are printed
pub record Ran (d : Desk) (line : Option InCode.Call) (next : Next) (left : List ℕ) (number : ℕ) : Type 0 where
  pub turns : turn_by d line ≡ turned next number left
  pub few : number ≤ most_tickets
  pub long : length left ≡ most_tickets

-- a deed prints no ticket and leaves the slice
pub deed_ran : {d : Desk} {line : Option InCode.Call} {call : InCode.Call} {thread : ℕ} {made deed : Deed} {next : Next} {left : List ℕ} {number : ℕ}
    → line ≡ Some call
    → call ≡ By thread made
    → made ≡ deed
    → next ≡ step d (by thread deed)
    → left ≡ slice
    → number ≡ 0
    → Ran d line next left number
unfolding turn_by
deed_ran makes by_thread is steps left none = record {
  turns = rw (makes, by_thread, is, none, steps);
  few = rw none zero-le;
  long = rw left refl;
}

-- the tickets of an accepted sweep, and none of a refused one, are the first so many of the slice
taken : (accepted : Bool) (number : ℕ) (slice : List ℕ)
    → cond accepted (take number slice) [] ≡ take (cond accepted number 0) slice
taken true number slice = refl
taken false number slice = refl

-- a sweep hands its tickets back in the slice
pub sweep_ran : {d : Desk} {line : Option InCode.Call} {call : InCode.Call} {bound : Bound} {swept next : Next} {tickets left : List ℕ} {number : ℕ}
    → line ≡ Some call
    → call ≡ Sweep bound
    → (swept ≡ step d (sweep bound slice)) × (tickets ≡ slice_after d (sweep bound slice))
    → length tickets ≡ most_tickets
    → next ≡ swept
    → left ≡ tickets
    → number ≡ swept_count swept.answer
    → Ran d line next left number
unfolding turn_by
sweep_ran {d} {bound} makes sweeps steps long next left number = record {
  turns = rw (makes, sweeps, number, left, next, steps.1, steps.0, taken (eqb (step d (sweep bound slice)).answer.code 0));
  few = rw (number, steps.0) (swept_few d bound);
  long = rw left long;
}

-- a line that is not readable changes nothing
pub unreadable_ran : {d : Desk} {line : Option InCode.Call} {next : Next} {left : List ℕ} {number : ℕ}
    → line ≡ None
    → next ≡ record { answer = answer unreadable 0 0; desk = d }
    → left ≡ slice
    → number ≡ 0
    → Ran d line next left number
unfolding turn_by
unreadable_ran is stays left none = record { turns = rw (is, none, stays); few = rw none zero-le; long = rw left refl }

-- ---- a line that was read, run and answered

-- from what reading it, running its call and writing its answer promise, with the room for an answer:
-- the next desk, the place behind the answer and the bytes of out are those of its turn
pub turn-written : (d : Desk) (line : List ℕ) (said : Option InCode.Call) (next : Next) (left : List ℕ) (number : ℕ) (out : List ℕ) (at : ℕ) (after : List ℕ) (end : ℕ)
    → said ≡ read_line line
    → Ran d said next left number
    → at + answer_room ≤ length out
    → (end ≡ cond (has_room at (length out) number (length left)) (at + length (printed (turned next number left))) at)
    × (after ≡ cond (has_room at (length out) number (length left)) (written out at (printed (turned next number left))) out)
    → (next.desk ≡ (turn d line).desk) × (end ≡ at + length (printed (turn d line))) × (after ≡ written out at (printed (turn d line)))
turn-written d line said next left number out at after end read ran fits wrote =
    let there : number ≤ length left = omega (arith, ran.few, ran.long) in
    let told = rw (room at (length out) number (length left) fits ran.few there) at wrote in
    rw (← read, ran.turns) (refl, told.0, told.1)
