-- Check by check the code's are 01's, and the value is the state's number. Assumes nothing.
use mathlib.Core.Path.{◌≡◌, ap, ◌∙◌}
use Prim.Native.Nat.{ℕ}
use Rattle.std.proofs.Common.{Option}
use Rattle.calls.specs.declared.State.{State}
use Rattle.calls.specs.States.{state_number}
use Rattle.rows.specs.declared.Connection.{Connection}
use Rattle.rows.specs.Answers.{accepted, tells}
use Rattle.rows.specs.States.{place_or_none, state_of}
use Rattle.tables.specs.Seen.{place_if_any, place_of, state}
use Rattle.desk.specs.declared.Desk.{Desk}
use Rattle.desk.specs.Desk.{connection_at}
use Rattle.desk.specs.Questions.{question_checks, question_told, reply}
use Rattle.desk.proofs.Outcome.{done_asking, on_asking, out_asking}
use Rattle.desk.proofs.Stores.{any_place, row_is}
use Rattle.desk.proofs.Desk.try_state.Goals as goal

-- the state, from the row and the place that were read
state_is : (d : Desk) (connection timestamp : ℕ) {row : Connection} {place : Option ℕ} {found : State} {number : ℕ} → row ≡ connection_at d connection
    → place ≡ place_if_any (place_of d.timestamps row.items timestamp)
    → found ≡ state_of row timestamp (place_or_none place)
    → number ≡ state_number found
    → number ≡ state_number (state d.timestamps (connection_at d connection) timestamp)
unfolding state
state_is d connection timestamp reads is found tells =
    tells
    ∙ ap state_number
    (found
    ∙ rw (is, any_place d.timestamps _ timestamp, reads))

pub returns-in_err-connection_exists : goal.returns-in_err-connection_exists
unfolding reply question_checks
returns-in_err-connection_exists c = out_asking _ _ _ _ _ c.from_residual.ensures.1 c.in_err-connection_exists.ensures

pub returns-in_err-connection_reads : goal.returns-in_err-connection_reads
unfolding reply question_checks
returns-in_err-connection_reads c =
    on_asking _ _ _ c.in_ok-connection_exists.ensures
    (out_asking _ _ _ _ _ c.from_residual-in_err-connection_reads.ensures.1 c.in_err-connection_reads.ensures)

pub returns-in_err-timestamp_given : goal.returns-in_err-timestamp_given
unfolding reply question_checks
returns-in_err-timestamp_given c =
    on_asking _ _ _ c.in_ok-connection_exists.ensures (on_asking _ _ _ c.in_ok-connection_reads.ensures
    (out_asking _ _ _ _ _ c.from_residual-in_err-timestamp_given.ensures.1 c.in_err-timestamp_given.ensures))

pub returns : goal.returns
unfolding reply question_checks question_told
returns c =
    let d = c.args.self.now in
    let reads = row_is d c.args.connection c.seen.ensures c.connection-row.ensures in
    on_asking _ _ _ c.in_ok-connection_exists.ensures (on_asking _ _ _ c.in_ok-connection_reads.ensures
    (on_asking _ _ _ c.in_ok-timestamp_given.ensures
    (done_asking _
    (ap (λ (number : ℕ). accepted (tells number 0))
    (state_is d c.args.connection c.args.timestamp reads c.place_of-place.ensures c.state_of.ensures c.from.ensures)))))
