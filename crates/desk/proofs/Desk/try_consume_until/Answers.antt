-- Check by check the code's are 01's; 3 says that the connection is one of the table's. Assumes nothing.
use mathlib.Core.Path.{refl}
use Rattle.desk.specs.Calls.{checks, effect, step, told, raised_mark}
use Rattle.desk.proofs.Outcome.{done, on, out}
use Rattle.desk.proofs.Owned.{owned_below}
use Rattle.desk.proofs.Desk.try_consume_until.Goals as goal

pub returns-in_err-thread_lives : goal.returns-in_err-thread_lives
unfolding step checks
returns-in_err-thread_lives c =
    out _ _ _ _ _ _ _ c.from_residual.ensures.1 c.in_err-thread_lives.ensures

pub returns-in_err-owned_by : goal.returns-in_err-owned_by
unfolding step checks
returns-in_err-owned_by c =
    on _ _ _ _ _ c.in_ok-thread_lives.ensures
    (out _ _ _ _ _ _ _ c.from_residual-in_err-owned_by.ensures.1 (c.in_err-owned_by.ensures c.args.self.now refl))

pub returns-in_err-connection_reads : goal.returns-in_err-connection_reads
unfolding step checks
returns-in_err-connection_reads c =
    on _ _ _ _ _ c.in_ok-thread_lives.ensures (on _ _ _ _ _ (c.in_ok-owned_by.ensures c.args.self.now refl)
    (out _ _ _ _ _ _ _ c.from_residual-in_err-connection_reads.ensures.1 c.in_err-connection_reads.ensures))

pub returns-in_err-timestamp_given : goal.returns-in_err-timestamp_given
unfolding step checks
returns-in_err-timestamp_given c =
    on _ _ _ _ _ c.in_ok-thread_lives.ensures (on _ _ _ _ _ (c.in_ok-owned_by.ensures c.args.self.now refl) (on _ _ _ _ _ c.in_ok-connection_reads.ensures
    (out _ _ _ _ _ _ _ c.from_residual-in_err-timestamp_given.ensures.1 c.in_err-timestamp_given.ensures)))

pub bounds-marks-connection : goal.bounds-marks-connection
bounds-marks-connection c = owned_below c.args.self.now _ _ (c.in_ok-owned_by.ensures c.args.self.now refl)

pub returns : goal.returns
unfolding step checks told effect raised_mark
returns c =
    on _ _ _ _ _ c.in_ok-thread_lives.ensures (on _ _ _ _ _ (c.in_ok-owned_by.ensures c.args.self.now refl) (on _ _ _ _ _ c.in_ok-connection_reads.ensures (on _ _ _ _ _ c.in_ok-timestamp_given.ensures
    (done _ _ _ refl (rw (c.max.ensures, c.at-mark.ensures))))))
