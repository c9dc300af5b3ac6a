-- Check by check the code's are 01's; 1 says that the thread is one of the table's. Assumes nothing.
use mathlib.Core.Path.{refl}
use Rattle.desk.specs.Calls.{checks, effect, step, told}
use Rattle.desk.proofs.Outcome.{done, on, out}
use Rattle.desk.proofs.Owned.{used_inside}
use Rattle.desk.proofs.Desk.try_set.Goals as goal

pub returns-in_err-thread_lives : goal.returns-in_err-thread_lives
unfolding step checks
returns-in_err-thread_lives c = out _ _ _ _ _ _ _ c.from_residual.ensures.1 c.in_err-thread_lives.ensures

pub returns-in_err-time_visible : goal.returns-in_err-time_visible
unfolding step checks
returns-in_err-time_visible c =
    on _ _ _ _ _ c.in_ok-thread_lives.ensures
    (out _ _ _ _ _ _ _ c.from_residual-in_err-time_visible.ensures.1 c.in_err-time_visible.ensures)

pub bounds-times-thread : goal.bounds-times-thread
bounds-times-thread c = used_inside c.args.self.now.living c.in_ok-thread_lives.ensures

pub returns : goal.returns
unfolding step checks told effect
returns c = on _ _ _ _ _ c.in_ok-thread_lives.ensures (on _ _ _ _ _ c.in_ok-time_visible.ensures (done _ _ _ refl refl))
