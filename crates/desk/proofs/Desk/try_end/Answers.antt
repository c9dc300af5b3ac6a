-- 1 is the one check, and says that the thread is one of the table's; the stores are what an end leaves. Assumes nothing.
use mathlib.Core.Path.{refl}
use Rattle.desk.specs.Calls.{checks, effect, step, told}
use Rattle.desk.proofs.Outcome.{done, on, out}
use Rattle.desk.proofs.Owned.{used_inside}
use Rattle.desk.proofs.Stores.{ended_is}
use Rattle.desk.proofs.Desk.try_end.Goals as goal

pub returns-in_err-thread_lives : goal.returns-in_err-thread_lives
unfolding step checks
returns-in_err-thread_lives c =
    out _ _ _ _ _ _ _ c.from_residual.ensures.1 c.in_err-thread_lives.ensures

pub bounds-self-thread : goal.bounds-self-thread
bounds-self-thread c = used_inside c.args.self.now.living c.in_ok-thread_lives.ensures

pub bounds-self-thread-2 : goal.bounds-self-thread-2
bounds-self-thread-2 c = used_inside c.args.self.now.living c.in_ok-thread_lives.ensures

pub returns : goal.returns
unfolding step checks told effect
returns c =
    on _ _ _ _ _ c.in_ok-thread_lives.ensures
    (done _ _ _ refl (ended_is c.args.self.now c.args.thread c.at-gone.ensures c.free_connections.ensures c.without-self.ensures))
