-- Check by check the code's are 01's; the stores are the one connection freed. Assumes nothing.
use mathlib.Core.Path.{refl}
use Rattle.desk.specs.Calls.{checks, effect, step, told}
use Rattle.desk.proofs.Outcome.{done, on, out}
use Rattle.desk.proofs.Owned.{used_inside}
use Rattle.desk.proofs.Stores.{freed_is}
use Rattle.desk.proofs.Desk.try_detach.Goals as goal

pub returns-in_err-thread_lives : goal.returns-in_err-thread_lives
unfolding step checks
returns-in_err-thread_lives c =
    out _ _ _ _ _ _ _ c.from_residual.ensures.1 c.in_err-thread_lives.ensures

pub returns-in_err-connection_owned : goal.returns-in_err-connection_owned
unfolding step checks
returns-in_err-connection_owned c =
    on _ _ _ _ _ c.in_ok-thread_lives.ensures
    (out _ _ _ _ _ _ _ c.from_residual-in_err-connection_owned.ensures.1 c.in_err-connection_owned.ensures)

pub bounds-self-thread : goal.bounds-self-thread
bounds-self-thread c = used_inside c.args.self.now.living c.in_ok-thread_lives.ensures

pub returns : goal.returns
unfolding step checks told effect
returns c =
    on _ _ _ _ _ c.in_ok-thread_lives.ensures (on _ _ _ _ _ c.in_ok-connection_owned.ensures
    (done _ _ _ refl (freed_is c.args.self.now c.args.thread c.at-own.ensures c.with-gone.ensures c.except.ensures c.free_connections.ensures)))
