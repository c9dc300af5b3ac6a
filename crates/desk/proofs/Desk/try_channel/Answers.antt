-- Check by check the code's are 01's, and the one store is the effect. Assumes nothing.
use Rattle.desk.specs.Calls.{checks, effect, step, told}
use Rattle.desk.proofs.Outcome.{done, on, out}
use Rattle.desk.proofs.Desk.try_channel.Goals as goal

pub returns-in_err-thread_lives : goal.returns-in_err-thread_lives
unfolding step checks
returns-in_err-thread_lives c =
    out _ _ _ _ _ _ _ c.from_residual.ensures.1 c.in_err-thread_lives.ensures

pub returns-in_err-place_free : goal.returns-in_err-place_free
unfolding step checks
returns-in_err-place_free c =
    on _ _ _ _ _ c.in_ok-thread_lives.ensures
    (out _ _ _ _ _ _ _ c.from_residual-in_err-place_free.ensures.1 (rw c.lowest_free-place.ensures at c.in_err-place_free.ensures))

pub returns : goal.returns
unfolding step checks told effect
returns c =
    let free = c.lowest_free-place.ensures in
    on _ _ _ _ _ c.in_ok-thread_lives.ensures (on _ _ _ _ _ (rw c.lowest_free-place.ensures at c.in_ok-place_free.ensures)
    (done _ _ _ (rw free) (rw (c.with-self.ensures, free))))
