-- Check by check the code's are 01's. 8 leaves a full desk out, so that there is a free place; the stores are a new item. Assumes nothing.
use mathlib.Core.Path.{refl}
use borrow.Author.Tests.{ltb-true}
use Rattle.desk.specs.Calls.{checks, effect, step, told, stored}
use Rattle.desk.proofs.Outcome.{done, on, out}
use Rattle.desk.proofs.Owned.{fewer_free}
use Rattle.desk.proofs.Desk.try_put.Goals as goal

pub returns-in_err-thread_lives : goal.returns-in_err-thread_lives
unfolding step checks
returns-in_err-thread_lives c =
    out _ _ _ _ _ _ _ c.from_residual.ensures.1 c.in_err-thread_lives.ensures

pub returns-in_err-connection_owned : goal.returns-in_err-connection_owned
unfolding step checks
returns-in_err-connection_owned c =
    on _ _ _ _ _ c.in_ok-thread_lives.ensures
    (out _ _ _ _ _ _ _ c.from_residual-in_err-connection_owned.ensures.1 c.in_err-connection_owned.ensures)

pub returns-in_err-connection_writes : goal.returns-in_err-connection_writes
unfolding step checks
returns-in_err-connection_writes c =
    on _ _ _ _ _ c.in_ok-thread_lives.ensures (on _ _ _ _ _ c.in_ok-connection_owned.ensures
    (out _ _ _ _ _ _ _ c.from_residual-in_err-connection_writes.ensures.1 c.in_err-connection_writes.ensures))

pub returns-in_err-timestamp_given : goal.returns-in_err-timestamp_given
unfolding step checks
returns-in_err-timestamp_given c =
    on _ _ _ _ _ c.in_ok-thread_lives.ensures (on _ _ _ _ _ c.in_ok-connection_owned.ensures (on _ _ _ _ _ c.in_ok-connection_writes.ensures
    (out _ _ _ _ _ _ _ c.from_residual-in_err-timestamp_given.ensures.1 c.in_err-timestamp_given.ensures)))

pub returns-in_err-time_visible : goal.returns-in_err-time_visible
unfolding step checks
returns-in_err-time_visible c =
    on _ _ _ _ _ c.in_ok-thread_lives.ensures (on _ _ _ _ _ c.in_ok-connection_owned.ensures (on _ _ _ _ _ c.in_ok-connection_writes.ensures (on _ _ _ _ _ c.in_ok-timestamp_given.ensures
    (out _ _ _ _ _ _ _ c.from_residual-in_err-time_visible.ensures.1 c.in_err-time_visible.ensures))))

pub returns-in_err-timestamp_absent : goal.returns-in_err-timestamp_absent
unfolding step checks
returns-in_err-timestamp_absent c =
    on _ _ _ _ _ c.in_ok-thread_lives.ensures (on _ _ _ _ _ c.in_ok-connection_owned.ensures (on _ _ _ _ _ c.in_ok-connection_writes.ensures (on _ _ _ _ _ c.in_ok-timestamp_given.ensures (on _ _ _ _ _ c.in_ok-time_visible.ensures
    (out _ _ _ _ _ _ _ c.from_residual-in_err-timestamp_absent.ensures.1 c.in_err-timestamp_absent.ensures)))))

pub returns-in_err-item_fits : goal.returns-in_err-item_fits
unfolding step checks
returns-in_err-item_fits c =
    on _ _ _ _ _ c.in_ok-thread_lives.ensures (on _ _ _ _ _ c.in_ok-connection_owned.ensures (on _ _ _ _ _ c.in_ok-connection_writes.ensures (on _ _ _ _ _ c.in_ok-timestamp_given.ensures (on _ _ _ _ _ c.in_ok-time_visible.ensures (on _ _ _ _ _ c.in_ok-timestamp_absent.ensures
    (out _ _ _ _ _ _ _ c.from_residual-in_err-item_fits.ensures.1 c.in_err-item_fits.ensures))))))

pub bounds-self-place : goal.bounds-self-place
bounds-self-place c = rw c.lowest_free-place.ensures (fewer_free c.args.self.now.present (ltb-true _ _ c.in_ok-item_fits.ensures))

pub bounds-self-place-2 : goal.bounds-self-place-2
bounds-self-place-2 c = rw c.lowest_free-place.ensures (fewer_free c.args.self.now.present (ltb-true _ _ c.in_ok-item_fits.ensures))

pub returns : goal.returns
unfolding step checks told effect stored
returns c =
    on _ _ _ _ _ c.in_ok-thread_lives.ensures (on _ _ _ _ _ c.in_ok-connection_owned.ensures (on _ _ _ _ _ c.in_ok-connection_writes.ensures (on _ _ _ _ _ c.in_ok-timestamp_given.ensures (on _ _ _ _ _ c.in_ok-time_visible.ensures (on _ _ _ _ _ c.in_ok-timestamp_absent.ensures (on _ _ _ _ _ c.in_ok-item_fits.ensures
    (done _ _ _ refl (rw (c.hold.ensures, c.with-self.ensures, c.lowest_free-place.ensures, c.at-channel.ensures)))))))))
