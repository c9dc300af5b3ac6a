-- Check by check the code's are 01's, which attach input has as attach output has them; the stores are a connection attached. Assumes nothing.
use mathlib.Core.Bool.{Bool, cond, false, not, true}
use mathlib.Core.Path.{◌≡◌, ap, sym, ◌∙◌}
use Rattle.std.specs.Option.{is_some, unwrap_or}
use Rattle.words.specs.Words.{with}
use Rattle.desk.specs.Calls.{checks}
use Rattle.desk.proofs.Outcome.{done, on, out}
use Rattle.desk.proofs.Owned.{used_inside}
use Rattle.desk.proofs.Stores.{attached_is}
use Rattle.desk.proofs.Desk.try_attach.Goals as goal

pub returns-in_err-thread_lives : goal.returns-in_err-thread_lives
unfolding checks
returns-in_err-thread_lives c =
    out _ _ _ _ _ _ _ c.from_residual.ensures.1 c.in_err-thread_lives.ensures

pub returns-in_err-channel_exists : goal.returns-in_err-channel_exists
unfolding checks
returns-in_err-channel_exists c =
    on _ _ _ _ _ c.in_ok-thread_lives.ensures
    (out _ _ _ _ _ _ _ c.from_residual-in_err-channel_exists.ensures.1 c.in_err-channel_exists.ensures)

pub returns-in_err-place_free : goal.returns-in_err-place_free
unfolding checks
returns-in_err-place_free c =
    on _ _ _ _ _ c.in_ok-thread_lives.ensures (on _ _ _ _ _ c.in_ok-channel_exists.ensures
    (out _ _ _ _ _ _ _ c.from_residual-in_err-place_free.ensures.1 (rw (c.lowest_free-place.ensures, c.either.ensures) at c.in_err-place_free.ensures)))

pub bounds-self-thread : goal.bounds-self-thread
bounds-self-thread c = used_inside c.args.self.now.living c.in_ok-thread_lives.ensures

none_is : (some none : Bool) → some ≡ not none → none ≡ not some
none_is some true other = sym (ap not other)
none_is some false other = sym (ap not other)

pub returns : goal.returns
unfolding checks
returns c =
    let free = rw c.either.ensures at c.lowest_free-place.ensures in
    on _ _ _ _ _ c.in_ok-thread_lives.ensures (on _ _ _ _ _ c.in_ok-channel_exists.ensures (on _ _ _ _ _ (rw (c.lowest_free-place.ensures, c.either.ensures) at c.in_ok-place_free.ensures)
    (done _ _ _ (rw (free, c.unwrap_or-time.ensures)) (attached_is c.args.self.now (is_some c.args.mark) c.args.thread c.args.channel (unwrap_or c.args.mark 0) c.at-own.ensures free c.with.ensures
    c.unwrap_or-time.ensures
    (c.with_if-self.ensures ∙ ap (λ (b : Bool). cond b (with c.args.self.now.inputs c.lowest_free-place.result) c.args.self.now.inputs) c.is_some.ensures)
    (c.with_if-self-2.ensures ∙ ap (λ (b : Bool). cond b (with c.args.self.now.outputs c.lowest_free-place.result) c.args.self.now.outputs) (none_is _ _ c.is_none.ensures))))))
