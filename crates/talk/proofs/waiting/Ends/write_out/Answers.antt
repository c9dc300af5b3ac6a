-- By what the write has answered: no bytes, some, or an error.
use Rattle.std.proofs.Common.{length}
use mathlib.Core.Path.{ap}
use native.Mathlib.Omega.{arith}
use lib.ListN.{length-drop}
use Rattle.std.proofs.KnownBytes.{Appends-kept}
use Rattle.talk.proofs.Writing.{left_all, wrote_more, wrote_nothing}
use Rattle.talk.proofs.waiting.Ends.write_out.Goals.{in-Ok-eq0, in-Ok, in-Err+else-not-again}
use Rattle.talk.proofs.waiting.Ends.write_out.Goals as goal

pub loop-preserved : goal.loop-preserved
loop-preserved g c =
    let so_far = c.loop.invariant.2 in
    let length_left = ap length (left_all c.args.bytes.now c.loop.taken) in
    elim c.match-write.branch [
      | in-Ok-eq0 w ↦ rw w.taken-is (
        c.loop.invariant.0,
        c.loop.invariant.1,
        wrote_nothing _ _ _ _ _ _ w.in-Ok-eq0.field-0-test so_far w.in-Ok-eq0.ensures.bytes,
      )
      | in-Ok w ↦ rw w.taken-is (
        omega (arith, w.in-Ok.ensures.bound, length_left, length-drop c.loop.taken c.args.bytes.now, c.loop.invariant.0),
        c.loop.invariant.1,
        wrote_more _ _ _ _ _ _ so_far w.in-Ok.ensures.bytes,
      )
      | in-Err+else-not-again w ↦ rw w.taken-is (c.loop.invariant.0, c.loop.invariant.1, Appends-kept _ _ _ _ so_far w.in-Err.ensures.bytes)
    ]
