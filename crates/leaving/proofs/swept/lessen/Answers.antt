-- The loop writes every word without the places that leave. Assumes nothing.
use native.Mathlib.Omega.{arith}
use Rattle.leaving.proofs.Loops.{reached-end, reached_none, reached_on}
use Rattle.leaving.proofs.swept.lessen.Goals as goal

pub loop-word-init : goal.loop-word-init
loop-word-init g c = reached_none g.row.N _ _

pub loop-word-preserved : goal.loop-word-preserved
loop-word-preserved g c = reached_on g.row.N _ (omega arith) c.loop-word.invariant c.except.ensures

pub returns : goal.returns
returns g c = reached-end g.row.N _ (omega arith) c.loop-word.invariant
