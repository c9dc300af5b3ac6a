-- The walk over the input connections writes the larger of each mark and the bound. Assumes nothing.
use native.Mathlib.Omega.{arith}
use Rattle.tables.specs.Columns.{connection_places}
use Rattle.leaving.proofs.Loops.{leads_end, leads_on}
use Rattle.leaving.proofs.swept.raise_marks.Goals as goal

pub loop-connection-preserved : goal.loop-connection-preserved
loop-connection-preserved c =
    let here = c.loop-connection in
    leads_on connection_places _ here.connection-iterator c.next.new.self (omega arith) here.invariant c.in-Some.ensures.steps c.max.ensures

pub returns : goal.returns
returns c =
    let here = c.loop-connection in
    leads_end connection_places _ here.connection-iterator c.next.new.self (omega arith) here.invariant c.in-None.ensures.steps
