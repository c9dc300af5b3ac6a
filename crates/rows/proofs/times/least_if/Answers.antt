-- Where the time counts, the smaller of the two is taken, and where it does not the least stays. Assumes nothing.
use Rattle.rows.specs.Times.{least_if}
use Rattle.rows.proofs.times.least_if.Goals as goal

pub returns-then-counts : goal.returns-then-counts
unfolding least_if
returns-then-counts c = rw c.if-counts.true c.min.ensures

pub returns : goal.returns
unfolding least_if
returns c = rw c.if-counts.false
