-- The search that virtual times and keep times share, from the time on. Assumes nothing.
use Rattle.tables.specs.Times.{least_among, least_keep}
use Rattle.tables.proofs.times.least_keep.Goals as goal

pub returns : goal.returns
unfolding least_among least_keep
returns c = c.least_among.ensures
