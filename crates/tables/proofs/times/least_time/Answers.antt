-- None of the times is above never, from which the search starts. Assumes nothing.
use native.Mathlib.Omega.{arith}
use Rattle.words.specs.Words.{has}
use Rattle.tables.specs.Columns.{at, thread_places}
use Rattle.tables.specs.Times.{least_among, least_time}
use Rattle.tables.proofs.Least.{smallest_top}
use Rattle.tables.proofs.times.least_time.Goals as goal

pub returns : goal.returns
unfolding least_among least_time
returns c = omega (arith, c.least_among.ensures, smallest_top thread_places (has c.args.living) (at thread_places c.args.times.now))
