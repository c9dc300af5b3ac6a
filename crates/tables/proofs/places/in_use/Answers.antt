-- Each way out is one case of the first test. Assumes nothing.
use borrow.Author.Tests.{le-ltb, lt-ltb}
use Rattle.tables.specs.Columns.{in_use}
use Rattle.tables.proofs.places.in_use.Goals as goal

pub returns-then-place-places : goal.returns-then-place-places
unfolding in_use
returns-then-place-places c = rw (lt-ltb _ _ c.if-place-places.true) c.has.ensures

pub returns-else-place-places : goal.returns-else-place-places
unfolding in_use
returns-else-place-places c = rw (le-ltb _ _ c.if-place-places.false)
