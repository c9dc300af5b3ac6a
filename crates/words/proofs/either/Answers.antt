-- The machine's `|` has a place where one of the words has it, and a word is known by its places. Assumes nothing.
use Rattle.words.proofs.Machine.{either_is}
use Rattle.words.proofs.either.Goals as goal

pub returns : goal.returns
returns c = either_is c.args.a c.args.b c.ranges.a.fits c.ranges.b.fits
