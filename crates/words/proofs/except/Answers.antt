-- The machine's `& !` has a place where the one word has it and the other has not, and a word is known by its places. Assumes nothing.
use Rattle.words.proofs.Machine.{except_is}
use Rattle.words.proofs.except.Goals as goal

pub returns : goal.returns
returns c = except_is c.args.a c.args.b c.ranges.a.fits c.ranges.b.fits
