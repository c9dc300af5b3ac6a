-- The machine's `&` has a place where both words have it, and a word is known by its places. Assumes nothing.
use Rattle.words.proofs.Machine.{both_is}
use Rattle.words.proofs.both.Goals as goal

pub returns : goal.returns
returns c = both_is c.args.a c.args.b c.ranges.a.fits c.ranges.b.fits
