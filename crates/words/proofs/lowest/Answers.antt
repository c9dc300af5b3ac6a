-- The trailing zeros of a number are the places below the lowest one that is in it. Assumes nothing.
use Rattle.words.proofs.Machine.{lowest_is}
use Rattle.words.proofs.lowest.Goals as goal

pub returns : goal.returns
returns c = lowest_is c.args.word
