-- The inverted word has exactly the places that the word has not, so its trailing zeros are the used places below the lowest free one. Assumes nothing.
use Rattle.words.proofs.Machine.{free_is}
use Rattle.words.proofs.lowest_free.Goals as goal

pub returns : goal.returns
returns c = free_is c.args.word c.ranges.word.fits
