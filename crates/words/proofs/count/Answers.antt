-- The ones of a number, counted from the lowest digit up, are the places of the word, counted from the top down. Assumes nothing.
use Rattle.words.proofs.Machine.{count_is}
use Rattle.words.proofs.count.Goals as goal

pub returns : goal.returns
returns c = count_is c.args.word c.ranges.word.fits
