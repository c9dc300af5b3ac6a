-- The word shifted down by the place has the place's digit as its last; a place past the last is in no number of 64 digits. Assumes nothing.
use Rattle.std.proofs.Common.{arith, sym}
use Rattle.words.proofs.Laws.{has-past}
use Rattle.words.proofs.Machine.{has_is}
use Rattle.words.proofs.has.Goals as goal

pub returns-then-place-ge-PLACES : goal.returns-then-place-ge-PLACES
returns-then-place-ge-PLACES c = sym (has-past c.args.word c.args.place c.ranges.word.fits (omega arith))

pub returns : goal.returns
returns c = has_is c.args.word c.args.place
