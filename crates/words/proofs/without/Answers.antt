-- The machine's `&` with all but the place's own power of two takes that place alone; a place past the last changes no word. Assumes nothing.
use Rattle.std.proofs.Common.{arith}
use Rattle.words.proofs.Laws.{without-past}
use Rattle.words.proofs.Machine.{without_is}
use Rattle.words.proofs.without.Goals as goal

pub returns-then-place-ge-PLACES : goal.returns-then-place-ge-PLACES
returns-then-place-ge-PLACES c = without-past c.args.word c.args.place c.ranges.word.fits (omega arith)

pub returns : goal.returns
returns c = without_is c.args.word c.args.place c.ranges.word.fits (omega arith)
