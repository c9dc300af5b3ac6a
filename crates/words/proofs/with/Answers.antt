-- The machine's `|` with the place's own power of two adds that place alone; a place past the last changes no word. Assumes nothing.
use Rattle.std.proofs.Common.{arith}
use Rattle.words.proofs.Laws.{with-past}
use Rattle.words.proofs.Machine.{with_is}
use Rattle.words.proofs.with.Goals as goal

pub returns-then-place-ge-PLACES : goal.returns-then-place-ge-PLACES
returns-then-place-ge-PLACES c = with-past c.args.word c.args.place c.ranges.word.fits (omega arith)

pub returns : goal.returns
returns c = with_is c.args.word c.args.place c.ranges.word.fits (omega arith)
