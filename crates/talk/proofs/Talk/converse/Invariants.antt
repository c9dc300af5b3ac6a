-- What was read was answered (`HeardAll`), and what a read brings keeps this; while the session goes on, fewer bytes are left to be counted.
-- Assumes nothing.
use Rattle.std.proofs.Common.{◌≡◌, List, ℕ, length}
use Rattle.std.specs.Io.KnownBytes.{Appends, Consumes}
use Rattle.session.specs.Stream.{printed_for, start}
use Rattle.talk.specs.Talk.{goes_on}
use Rattle.talk.proofs.Telling.{HeardAll, left_to_count}
use Rattle.talk.proofs.Talk.converse.Given as goal

abbrev pub invariant-loop-goes_on : goal.invariant-loop-goes_on
invariant-loop-goes_on g l =
    (length l.input ≡ length l.fn.input)
    × ((all : List ℕ)
    × HeardAll l.self.heard all
    × Consumes (g.R.Read.remaining l.fn.self.ends.from) (g.R.Read.remaining l.self.ends.from) all
    × Appends (g.W.Write.contents l.fn.self.ends.to) (g.W.Write.contents l.self.ends.to) (printed_for start all))

abbrev pub decreases-loop-goes_on : goal.decreases-loop-goes_on
decreases-loop-goes_on g l = left_to_count goes_on l.self.heard
