-- A read that is made again has brought nothing.
use Rattle.std.proofs.Common.{◌≡◌, length}
use Rattle.std.specs.Io.KnownBytes.{Keeps}
use Rattle.talk.proofs.waiting.Ends.read_part.Given as goal

abbrev pub invariant-loop : goal.invariant-loop
invariant-loop g l =
    (length l.input ≡ length l.fn.input)
    × (l.self.to ≡ l.fn.self.to)
    × Keeps (g.R.Read.remaining l.fn.self.from) (g.R.Read.remaining l.self.from)
