-- No more is taken than is left, so what was taken lies in the bytes, and the writer has it.
use Rattle.std.proofs.Common.{◌≡◌, ◌≤◌, length, take}
use Rattle.std.specs.Io.KnownBytes.{Appends}
use Rattle.talk.proofs.waiting.Ends.write_out.Given as goal

abbrev pub invariant-loop : goal.invariant-loop
invariant-loop g l =
    (l.taken ≤ length l.bytes)
    × (l.self.from ≡ l.fn.self.from)
    × Appends (g.W.Write.contents l.fn.self.to) (g.W.Write.contents l.self.to) (take l.taken l.bytes)
