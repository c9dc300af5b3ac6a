-- The part was told but for what is left of it (`Tells`), and a piece more keeps this where all its answers were taken; with the room for an answer no
-- piece is empty, so what is left of the part gets shorter. Assumes nothing.
use Rattle.std.proofs.Common.{◌≡◌, length}
use Rattle.talk.proofs.Telling.{Tells}
use Rattle.talk.proofs.Talk.tell.Given as goal

abbrev pub invariant-loop-rest : goal.invariant-loop-rest
invariant-loop-rest g l =
    Tells l.fn.self.heard l.part l.self.heard l.rest (g.W.Write.contents l.fn.self.ends.to) (g.W.Write.contents l.self.ends.to)
    × (l.self.ends.from ≡ l.fn.self.ends.from)

abbrev pub decreases-loop-rest : goal.decreases-loop-rest
decreases-loop-rest g l = length l.rest
