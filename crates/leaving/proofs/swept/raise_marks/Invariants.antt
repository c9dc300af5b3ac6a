use Prim.Native.Nat.{max}
use Rattle.tables.specs.Columns.{connection_places}
use Rattle.leaving.specs.Leaving.{raised}
use Rattle.leaving.proofs.Loops.{Leads}
use Rattle.leaving.proofs.swept.raise_marks.Given as goal

abbrev pub invariant-loop-connection : goal.invariant-loop-connection
invariant-loop-connection l =
    Leads connection_places (λ mark. max mark l.bound) l.connection-iterator l.marks (raised l.inputs l.bound l.initial.marks)
