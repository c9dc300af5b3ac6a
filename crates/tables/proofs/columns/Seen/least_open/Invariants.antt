use mathlib.Core.List.{List}
use mathlib.Core.Path.{◌≡◌}
use Prim.Native.Nat.{ℕ, min}
use Rattle.words.specs.Places.{each}
use Rattle.words.specs.Words.{has}
use Rattle.tables.specs.Columns.{connection_in, connection_places}
use Rattle.tables.specs.Times.{least_open, open_time}
use Rattle.tables.proofs.Least.{lowered}
use Rattle.tables.proofs.columns.Seen.least_open.Given as goal

abbrev pub invariant-loop-connection : goal.invariant-loop-connection
invariant-loop-connection l =
    let walk = l.connection-iterator in
    let seen = l.self in
    (consumed : List ℕ)
    → (walk.end ≡ connection_places)
    × (each connection_places (has walk.rest)
    (lowered (λ i. open_time seen.timestamps.now (connection_in seen.leads.now seen.held.now seen.marks.now seen.opened.now consumed i))) l.least
    ≡ min l.time (least_open l.readers (connection_in seen.leads.now seen.held.now seen.marks.now seen.opened.now consumed) seen.timestamps.now))
