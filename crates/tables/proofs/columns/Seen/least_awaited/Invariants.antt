use mathlib.Core.Path.{◌≡◌}
use Prim.Native.Nat.{min, ◌≤◌}
use Rattle.words.specs.Places.{each}
use Rattle.words.specs.Words.{has}
use Rattle.rows.specs.Numbers.{never}
use Rattle.tables.specs.Columns.{connection_of, connection_places}
use Rattle.tables.specs.Times.{least_awaited, pending_time}
use Rattle.tables.proofs.Least.{lowered}
use Rattle.tables.proofs.columns.Seen.least_awaited.Given as goal

abbrev pub invariant-loop-connection : goal.invariant-loop-connection
invariant-loop-connection l =
    let walk = l.connection-iterator in
    let timestamps = l.self.timestamps.now in
    (walk.end ≡ connection_places)
    × (each connection_places (has walk.rest) (lowered (λ i. pending_time timestamps (connection_of l.self i))) l.least
    ≡ min l.time (least_awaited l.inputs (connection_of l.self) timestamps))
    × (l.least ≤ never)
