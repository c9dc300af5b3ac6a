-- What each bound is taken over, by the contracts of its parts. Assumes nothing.
use mathlib.Core.Path.{ap, ◌∙◌}
use Prim.Native.Nat.{ℕ, min}
use Rattle.tables.specs.Times.{least_for}
use Rattle.desk.specs.Desk.{connection_at}
use Rattle.desk.proofs.Stores.{bound_is}
use Rattle.desk.proofs.Desk.bound.Goals as goal

pub returns : goal.returns
returns c =
    let d = c.args.self.now in
    let seen = c.seen.ensures in
    let made = rw (seen.leads, seen.held, seen.marks, seen.opened, seen.consumed, seen.timestamps) at c.least_for.ensures in
    made
    ∙ ap (λ (time : ℕ). min time (least_for c.args.which d.inputs (connection_at d) d.timestamps)) c.least_time-time.ensures
    ∙ bound_is d c.args.which
