-- The smaller of the thread's virtual time and the smallest timestamp OPEN on its inputs, by the search through these, whatever was consumed by name.
-- Assumes nothing.
use Rattle.desk.specs.Times.{visible_time}
use Rattle.desk.proofs.Desk.visible.Goals as goal

pub returns : goal.returns
unfolding visible_time
returns c =
    let seen = c.seen.ensures in
    rw (
      c.at-time.ensures,
      c.both-readers.ensures,
      c.at.ensures,
      seen.leads,
      seen.held,
      seen.marks,
      seen.opened,
      seen.timestamps,
    ) at (c.least_open.ensures c.args.self.now.consumed)
