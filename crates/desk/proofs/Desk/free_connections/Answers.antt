-- Each word and each column, by the contracts of what changes them. Assumes nothing.
use Rattle.desk.specs.Calls.{unattached}
use Rattle.desk.proofs.Desk.free_connections.Goals as goal

pub returns : goal.returns
unfolding unattached
returns c =
    rw (c.except-self.ensures, c.clear.ensures, c.except-self-2.ensures, c.clear-2.ensures, c.clear-3.ensures, c.clear-4.ensures)
