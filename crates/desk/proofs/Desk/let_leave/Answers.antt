-- Each word and each column, by the contracts of what changes them. Assumes nothing.
use Rattle.desk.specs.Calls.{left}
use Rattle.desk.proofs.Desk.let_leave.Goals as goal

pub returns : goal.returns
unfolding left
returns c =
    rw (c.lessen.ensures, c.lessen-2.ensures, c.except-self.ensures, c.lessen-3.ensures, c.clear.ensures, c.clear-2.ensures)
