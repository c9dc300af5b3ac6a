-- What both attaches share, with the visible time for the mark: with that mark it is the row of attach input. Assumes nothing.
use Rattle.desk.specs.Calls.{step, checks, effect, told}
use Rattle.desk.proofs.Desk.attach_input.Goals as goal

pub returns : goal.returns
unfolding step checks effect told
returns c =
    rw c.from-answer.ensures (rw c.visible-mark.ensures at c.try_attach.ensures)
