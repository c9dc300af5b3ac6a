-- What both attaches share, with 0 for the mark: with that mark it is the row of attach output. Assumes nothing.
use Rattle.desk.specs.Calls.{step, checks, effect, told}
use Rattle.desk.proofs.Desk.attach_output.Goals as goal

pub returns : goal.returns
unfolding step checks effect told
returns c = rw c.from-answer.ensures c.try_attach.ensures
