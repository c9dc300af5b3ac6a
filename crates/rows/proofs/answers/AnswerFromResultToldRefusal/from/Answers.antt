-- An accepted call is answered with the code 0. Assumes nothing.
use Rattle.rows.specs.Codes.{with_code}
use Rattle.rows.proofs.answers.AnswerFromResultToldRefusal.from.Goals as goal

pub returns-in-Ok : goal.returns-in-Ok
unfolding with_code
returns-in-Ok c = rw c.in-Ok.is c.with_code.ensures
