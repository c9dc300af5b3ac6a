-- No check refuses, and the time is the bound. Assumes nothing.
use mathlib.Core.Path.{ap, ◌∙◌}
use Prim.Native.Nat.{ℕ}
use Rattle.rows.specs.Answers.{accepted, decided, tells}
use Rattle.desk.specs.Questions.{question_checks, question_told, reply}
use Rattle.desk.proofs.Desk.weak_bound.Goals as goal

pub returns : goal.returns
unfolding reply question_checks question_told decided
returns c = c.from.ensures ∙ ap (λ (bound : ℕ). accepted (tells 0 bound)) c.bound.ensures
