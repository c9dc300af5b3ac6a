-- No check refuses, and the value is the number of the places that hold an item. Assumes nothing.
use mathlib.Core.Path.{ap, ◌∙◌}
use Prim.Native.Nat.{ℕ}
use Rattle.rows.specs.Answers.{accepted, decided, tells}
use Rattle.desk.specs.Questions.{question_checks, question_told, reply}
use Rattle.desk.proofs.Desk.items_present.Goals as goal

pub returns : goal.returns
unfolding reply question_checks question_told decided
returns c = c.from.ensures ∙ ap (λ (number : ℕ). accepted (tells number 0)) c.count.ensures
