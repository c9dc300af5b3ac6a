-- The one check is 1, and the time is the visible time. Assumes nothing.
use mathlib.Core.Path.{ap}
use Prim.Native.Nat.{ℕ}
use Rattle.rows.specs.Answers.{accepted, tells}
use Rattle.desk.specs.Questions.{question_checks, question_told, reply}
use Rattle.desk.proofs.Outcome.{done_asking, on_asking, out_asking}
use Rattle.desk.proofs.Desk.try_visible_time.Goals as goal

pub returns-in_err-thread_lives : goal.returns-in_err-thread_lives
unfolding reply question_checks
returns-in_err-thread_lives c = out_asking _ _ _ _ _ c.from_residual.ensures.1 c.in_err-thread_lives.ensures

pub returns : goal.returns
unfolding reply question_checks question_told
returns c = on_asking _ _ _ c.in_ok-thread_lives.ensures (done_asking _ (ap (λ (time : ℕ). accepted (tells 0 time)) c.visible.ensures))
