-- Each way out is one branch of `telling`, by whether the two codes are equal. Assumes nothing.
use borrow.Author.Tests.{eq-eqb, ne_eqb}
use Rattle.rows.specs.Codes.{telling}
use Rattle.rows.proofs.Answer.telling.Goals as goal

pub returns-then-self-refused : goal.returns-then-self-refused
unfolding telling
returns-then-self-refused c = simp (eq-eqb _ _ c.if-self-refused.true)

pub returns : goal.returns
unfolding telling
returns c = simp (ne_eqb _ _ c.if-self-refused.false)
