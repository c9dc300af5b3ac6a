-- Each way out is one branch of `with_code`, by whether the code is 0. Assumes nothing.
use borrow.Author.Tests.{eq-eqb, ne_eqb}
use Rattle.rows.specs.Codes.{with_code}
use Rattle.rows.proofs.Answer.with_code.Goals as goal

pub returns-then-code-eq0 : goal.returns-then-code-eq0
unfolding with_code
returns-then-code-eq0 c = simp (eq-eqb _ _ c.if-code-eq0.true)

pub returns : goal.returns
unfolding with_code
returns c = simp (ne_eqb _ _ c.if-code-eq0.false)
