-- Each way out is one branch of `checked`: the code is not 0, or it is and the check holds, or it does not. Assumes nothing.
use borrow.Author.Tests.{eq-eqb, ne_eqb}
use Rattle.rows.specs.Codes.{checked}
use Rattle.rows.proofs.answers.needs.Goals as goal

pub returns-then-code-ne0 : goal.returns-then-code-ne0
unfolding checked
returns-then-code-ne0 c = rw (ne_eqb _ _ c.if-code-ne0.true)

pub returns-then-holds : goal.returns-then-holds
unfolding checked
returns-then-holds c = rw (eq-eqb _ _ c.if-code-ne0.false, c.if-holds.true)

pub returns : goal.returns
unfolding checked
returns c = rw (eq-eqb _ _ c.if-code-ne0.false, c.if-holds.false)
