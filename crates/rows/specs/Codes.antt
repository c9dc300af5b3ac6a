-- How the code comes to an answer: by codes alone, one check after the other, and by the answer that a code has. Serves the contracts of the functions
-- that do so; nothing of document 01 is said here. Assumes nothing.
use Rattle.std.specs.Prelude.{cond, ℕ, eqb}
use Rattle.rows.specs.declared.Answer.{Answer}
use Rattle.rows.specs.declared.Told.{Told}
use Rattle.rows.specs.Answers.{accepted, refusal, Check}

-- one check more: a code that is not 0 stays
unfoldable pub checked : ℕ → Check → ℕ
checked code c = cond (eqb code 0) (cond c.holds 0 c.refused.code) code

-- the answer with this code: what is told where it is 0, and nothing beside the code where it is not
unfoldable pub with_code : ℕ → Told → Answer
with_code code told = cond (eqb code 0) (accepted told) (refusal code)

-- this refusal, which tells more than its code, in the place of one with the same code
unfoldable pub telling : Answer → Answer → Answer
telling given refused = cond (eqb given.code refused.code) refused given
