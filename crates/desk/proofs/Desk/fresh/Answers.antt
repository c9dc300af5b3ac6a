-- The desk that is built is the fresh one, field by field. Assumes nothing.
use Rattle.desk.specs.Desk.{fresh}
use mathlib.Core.Path.{refl}
use Rattle.desk.proofs.Desk.fresh.Goals as goal

pub returns : goal.returns
unfolding fresh
returns c = refl
