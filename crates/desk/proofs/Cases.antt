-- P1 to P10 hold, by computing the definitions. Assumes nothing.
use mathlib.Core.Path.{refl}
use Rattle.desk.specs.Cases.{CasesHold, all_hold}
use Rattle.desk.proofs.Computing.{computing}

pub cases-hold : CasesHold
unfolding computing all_hold
cases-hold = refl
