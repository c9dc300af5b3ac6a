-- The laws of yes and no, for the crates above. Assumes nothing.
pub use mathlib.Core.Bool.{and_comm}
pub use Rattle.words.proofs.YesOrNo.{true_not_false, and_left, and_right, and_both, bool_cases, cond_same, not_then}
