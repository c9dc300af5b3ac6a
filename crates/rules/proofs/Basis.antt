-- The names of the library and of the calls that most of these proofs speak with, under one roof. Assumes nothing.
pub use mathlib.Core.Path.{◌≡◌, ◌∙◌, refl, sym, ap, ap₂, subst}
pub use mathlib.Core.Bool.{Bool, true, false, cond, not, true≢false, Bool-discrete}
pub use mathlib.Core.List.{List, [], ◌∷◌, ◌++◌}
pub use mathlib.Core.Logic.Dec.{and as Dec·and}
pub use mathlib.Core.Logic.Dec.{not as Dec·not}
pub use mathlib.Core.Logic.Dec.{not-not as Dec·not-not}
pub use mathlib.Core.Logic.Dec.{of_iff as Dec·of-iff}
pub use mathlib.Core.Logic.{◌⊎◌, inl, inr, ⊎_elim, ◌↔◌, ◌≢◌, by_cases}
pub use mathlib.Core.Option.{Option, none, some, some-injective as Option·some-injective, none-ne-some as Option·none-ne-some, discrete as Option_discrete}
pub use Prim.Native.Nat.{ℕ, zero, suc, max, min, ◌+◌, ◌-◌, ◌≤◌, ◌<◌}
pub use native.Mathlib.Decide.{dec_lt, dec_le, ℕ_discrete, map_dec}
pub use native.Mathlib.Omega.{arith}
pub use native.Mathlib.Nat.{le_refl, lt_of_not-le}
pub use lib.Dec.{eqb, ltb}
pub use lib.ListN.{length, drop}
pub use borrow.Author.Tests.{not-true, eqb-true, eqb-false, eq-eqb, ne_eqb, ltb-true, ltb-false, lt-ltb, le-ltb}
pub use Rattle.calls.specs.declared.State.{State}
pub use Rattle.calls.specs.declared.State.TheVariants.{Absent, Unseen, Open, Consumed}
pub use Rattle.calls.specs.declared.Which.{Which}
pub use Rattle.calls.specs.declared.Which.TheVariants.{Earliest, Latest, Named}
pub use Rattle.calls.specs.declared.Deed.{Deed}
pub use Rattle.calls.specs.declared.Deed.TheVariants.{Channel, NewThread, AttachInput, AttachOutput, Detach, End, Set, Put, Get, Consume, ConsumeUntil}
pub use Rattle.calls.specs.declared.Bound.{Bound}
pub use Rattle.calls.specs.declared.Bound.TheVariants.{Weak, Strong}
pub use Rattle.calls.specs.Calls.{Call, by, sweep, put, get, consume, attach_input, detach, end, is_put, is_put_deed, is_sweep, slice_of, Ticket, Passable}
pub use Rattle.calls.specs.States.{state_number}
