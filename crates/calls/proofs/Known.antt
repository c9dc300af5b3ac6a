-- What is asked of a state says which it is: each question is answered yes by its states alone. Assumes nothing.
use mathlib.Core.Bool.{false≢true, true}
use mathlib.Core.Logic.{◌⊎◌, inl, inr}
use mathlib.Core.Path.{◌≡◌, refl}
use Rattle.calls.specs.States.{is_open, is_pending, is_unseen}
use Rattle.calls.specs.declared.State.{State}
use Rattle.calls.specs.declared.State.TheVariants.{Absent, Consumed, Open, Unseen}

pub is_open_lem : (s : State) → is_open s ≡ true → s ≡ Open
is_open_lem Absent e = absurd (false≢true e)
is_open_lem Unseen e = absurd (false≢true e)
is_open_lem Open e = refl
is_open_lem Consumed e = absurd (false≢true e)

pub is_unseen_lem : (s : State) → is_unseen s ≡ true → s ≡ Unseen
is_unseen_lem Absent e = absurd (false≢true e)
is_unseen_lem Unseen e = refl
is_unseen_lem Open e = absurd (false≢true e)
is_unseen_lem Consumed e = absurd (false≢true e)

pub is_pending_lem : (s : State) → is_pending s ≡ true → (s ≡ Unseen) ⊎ (s ≡ Open)
is_pending_lem Absent e = absurd (false≢true e)
is_pending_lem Unseen e = inl refl
is_pending_lem Open e = inr refl
is_pending_lem Consumed e = absurd (false≢true e)
