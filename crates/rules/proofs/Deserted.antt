-- Without a living thread every call that names one meets 1, its first refusal, and so none comes to life; and both bounds are never. Assumes nothing.
use Rattle.rules.proofs.Basis.{◌≡◌, sym, subst, true≢false, ◌⊎◌, inl, inr, ⊎_elim, none, ℕ, arith, le_refl, Bound, Weak, Strong, Call, by, sweep}
use Rattle.rules.specs.Claims.{RefusedWithoutThreads, ViewInOrder, NeverWithoutThreads}
use Rattle.rules.specs.Rules.{View, Outcome, Does, Smallest, IsTime, never}
use Rattle.rules.specs.Runs.{Run, stop, next}
use Rattle.rules.proofs.Bounds.{pending_inside}
use Rattle.rules.proofs.Clear.{cleared}
use Rattle.rules.proofs.Laws.{not_none}
use Rattle.rules.proofs.Order.{every_view_in_order}
use Rattle.rules.proofs.Ways.{Pending}

abbrev Dead : View → Type 0
Dead v = (thread : ℕ) → v.thread thread ≡ none

dead_does : (v : View) → Dead v → (call : Call) (out : Outcome) → Does v call out → Dead out.view
dead_does v dead call out (inl (refused, view, lent)) = subst Dead (sym view) dead
dead_does v dead (by thread deed) out (inr (clear, accepts)) = absurd (cleared v (by thread deed) clear 1 (dead thread))
dead_does v dead (sweep bound slice) out (inr (clear, (time, items, is, those, e))) = subst (λ (x : Outcome). Dead x.view) (sym e) dead

dead_calls : {v w : View} → Run v w → Dead v → Dead w
dead_calls stop dead = dead
dead_calls (next {v} {w} call out fits does rest) dead = dead_calls rest (dead_does v dead call out does)

pub refused_without_threads : RefusedWithoutThreads
refused_without_threads v w dead run (by thread deed) quiet out (inl (inl (case, code, value, time), view, lent)) = (code, value, time)
refused_without_threads v w dead run (by thread deed) quiet out (inl (inr (lives, later), view, lent)) = absurd (lives (dead_calls run dead thread))
refused_without_threads v w dead run (by thread deed) quiet out (inr (clear, accepts)) = absurd (cleared w (by thread deed) clear 1 (dead_calls run dead thread))
refused_without_threads v w dead run (sweep bound slice) quiet out does = absurd (true≢false quiet)

-- ---- and with nobody there nothing is pending

deserted : (v : View) → ViewInOrder v → Dead v → (bound : Bound) → Smallest (λ time. IsTime v time ⊎ ((k : ℕ) × Pending bound (v.connection k) time)) never
deserted v o dead bound = record {
  at_most_never = le_refl never;
  at_most_each = λ time. ⊎_elim (λ (t, q). absurd (not_none q (dead t))) (λ (k, q). (let (inside, (t, (x, lives))) = pending_inside v o bound k time q in absurd (not_none lives (dead t))));
  attained = λ under. absurd (omega arith);
}

pub never_without_threads : NeverWithoutThreads
never_without_threads v run dead Weak = deserted v (every_view_in_order v run) dead Weak
never_without_threads v run dead Strong = deserted v (every_view_in_order v run) dead Strong
