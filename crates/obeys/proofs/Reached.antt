-- A step by its checks; a call leads from a reached desk to a reached desk, so a law of every reached desk needs one law of a step. Assumes nothing.
use Rattle.obeys.proofs.Basis.{AllPassable, Call, Desk, List, Passable, Passed, Reached, [], ◌++◌, ◌∙◌, ◌∷◌, ◌≡◌, accepted, after, ap, bool_cases, checks, effect, fresh, outcome, pass_decided, passed, passing, refl, step}
use Rattle.obeys.proofs.Basis.{subst, told, passable_more, passes, true}
use Rattle.obeys.specs.Reached.{DeskStart, fresh_desk}

-- ---- a step

-- a call that passes its checks
pub step-accepted : (d : Desk) (call : Call) → passes (checks d call) ≡ true → step d call ≡ record { answer = accepted (told d call); desk = effect d call }
unfolding step outcome
step-accepted d call p = rw (p, pass_decided (checks d call) (told d call) (passed (checks d call) p))

-- what holds of a desk holds after a call, if the effects keep it
pub step_keeps : (P : Desk → Type 0) (d : Desk) (call : Call) → P d → (Passed d call → P (effect d call)) → P (step d call).desk
unfolding step outcome
step_keeps P d call kept changed =
    bool_cases (passes (checks d call))
    (λ e. rw e (changed (passing d call e)))
    (λ e. rw e kept)

after_keeps : (P : Desk → Type 0) → ((d : Desk) (call : Call) → P d → Passable call → P (step d call).desk)
    → (d : Desk) (calls : List Call) → AllPassable calls → P d → P (after d calls)
unfolding after
after_keeps P kept d [] all start = start
after_keeps P kept d (call ∷ calls) all start = after_keeps P kept (step d call).desk calls all.1 (kept d call start all.0)

-- what holds of every start, and is kept by every call, holds of every reached desk
pub reached_keeps : (P : Desk → Type 0) → ((d : Desk) → DeskStart d → P d) → ((d : Desk) (call : Call) → P d → Passable call → P (step d call).desk)
    → (d : Desk) → Reached d → P d
reached_keeps P start kept d r = subst P r.reaches (after_keeps P kept r.start r.calls r.passable (start r.start r.starts))

-- ---- one call more

after_more : (d : Desk) (calls more : List Call) → after d (calls ++ more) ≡ after (after d calls) more
unfolding after
after_more d [] more = refl
after_more d (call ∷ calls) more = after_more (step d call).desk calls more

pub start-reached : (d : Desk) → DeskStart d → Reached d
unfolding after
start-reached d starts = record { start = d; starts = starts; calls = []; passable = tt; reaches = refl }

pub fresh-reached : Reached fresh
fresh-reached = start-reached fresh fresh_desk

pub reached-after : (d : Desk) → Reached d → (calls : List Call) → AllPassable calls → Reached (after d calls)
reached-after d r calls all = record {
  start = r.start;
  starts = r.starts;
  calls = r.calls ++ calls;
  passable = passable_more r.calls calls r.passable all;
  reaches = after_more r.start r.calls calls ∙ ap (λ (e : Desk). after e calls) r.reaches;
}

pub reached-step : (d : Desk) → Reached d → (call : Call) → Passable call → Reached (step d call).desk
unfolding after
reached-step d r call fits = reached-after d r (call ∷ []) (fits, tt)
