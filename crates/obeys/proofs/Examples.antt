-- No claim is empty: reached desks on which an item could be got and on which it could not, by computing the definitions of the desk. Assumes nothing.
use mathlib.Core.Path.{◌≡◌, refl, ap}
use mathlib.Core.Bool.{Bool, true, not, ◌&&◌}
use mathlib.Core.List.{List, [], ◌∷◌}
use mathlib.Core.Option.{some}
use Prim.Native.Nat.{ℕ, zero, suc}
use native.Mathlib.Omega.{arith}
use lib.Dec.{eqb}
use borrow.Author.Tests.{eqb-true, not-true}
use Rattle.calls.specs.declared.Bound.TheVariants.{Strong}
use Rattle.calls.specs.declared.Which.{Which}
use Rattle.calls.specs.declared.Which.TheVariants.{Named}
use Rattle.calls.specs.Calls.{Call, new_channel, new_thread, attach_input, attach_output, detach, put, get, is_sweep, Passable, AllPassable}
use Rattle.rows.specs.declared.Answer.{Answer}
use Rattle.rows.specs.Answers.{answer}
use Rattle.rows.proofs.Laws.{and_left, and_right}
use Rattle.desk.specs.declared.Desk.{Desk}
use Rattle.desk.specs.Desk.{fresh}
use Rattle.desk.specs.Calls.{step, after}
use Rattle.desk.specs.Cases.{consumed_three, consumed_five}
use Rattle.desk.proofs.Computing.{computing}
use Rattle.rules.specs.Rules.{input_from, Item}
use Rattle.rules.specs.Runs.{Further, CouldBeGot}
use Rattle.rules.proofs.Order.{every_view_in_order}
use Rattle.rules.proofs.Ways.{bound_at_least}
use Rattle.rules.proofs.Gettable.{lost}
use Rattle.obeys.specs.Reached.{Reached}
use Rattle.obeys.specs.View.{view_of, outcome_of}
use Rattle.obeys.proofs.Reached.{reached-step, reached-after, fresh-reached}
use Rattle.obeys.proofs.Does.{desk_does}
use Rattle.obeys.proofs.Obeys.{reached_reachable, desk_bounds}

-- the desk accepts these calls, one after the other, and none is a sweep
abbrev accepts : Desk → List Call → Bool
accepts d [] = true
accepts d (call ∷ calls) = not (is_sweep call) && (eqb (step d call).answer.code 0 && accepts (step d call).desk calls)

further : (d : Desk) → Reached d → (calls : List Call) → AllPassable calls → accepts d calls ≡ true → Further (view_of d) (view_of (after d calls))
unfolding outcome_of after
further d r [] all ok = Further.stop
further d r (call ∷ calls) all ok =
    let rest = and_right (not (is_sweep call)) _ ok in
    Further.next call (outcome_of d call) all.0 (not-true (is_sweep call) (and_left _ _ ok)) (desk_does d r call all.0) (eqb-true _ 0 (and_left _ _ rest))
    (further (step d call).desk (reached-step d r call all.0) calls all.1 (and_right (eqb (step d call).answer.code 0) _ rest))

-- so a get that the desk accepts after them shows that the item could be got
could_get : (d : Desk) → Reached d → (calls : List Call) → AllPassable calls → accepts d calls ≡ true
    → (thread connection : ℕ) (which : Which) → Passable (get thread connection which)
    → (item : Item) → (step (after d calls) (get thread connection which)).answer ≡ answer 0 item.ticket item.timestamp
    → input_from ((view_of (after d calls)).connection connection) ≡ some item.channel → CouldBeGot (view_of d) item
unfolding outcome_of
could_get d r calls all ok thread connection which fits item answers from = record {
  later = view_of (after d calls);
  run = further d r calls all ok;
  thread = thread;
  connection = connection;
  which = which;
  outcome = outcome_of (after d calls) (get thread connection which);
  passable = fits;
  does = desk_does (after d calls) (reached-after d r calls all) (get thread connection which) fits;
  accepted = ap (λ (a : Answer). a.code) answers;
  channel = from;
  timestamp = ap (λ (a : Answer). a.time) answers;
  ticket = ap (λ (a : Answer). a.value) answers;
}

abbrev pub item : ℕ → ℕ → ℕ → Item
item channel timestamp ticket = record { channel = channel; timestamp = timestamp; ticket = ticket }

abbrev reached : (calls : List Call) → AllPassable calls → Reached (after fresh calls)
reached calls all = reached-after fresh fresh-reached calls all

-- P9 and P10, the late reader: the only input connection has consumed item 3, and a thread yet to be created can get it
pub late_reader : CouldBeGot (view_of (after fresh consumed_three)) (item 0 3 300)
unfolding computing view_of
late_reader =
    could_get (after fresh consumed_three) (reached consumed_three (omega arith)) (new_thread 0 3 ∷ attach_input 1 0 ∷ []) (omega arith) refl 1 1 (Named 3)
    (omega arith) (item 0 3 300) refl refl

-- what could not be got: 5 is consumed by name, and the strong bound is 6
pub lost_five : CouldBeGot (view_of (after fresh consumed_five)) (item 0 5 500) → ⊥
unfolding computing
lost_five =
    let r = reached consumed_five (omega arith) in
    lost (every_view_in_order _ (reached_reachable _ r)) (bound_at_least Strong (desk_bounds _ r Strong)) (item 0 5 500) (omega arith)

-- and with every connection in use the item is got after a detach
abbrev attach_all : ℕ → List Call
attach_all zero = []
attach_all (suc n) = attach_output 0 0 ∷ attach_all n

abbrev crowded : List Call
crowded = new_channel 0 ∷ attach_output 0 0 ∷ put 0 0 3 300 ∷ attach_all 31

attach_all_lem : (n : ℕ) → AllPassable (attach_all n)
attach_all_lem zero = tt
attach_all_lem (suc n) = ((omega arith, omega arith), attach_all_lem n)

crowded_passable : AllPassable crowded
crowded_passable = ((omega arith, tt), ((omega arith, omega arith), ((omega arith, (omega arith, omega arith, omega arith)), attach_all_lem 31)))

pub after_a_detach : CouldBeGot (view_of (after fresh crowded)) (item 0 3 300)
unfolding computing view_of
after_a_detach =
    could_get (after fresh crowded) (reached crowded crowded_passable) (detach 0 0 ∷ attach_input 0 0 ∷ []) (omega arith) refl 0 0 (Named 3)
    (omega arith) (item 0 3 300) refl refl
