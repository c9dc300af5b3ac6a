-- A strong sweep hands back exactly what could not be got, a weak one only such; what stays can be got as well as before. Assumes nothing.
use Rattle.rules.proofs.Basis.{◌≡◌, ◌∙◌, refl, sym, ap, subst, List, ◌++◌, inl, inr, ⊎_elim, ◌↔◌, none, some, Option·none-ne-some, ℕ, ◌≤◌, ◌<◌, arith, lt_of_not-le, length, drop, ltb-true, lt-ltb, le-ltb, Bound, Weak}
use Rattle.rules.proofs.Basis.{Strong, sweep}
use Rattle.rules.specs.Claims.{Handed, HandsBack, SweptExactlyTheUnreachable, WeaklySweptOnlyTheUnreachable, SweepsSpareTheRest}
use Rattle.rules.specs.Rules.{never, below, Connection, unused, output, input, View, state_on, consumed_below, StrongBound, BoundOf, Item, IsPresent, ◌∈◌, Listed, tickets, slice_short, Outcome, done, left, swept, Not, Does}
use Rattle.rules.specs.Runs.{CouldBeGot}
use Rattle.rules.proofs.Accounts.{items_are_listed}
use Rattle.rules.proofs.Bounds.{bound_is_there}
use Rattle.rules.proofs.Connections.{Waits}
use Rattle.rules.proofs.Gettable.{gettable, lost}
use Rattle.rules.proofs.Laws.{smallest_one, below_elim, not-below}
use Rattle.rules.proofs.Leaving.{left_in_order, swept_connection}
use Rattle.rules.proofs.One.{below_one, accepted, does_one_thing}
use Rattle.rules.proofs.Order.{every_view_in_order, kind_in_order}
use Rattle.rules.proofs.Stock.{low_items}
use Rattle.rules.proofs.Ways.{bound_at_least, AtLeast, at_least_waits, raises}

-- ---- what a sweep hands back, where these are the items below its bound

lows : {v : View} {time : ℕ} {items : List Item} → Listed v (below time) items → (item : Item) → (item ∈ items) ↔ (IsPresent v item × (item.timestamp < time))
lows {v} {time} {items} those item = (
  λ listed. (let (here, chosen) = (those.exactly item).0 listed in (here, ltb-true item.timestamp time chosen)),
  λ (here, low). (those.exactly item).1 (here, lt-ltb item.timestamp time low),
)

module _ (v : View) (bound : Bound) (time : ℕ) (is : BoundOf v bound time) (items : List Item) (those : Listed v (below time) items) where
  stays_present : (item : Item) → IsPresent (swept v time) item ↔ (IsPresent v item × (item ∈ items → ⊥))
  stays_present item = (
    below_elim (λ i. i ≡ some item.ticket → IsPresent v item × (item ∈ items → ⊥)) item.timestamp time none (v.item item.channel item.timestamp)
        (λ under gone. absurd (Option·none-ne-some item.ticket gone)) (λ over here. (here, λ listed. omega (arith, ((lows those item).0 listed).1))),
    λ (here, unlisted). rw (le-ltb item.timestamp time (not-below (λ below. unlisted ((lows those item).1 (here, below))))) here,
  )

  -- what a sweep may do is one thing, so it is enough that it may do this
  handed : (slice : List ℕ) → length items ≤ length slice → (o : Outcome) → Does v (sweep bound slice) o → Handed v bound items slice o
  handed slice enough o does =
      let long : Not (slice_short v (BoundOf v bound) slice) = λ (other, listed, is', those', short). omega (arith, ap length (below_one v bound other time listed items is' is those' those).1) in
      let accepted : Does v (sweep bound slice) (done (length items) time (swept v time) (tickets items ++ drop (length items) slice)) = inr (search, (time, items, is, those, refl)) in
      subst (Handed v bound items slice) (does_one_thing v (sweep bound slice) _ o accepted does) (record { code = refl; value = refl; time = is; slice = refl; stays = stays_present })

  too_short : (slice : List ℕ) → length slice < length items → (o : Outcome) → Does v (sweep bound slice) o
      → o ≡ record { code = 12; value = length items; time = 0; view = v; slice = slice }
  too_short slice few o does = does_one_thing v (sweep bound slice) o _ does (inl (inl ((time, items, is, those, few), refl, refl, refl), refl, refl))

  pub hands_back : HandsBack v bound items
  hands_back = record { in_line = those.in_line; long = handed; short = too_short }

pub swept_exactly_the_unreachable : SweptExactlyTheUnreachable
swept_exactly_the_unreachable v run =
    let o = every_view_in_order v run in
    let (all, present, few) = items_are_listed v run in
    let (time, items, is, those) = low_items v o all present Strong in
    record {
      items = items;
      hands_back = hands_back v Strong time is items those;
      exactly = λ item. (
        λ listed. (let (here, below) = (lows those item).0 listed in (here, lost o (bound_at_least Strong is) item below)),
        λ (here, unreachable). (lows those item).1 (here, lt_of_not-le (λ late. unreachable (gettable v o time is item here late))),
      );
      kept = λ item here unlisted. gettable v o time is item here (not-below (λ below. unlisted ((lows those item).1 (here, below))));
    }

pub weakly_swept_only_the_unreachable : WeaklySweptOnlyTheUnreachable
weakly_swept_only_the_unreachable v run =
    let o = every_view_in_order v run in
    let (all, present, few) = items_are_listed v run in
    let (time, items, is, those) = low_items v o all present Weak in
    record {
      items = items;
      hands_back = hands_back v Weak time is items those;
      below = λ bound is'. subst (λ (x : ℕ). (item : Item) → (item ∈ items) ↔ (IsPresent v item × (item.timestamp < x))) (smallest_one is is') (lows those);
      only = λ item listed. lost o (at_least_waits o Weak (bound_at_least Weak is)) item ((lows those item).0 listed).1;
    }

-- ---- what a sweep leaves

raised_above : (time timestamp : ℕ) (c : Connection) → time ≤ timestamp → state_on (consumed_below time c) timestamp ≡ state_on c timestamp
raised_above time timestamp unused above = refl
raised_above time timestamp (output t c) above = refl
raised_above time timestamp (input t c m s) above = rw (le-ltb timestamp time above)

state_above : (v : View) (time timestamp k : ℕ) → time ≤ timestamp → state_on ((swept v time).connection k) timestamp ≡ state_on (v.connection k) timestamp
state_above v time timestamp k above =
    ap (λ (c : Connection). state_on c timestamp) (swept_connection time (v.connection k)) ∙ raised_above time timestamp (v.connection k) above

-- the strong bound is not above what it was: what it was taken of is there as before
still_low : (v : View) (time strong now : ℕ) → AtLeast Strong time v → StrongBound v strong → strong < never → StrongBound (swept v time) now → now ≤ strong
still_low v time strong now above was under is =
    ⊎_elim (λ lives. is.at_most_each strong (inl lives))
    (λ (k, waits). is.at_most_each strong (inr (k, subst Waits (sym (state_above v time strong k (above.pending k strong waits))) waits)))
    (was.attained under)

pub sweeps_spare_the_rest : SweepsSpareTheRest
sweeps_spare_the_rest v run bound slice fits out does ok =
    let o = every_view_in_order v run in
    let (time, items, is, those, e) = (accepted v (sweep bound slice) out does ok).1 in
    let above = at_least_waits o bound (bound_at_least bound is) in
    let o' = kind_in_order (left v (below time)) (left_in_order v o (below time)) (swept v time) (raises time above.top) in
    let (strong, was) = bound_is_there v o Strong in
    let (now, after) = bound_is_there (swept v time) o' Strong in
    let spared : (item : Item) → IsPresent (swept v time) item → CouldBeGot v item → CouldBeGot (swept v time) item = λ item here got. (
    let early = (o'.items item.channel item.timestamp item.ticket here).1 in
    let low : strong ≤ item.timestamp = not-below (λ below. lost o (bound_at_least Strong was) item below got) in
    gettable (swept v time) o' now after item here (omega (arith, still_low v time strong now above was (omega arith) after))) in
    subst (λ (x : Outcome). ((item : Item) → IsPresent x.view item → CouldBeGot v item → CouldBeGot x.view item)
    × ((connection timestamp : ℕ) → x.time ≤ timestamp → state_on (x.view.connection connection) timestamp ≡ state_on (v.connection connection) timestamp)) (sym e)
    (spared, λ k timestamp. state_above v time timestamp k)
