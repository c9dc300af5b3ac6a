-- The two bounds are there and never fall: what a call brings about was there before, or is not below a visible time. Assumes nothing.
use Rattle.rules.proofs.Basis.{◌≡◌, refl, subst, ◌⊎◌, inl, inr, ⊎_elim, none, some, Option·some-injective, Option·none-ne-some, ℕ, ◌≤◌, ◌<◌, ℕ_discrete, arith, le_refl, State, Unseen, Open, Consumed, Bound, Weak, Strong}
use Rattle.rules.specs.Claims.{BoundsAreThere, BoundsNeverFall, WeakBelowStrong, Living, ViewInOrder}
use Rattle.rules.specs.Rules.{connection_places, thread_places, Connection, unused, output, input, View, KeepTime, state_on, unseen_if, Smallest, IsTime, BoundOf}
use Rattle.rules.specs.Runs.{Run}
use Rattle.rules.proofs.Connections.{opens, Turn, Turned, ConnectionFitsIn, Allowed, Waits, alike, freed, rests, consumes, absent_done, writes, consumed_done, reads, comes, moves}
use Rattle.rules.proofs.Laws.{smallest, either, exists_below, state_is, some_is, at_elim, below_elim}
use Rattle.rules.proofs.Leaving.{left-at_least}
use Rattle.rules.proofs.Order.{every_view_in_order, by_calls}
use Rattle.rules.proofs.Ways.{Pending, at_least_bound, AtLeast, Kind, at_least_waits, at_least_allowed, waiting, bound_at_least, kind_turned, makes, sets, changes, ends, stocks, raises}

-- ---- what a call brings about

turn-waits : {v : View} {timestamp : ℕ} {old new : State} → Turn v timestamp old new → Waits new → Waits old ⊎ Allowed v timestamp
turn-waits (rests s) w = inl w
turn-waits opens w = inl (inl refl)
turn-waits (consumes s) w = absurd (consumed_done w)
turn-waits (comes may) w = inr may

-- of a connection: it pended before, no later, or a visible time allows it
abbrev Earlier : View → Bound → Connection → ℕ → Type 0
Earlier v bound old time = ((was : ℕ) × Pending bound old was × (was ≤ time)) ⊎ Allowed v time

turned_earlier : {v : View} {old new : Connection} → Turned v old new → (bound : Bound) (time : ℕ) → Pending bound new time → Earlier v bound old time
turned_earlier (alike c) bound time q = inl (time, q, le_refl time)
turned_earlier (freed c) Weak time q = absurd q
turned_earlier (freed c) Strong time q = absurd (absent_done q)
turned_earlier (writes thread channel) Weak time q = absurd q
turned_earlier (writes thread channel) Strong time q = absurd (absent_done q)
turned_earlier (reads thread channel mark (who, visible, is, late)) Weak time q = inr (who, visible, is, omega arith)
turned_earlier {v} (reads thread channel mark (who, visible, is, late)) Strong time q = below_elim (λ s. Waits s → Earlier v Strong unused time) time mark Consumed (unseen_if (v.item channel time))
    (λ under w. absurd (consumed_done w)) (λ over w. inr (who, visible, is, omega arith)) q
turned_earlier (moves thread channel mark later seen now up turns) Weak time q = inl (mark, refl, omega arith)
turned_earlier (moves thread channel mark later seen now up turns) Strong time q = ⊎_elim (λ w. inl (time, w, le_refl time)) inr (turn-waits (turns time) q)

-- of the threads
kind_times : (v w : View) → Kind v w → (time : ℕ) → IsTime w time → IsTime v time ⊎ Allowed v time
kind_times v w (makes number inside) time is = inl is
kind_times v w (sets number new inside top may) time (t, is) = at_elim (λ s. s ≡ some time → IsTime v time ⊎ Allowed v time) v.thread number (some new) t
    (λ e q. inr (subst (Allowed v) (Option·some-injective new time q) may)) (λ ne q. inl (t, q)) is
kind_times v w (changes number new fits turned) time is = inl is
kind_times v w (ends thread) time (t, is) =
    at_elim (λ s. s ≡ some time → IsTime v time ⊎ Allowed v time) v.thread thread none t (λ e q. absurd (Option·none-ne-some time q)) (λ ne q. inl (t, q)) is
kind_times v w (stocks channel timestamp ticket exists early carried may lacks) time is = inl is
kind_times v w (raises bound top) time is = inl is

-- ---- so a time that is at most all of which a bound is the smallest stays so over every call

pub at_least_kind : {least : ℕ} (bound : Bound) (v : View) → ViewInOrder v → AtLeast bound least v → (w : View) → Kind v w → AtLeast bound least w
at_least_kind bound v o a w kind =
    let may = at_least_allowed (at_least_waits o bound a) in
    record {
      top = a.top;
      times = λ t q. ⊎_elim (a.times t) (may t) (kind_times v w kind t q);
      pending = λ k t q. ⊎_elim (λ (was, pended, low). omega (arith, a.pending k was pended)) (may t) (turned_earlier (kind_turned v w kind k) bound t q);
    }

pub at_least_calls : {v w : View} {least : ℕ} (bound : Bound) → Run v w → ViewInOrder v → AtLeast bound least v → AtLeast bound least w
at_least_calls bound = by_calls (record { by_ways = at_least_kind bound; by_leaving = λ v o a gone may. left-at_least bound v a gone })

pub bounds_never_fall : BoundsNeverFall
bounds_never_fall v w run calls bound before now was is = at_least_bound bound (at_least_calls bound calls (every_view_in_order v run) (bound_at_least bound was)) is

pub weak_below_strong : WeakBelowStrong
weak_below_strong v run weak strong lower upper = at_least_bound Strong (at_least_waits (every_view_in_order v run) Weak (bound_at_least Weak lower)) upper

-- ---- they are there

pending_is : (bound : Bound) (time : ℕ) (c : Connection) → Dec (Pending bound c time)
pending_is Weak time unused = no (λ q. q)
pending_is Weak time (output t c) = no (λ q. q)
pending_is Weak time (input t c m s) = ℕ_discrete time m
pending_is Strong time c = either (state_is Unseen (state_on c time)) (state_is Open (state_on c time))

keeps_inside : (v : View) (k mark : ℕ) (c : Connection) → ConnectionFitsIn v k c → KeepTime c mark → (k < connection_places) × ((t : ℕ) × Living v.thread t)
keeps_inside v k mark unused f q = absurd q
keeps_inside v k mark (output t c) f q = absurd q
keeps_inside v k mark (input t c m s) f q = (f.0, (t, f.1))

module _ (v : View) (o : ViewInOrder v) where
  pub pending_inside : (bound : Bound) (k time : ℕ) → Pending bound (v.connection k) time → (k < connection_places) × ((t : ℕ) × Living v.thread t)
  pending_inside Weak k time q = keeps_inside v k time (v.connection k) (o.connections k) q
  pending_inside Strong k time q = let w = waiting v o k time q in (w.inside, (w.thread, w.living))

  least : (bound : Bound) → (time : ℕ) × Smallest (λ time. IsTime v time ⊎ ((k : ℕ) × Pending bound (v.connection k) time)) time
  least bound = smallest _ (λ time. either (exists_below _ (λ t. some_is time (v.thread t)) thread_places (λ t q. (o.threads t time q).0))
      (exists_below _ (λ k. pending_is bound time (v.connection k)) connection_places (λ k q. (pending_inside bound k time q).0)))

  pub bound_is_there : (bound : Bound) → (time : ℕ) × BoundOf v bound time
  bound_is_there Weak = least Weak
  bound_is_there Strong = least Strong

pub bounds_are_there : BoundsAreThere
bounds_are_there v run bound = bound_is_there v (every_view_in_order v run) bound
