-- Each accepted call does what the view says, by the law of its effect, and so does each call, by the agreement of its checks. Assumes nothing.
use Rattle.obeys.proofs.Basis.{[], ◌<◌, ◌∷◌, ◌≡◌, AttachInput, AttachOutput, BoundOf, Call, Channel, Consume, ConsumeUntil, Consumed, Desk, DeskDoes, Some, None}
use Rattle.obeys.proofs.Basis.{DeskInOrder, Detach, End, Found, Get, Holds, List, NewThread, Passed, Put, Row, Set, View, Which, adopted, OptionOf, Some, None}
use Rattle.obeys.proofs.Basis.{and_left, and_right, ap, arith, attached, becomes_open, bool_cases, bound_of, by, channel_places, checks, connection_at}
use Rattle.obeys.proofs.Basis.{connection_places, count, done, effect, false, fewer_free, found-holds, found_told, free_channel, free_connection, free_thread}
use Rattle.obeys.proofs.Basis.{handed_back, has, in_use-has, input_from, is_open_lem, is_unseen_lem, is_found, is_input, is_open, is_output, is_pending, is_unseen_at}
use Rattle.obeys.proofs.Basis.{item_places, leads_to, leaving, leb, leb-true, length, ltb-true, output_to, owned_below, passes, place_found, place_of, refl}
use Rattle.obeys.proofs.Basis.{rule, same_elsewhere, seen_as, slice_long, slice_after, slice_of, some, sought-found, sought_by, state, state_at, state_of, suc}
use Rattle.obeys.proofs.Basis.{sweep, sweep_row, swept, sym, thread_places, ticket_at, timestamp_at, told, true, true_not_false, unconsumed, used_inside}
use Rattle.obeys.proofs.Basis.{view_of, visible_time, with_elsewhere, with-same, ℕ}
use native.Mathlib.Numerals.{add-one}
use Rattle.rules.specs.Rules.{with_connection}
use Rattle.obeys.proofs.Agreed.{agree, channels_free, connections_free, lowest_free_lem, threads_free}
use Rattle.obeys.proofs.Bounds.{bound_is, visible}
use Rattle.obeys.proofs.Effects.{view_attached_input, view_attached_output, view_channel, view_thread}
use Rattle.obeys.proofs.Facts.{view_consumed, view_got, view_raised_mark}
use Rattle.obeys.proofs.Found.{takes}
use Rattle.obeys.proofs.Frame.{does}
use Rattle.obeys.proofs.Freed.{view_detached, view_ended}
use Rattle.obeys.proofs.Listed.{below, listed}
use Rattle.obeys.proofs.Lookup.{input_view, item_view, output_attached, output_view}
use Rattle.obeys.proofs.Order.{every_desk_in_order}
use Rattle.obeys.proofs.Stock.{view_stored}
use Rattle.obeys.proofs.Sweep.{view_swept}

-- the same answer, and the view that it says
quietly : {n m : ℕ} {slice : List ℕ} {v w : View} → v ≡ w → done n m v slice ≡ done n m w slice
quietly {n} {m} {slice} same = ap (λ (u : View). done n m u slice) same

module _ (d : Desk) (o : DeskInOrder d) where
  got-accepts : (thread connection : ℕ) (which : Which) → is_input d connection ≡ true
      → (found : OptionOf Found) → sought_by d connection which ≡ found → is_found found ≡ true
      → (rule (view_of d) (by thread (Get connection which))).Accepts
      (done (found_told d found).value (found_told d found).time (view_of (becomes_open d connection (place_found found))) [])
  unfolding is_unseen_at
  got-accepts thread connection which reads (Some item) e found =
      let place : ℕ = item.place in
      let timestamp : ℕ = item.timestamp in
      let row : Row = connection_at d connection in
      let s = sought-found d.timestamps row which place timestamp e in
      let unseen = is_unseen_lem (state_at d.timestamps row place) (and_right (has row.items place) _ s.unseen) in
      let w = unconsumed row (timestamp_at d place) place (ap is_pending unseen) in
      let h : Holds d.timestamps row.items timestamp place =
      record { inside = s.inside; there = and_left _ _ s.unseen; timestamp_is = sym s.is } in (
        leads_to d connection,
        timestamp,
        ticket_at d place,
        ap input_from (input_view d connection reads),
        takes d o connection reads which place timestamp e,
        item_view d o (leads_to d connection) h,
        quietly (view_got d o connection reads h (omega (arith, w.mark, s.is))),
      )
  got-accepts thread connection which reads None e found = absurd (true_not_false found refl)

  consumed_view : (thread connection timestamp : ℕ) → is_input d connection ≡ true
      → is_open (state d.timestamps (connection_at d connection) timestamp) ≡ true
      → view_of (effect d (by thread (Consume connection timestamp)))
      ≡ with_connection (view_of d) connection (seen_as Consumed timestamp ((view_of d).connection connection))
  unfolding effect state
  consumed_view thread connection timestamp reads opens =
      let row : Row = connection_at d connection in
      let place : ℕ = place_of d.timestamps row.items timestamp in
      let w = unconsumed row timestamp place (ap is_pending (is_open_lem (state_of row timestamp place) opens)) in
      view_consumed d o connection reads (found-holds d.timestamps row.items timestamp w.inside) w.mark

  -- an output leads to one of the channels
  leads_inside : (connection : ℕ) → is_output d connection ≡ true → leads_to d connection < channel_places
  leads_inside connection writes =
      o.items.channels (leads_to d connection)
      (o.connections.led connection (in_use-has (attached d) connection connection_places (output_attached d connection writes)))

  -- ---- sweeps

  sweeps : (Bound : ℕ → Type 0) (bound : ℕ) (slice : List ℕ) → Bound bound → leb (count (leaving d bound)) (length slice) ≡ true
      → (sweep_row (view_of d) Bound slice).Accepts
      (done (count (leaving d bound)) bound (view_of (swept d bound)) (handed_back d.timestamps d.tickets d.held (leaving d bound) slice))
  unfolding handed_back
  sweeps Bound bound slice is long =
      let those = below d o bound in
      (bound, those.items, is, listed d o bound, rw (those.counts, those.hands, long, view_swept d o bound))

  accepts : (call : Call) → Passed d call
      → (rule (view_of d) call).Accepts (done (told d call).value (told d call).time (view_of (effect d call)) (slice_after d call))
  unfolding checks told effect slice_after adopted
  accepts (by thread Channel) p =
      (free_channel d, lowest_free_lem (channels_free d) (p.held 9), quietly (view_channel d (ltb-true (free_channel d) channel_places (p.held 9))))
  accepts (by thread (NewThread time)) p =
      let inside : free_thread d < thread_places = ltb-true (free_thread d) thread_places (p.held 9) in
      let here = with-same d.living {p = free_thread d} (omega arith) in (
        free_thread d,
        lowest_free_lem (threads_free d) (p.held 9),
        quietly (view_thread d (free_thread d) time (some time) (with_elsewhere d.living (free_thread d)) inside o.threads.times.sized (rw here)),
      )
  accepts (by thread (AttachInput channel)) p = (
    free_connection d,
    visible_time d thread,
    lowest_free_lem (connections_free d) (p.held 9),
    visible d o thread (p.held 1),
    quietly (view_attached_input d o thread channel (visible_time d thread) (used_inside d.living (p.held 1))
        (ltb-true (free_connection d) connection_places (p.held 9))),
  )
  accepts (by thread (AttachOutput channel)) p = (
    free_connection d,
    lowest_free_lem (connections_free d) (p.held 9),
    quietly (view_attached_output d o thread channel 0 (used_inside d.living (p.held 1)) (ltb-true (free_connection d) connection_places (p.held 9))),
  )
  accepts (by thread (Detach connection)) p =
      quietly (view_detached d o thread connection (used_inside d.living (p.held 1)) (owned_below d thread connection (p.held 3)))
  accepts (by thread End) p = quietly (view_ended d o thread (used_inside d.living (p.held 1)))
  accepts (by thread (Set time)) p =
      quietly (view_thread d thread time (some time) (same_elsewhere d.living thread) (used_inside d.living (p.held 1)) o.threads.times.sized
      (rw (in_use-has d.living thread thread_places (p.held 1))))
  accepts (by thread (Put connection timestamp ticket)) p = (
    leads_to d connection,
    ap output_to (output_view d o connection (p.held 4)),
    quietly (view_stored d o (leads_to d connection) timestamp ticket (leads_inside connection (p.held 4))
        (fewer_free d.present (ltb-true (count d.present) item_places (p.held 8))) (leb-true item_places _ (p.held 7))),
  )
  accepts (by thread (Get connection which)) p = got-accepts thread connection which (p.held 4) (sought_by d connection which) refl (p.held 10)
  accepts (by thread (Consume connection timestamp)) p = quietly (consumed_view thread connection timestamp (p.held 4) (p.held 11))
  accepts (by thread (ConsumeUntil connection timestamp)) p =
      rw (add-one timestamp) (quietly (view_raised_mark d o connection (p.held 4) (suc timestamp)))
  accepts (sweep bound slice) p = sweeps (BoundOf (view_of d) bound) (bound_of d bound) slice (bound_is d o bound) (p.held 12)

  -- ---- a refused call leaves the slice

  short_stays : (bound : ℕ) (slice : List ℕ) → passes (slice_long d bound slice ∷ []) ≡ false
      → handed_back d.timestamps d.tickets d.held (leaving d bound) slice ≡ slice
  unfolding passes handed_back
  short_stays bound slice e =
      bool_cases (leb (count (leaving d bound)) (length slice)) (λ q. absurd (true_not_false {b = true} refl (rw q at e))) (λ q. rw q)

  stays : (call : Call) → passes (checks d call) ≡ false → slice_after d call ≡ slice_of call
  unfolding checks slice_after
  stays (by thread deed) e = refl
  stays (sweep bound slice) e = short_stays (bound_of d bound) slice e

pub desk_does : DeskDoes
desk_does d r call fits =
    let o = every_desk_in_order d r in
    does d call (agree d o call) (accepts d o call) (stays d o call)
