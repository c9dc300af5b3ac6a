-- Every reached desk is in order: a start is, as its columns are all zeros and its words have one thread alone, and each effect keeps it so. Assumes
-- nothing.
pub mod Threads
pub mod Connections
pub mod Items
pub mod Desks
pub mod Seen
use Rattle.obeys.proofs.Basis.{false, false≢true, true, ◌≡◌, refl, ◌+◌, ◌<◌, ◌≤◌, ℕ, dec_lt, arith, leb-true, ltb-true, has, either, with, either_right}
use Rattle.obeys.proofs.Basis.{has_none, has_from, fewer_free, true_not_false, and_left, and_right, Call, Passable, by, sweep, Bound, Strong, Weak}
use Rattle.obeys.proofs.Basis.{AttachInput, AttachOutput, Channel, Consume, ConsumeUntil, Detach, End, Get, NewThread, Put, Set, Which, is_open_lem}
use Rattle.obeys.proofs.Basis.{is_unseen_lem, is_found, place_found, never, Found, open_fact, unseen_facts, number_at, connection_places, OptionOf, Some, None, found_at}
use Rattle.obeys.proofs.Basis.{channel_places, item_places, thread_places, is_unseen_at, state, least_time, at-zeros, sought-found, shared_none, tidy_zeros}
use Rattle.obeys.proofs.Basis.{in_use-has, used_inside, becomes_open, checks, effect, bound_of, sought_by, fresh, connection_at, is_input, is_output, leads_to}
use Rattle.obeys.proofs.Basis.{owned_by, strong_bound, visible_time, weak_bound, Desk, Passed, DeskInOrder, EveryDeskInOrder}
use Rattle.words.proofs.Changes.{either_none, one_place}
use Rattle.tables.proofs.Least.{smallest_top}
use Rattle.obeys.specs.Reached.{DeskStart, fresh_desk}
use Rattle.obeys.proofs.Reached.{reached_keeps, step_keeps}
use Rattle.obeys.proofs.Order.Desks.{adopted_in_order, attached_in_order, channel_in_order, ended_in_order, freed_in_order, stored_in_order}
use Rattle.obeys.proofs.Order.Desks.{swept_in_order, time_in_order}
use Rattle.obeys.proofs.Order.Seen.{becomes_open_in_order, consumed_by_name_in_order, raised_mark_in_order}

-- ---- the fresh desk

-- thread 0 alone lives, and nothing else is used
one_lives : (thread : ℕ) → has 1 thread ≡ true → thread < thread_places
one_lives thread lives =
    elim (dec_lt thread thread_places) [ yes below ↦ below | no past ↦ absurd (true_not_false lives (has_from 1 1 thread (omega arith) (omega arith))) ]

nothing : (place : ℕ) → has 0 place ≡ true → ⊥
nothing place used = true_not_false used (has_none place)

nothing_held : (channel place : ℕ) → has (number_at channel_places fresh.held channel) place ≡ true → ⊥
unfolding fresh
nothing_held channel place there = nothing place ((shared_none channel_places).within channel place there)

fresh_in_order : DeskInOrder fresh
unfolding fresh
fresh_in_order = record {
  threads = record {
    living = one_lives;
    times = tidy_zeros thread_places 1;
    owned = tidy_zeros thread_places 1;
    top = λ thread. rw (at-zeros thread_places thread_places thread) (omega arith);
  };
  connections = record {
    outputs = λ connection used. absurd (nothing connection used);
    inputs = λ connection used. absurd (nothing connection used);
    apart = λ connection used. absurd (nothing connection used);
    owned = rw either_none (shared_none thread_places);
    leads = tidy_zeros connection_places (either 0 0);
    led = λ connection used. absurd (nothing connection (rw either_none at used));
    marks = tidy_zeros connection_places 0;
    opened = tidy_zeros connection_places 0;
    consumed = tidy_zeros connection_places 0;
  };
  items = record {
    channels = λ channel used. absurd (nothing channel used);
    present = λ place used. absurd (nothing place used);
    held = tidy_zeros channel_places 0;
    lies = shared_none channel_places;
    timestamps = tidy_zeros item_places 0;
    tickets = tidy_zeros item_places 0;
    stamped = λ place used. absurd (nothing place used);
    one_item_a_pair = λ channel place other there. absurd (nothing_held channel place there);
  };
  seen = λ connection used. absurd (nothing connection used);
}

starts_in_order : (d : Desk) → DeskStart d → DeskInOrder d
starts_in_order d fresh_desk = fresh_in_order

-- ---- the effects

module _ (d : Desk) (o : DeskInOrder d) where
  visible_top : (thread : ℕ) → visible_time d thread ≤ never
  unfolding visible_time
  visible_top thread = omega (arith, o.threads.top thread)

  least_top : least_time d.living d.times ≤ never
  unfolding least_time
  least_top = smallest_top thread_places (has d.living) (number_at thread_places d.times)

  bound_top : (bound : Bound) → bound_of d bound ≤ never
  unfolding weak_bound strong_bound
  bound_top Weak = omega (arith, least_top)
  bound_top Strong = omega (arith, least_top)

  -- a get opens what it found
  found_in_order : (connection : ℕ) → is_input d connection ≡ true → (which : Which) (found : OptionOf Found)
      → sought_by d connection which ≡ found → is_found found ≡ true → DeskInOrder (becomes_open d connection (place_found found))
  unfolding is_unseen_at
  found_in_order connection reads which (Some item) search found =
      let place : ℕ = item.place in
      let timestamp : ℕ = item.timestamp in
      let row = connection_at d connection in
      let unseen = (sought-found d.timestamps row which place timestamp search).unseen in
      becomes_open_in_order o connection reads place (and_left _ _ unseen)
      (unseen_facts row _ place (is_unseen_lem _ (and_right (has row.items place) _ unseen))).1
  found_in_order connection reads which None search found = absurd (false≢true found)

  -- an output leads to a channel that there is
  output_leads : (connection : ℕ) → is_output d connection ≡ true → has d.channels (leads_to d connection) ≡ true
  output_leads connection writes =
      let below : connection < connection_places = used_inside d.outputs writes in
      o.connections.led connection
      (either_right d.inputs d.outputs connection (omega arith) (in_use-has d.outputs connection connection_places writes))

  in_order_effect : (call : Call) → Passable call → Passed d call → DeskInOrder (effect d call)
  unfolding checks effect state
  in_order_effect (by thread Channel) fits p = channel_in_order o (ltb-true _ _ (p.held 9))
  in_order_effect (by thread (NewThread time)) fits p = adopted_in_order o (ltb-true _ _ (p.held 9)) time (omega arith)
  in_order_effect (by thread (AttachInput channel)) fits p =
      attached_in_order o thread (p.held 1) (ltb-true _ _ (p.held 9)) channel (p.held 2) true (visible_time d thread) (visible_top thread)
      (λ writes. absurd (true_not_false refl writes))
  in_order_effect (by thread (AttachOutput channel)) fits p =
      attached_in_order o thread (p.held 1) (ltb-true _ _ (p.held 9)) channel (p.held 2) false 0 (omega arith) (λ writes. refl)
  in_order_effect (by thread (Detach connection)) fits p =
      freed_in_order o thread (p.held 1) (with 0 connection)
      (λ other there. rw (one_place connection other there) (in_use-has (owned_by d thread) connection connection_places (p.held 3)))
  in_order_effect (by thread End) fits p = ended_in_order o thread (p.held 1)
  in_order_effect (by thread (Set time)) fits p = time_in_order o thread (p.held 1) time (omega arith)
  in_order_effect (by thread (Put connection timestamp ticket)) fits p =
      stored_in_order o (fewer_free d.present (ltb-true _ _ (p.held 8))) (leads_to d connection) (output_leads connection (p.held 4)) timestamp ticket
      (ltb-true timestamp never (p.held 5)) (leb-true _ _ (p.held 7))
  in_order_effect (by thread (Get connection which)) fits p =
      found_in_order connection (p.held 4) which (sought_by d connection which) refl (p.held 10)
  in_order_effect (by thread (Consume connection timestamp)) fits p =
      consumed_by_name_in_order o connection (p.held 4) _ (open_fact (connection_at d connection) timestamp _ (is_open_lem _ (p.held 11)))
  in_order_effect (by thread (ConsumeUntil connection timestamp)) fits p =
      raised_mark_in_order o connection (p.held 4) (timestamp + 1) (omega (arith, ltb-true timestamp never (p.held 5)))
  in_order_effect (sweep bound slice) fits p = swept_in_order o (bound_of d bound) (bound_top bound)

pub every_desk_in_order : EveryDeskInOrder
every_desk_in_order = reached_keeps DeskInOrder starts_in_order (λ d call o fits. step_keeps DeskInOrder d call o (in_order_effect d o call fits))
