-- Visible time and the two bounds of the desk are those of its view: the times over which they are taken are the same ones. Assumes nothing.
use Rattle.obeys.proofs.Basis.{◌∙◌, ◌≡◌, ap, subst, sym, Bool, ◌&&◌, true, ◌⊎◌, ⊎_elim, some, ◌<◌, ◌≤◌, ℕ, arith, has, is_open, is_pending, Bound, Strong, Weak, State, Open, Unseen, Row, is_open_at, is_pending_at, state, state_at}
use Rattle.obeys.proofs.Basis.{least_awaited, least_keep, least_open, least_time, open_time, pending_time, smallest, bound_of, strong_bound, visible_time, weak_bound, Desk, connection_at, inputs_of, is_input, is_living, leads_to, owned_by, owns}
use Rattle.obeys.proofs.Basis.{time_of, timestamp_at, connection_places, item_places, thread_places, never, BoundOf, Connection, IsTime, KeepTime, Smallest, StrongBound, VisibleTime, WeakBound, owner, state_on, DeskInOrder, view_of}
use Rattle.obeys.proofs.Basis.{is_open_lem, is_pending_lem, and_left, both_left, both_right, in_both, in_use_lem, in_use-has, used_inside, seen_at, at_seen}
use Rattle.obeys.proofs.Lookup.{by_input, input_view, lives_view, owned_view, pending_reads, state_view, view_lives, view_owned}
use Rattle.obeys.proofs.Smallest.{smallest_of}
use Rattle.rules.proofs.Laws.{smallest_as, smallest-either, smallest_single}

module _ (d : Desk) (o : DeskInOrder d) where
  abbrev row : ℕ → Row
  row connection = connection_at d connection

  -- ---- virtual times

  time_is : Smallest (IsTime (view_of d)) (least_time d.living d.times)
  unfolding least_time
  time_is =
      smallest_as
      (λ time (thread, inside, lives, is). (thread, lives_view d thread (in_use_lem d.living thread thread_places inside lives) ∙ ap some is))
      (λ time (thread, seen). (let (lives, is) = view_lives d thread time seen in
      (thread, used_inside d.living lives, in_use-has d.living thread thread_places lives, is)))
      (smallest_of (has d.living) (time_of d) (λ t time. time_of d t ≡ time) (λ t lives. smallest_single (o.threads.top t)) thread_places)

  -- ---- the timestamps that are so on some input connections

  reads : (connection : ℕ) → has d.inputs connection ≡ true → is_input d connection ≡ true
  reads connection there = in_use_lem d.inputs connection connection_places (o.connections.inputs connection there) there

  -- such as UNSEEN or OPEN ones
  module _ (test : State → Bool) (pending : (s : State) → test s ≡ true → is_pending s ≡ true) where
    -- in the places of one connection
    abbrev least_on : ℕ → ℕ
    least_on k = smallest item_places (λ place. has (row k).items place && test (state_at d.timestamps (row k) place)) (timestamp_at d)

    on_one : (k : ℕ) → Smallest (λ time. test (state d.timestamps (row k) time) ≡ true) (least_on k)
    on_one k =
        smallest_as
        (λ time (place, inside, passes, is). seen_at d.timestamps (row k) test (o.items.one_item_a_pair (leads_to d k)) place time inside passes is)
        (λ time passes. at_seen d.timestamps (row k) test time (pending _ passes) passes)
        (smallest_of _ (timestamp_at d) (λ place time. timestamp_at d place ≡ time)
        (λ place passes. smallest_single (top place (and_left _ _ passes))) item_places)
      where
        top : (place : ℕ) → has (row k).items place ≡ true → timestamp_at d place ≤ never
        top place there = let below : timestamp_at d place < never = o.items.stamped place (o.items.lies.within (leads_to d k) place there) in omega arith

    on_some : (readers : ℕ) → ((k : ℕ) → has readers k ≡ true → is_input d k ≡ true)
        → Smallest (λ time. (k : ℕ) × (has readers k ≡ true) × (test (state_on ((view_of d).connection k) time) ≡ true))
        (smallest connection_places (has readers) least_on)
    on_some readers inputs =
        smallest_as
        (λ time (k, inside, there, passes). (k, there, ap test (state_view d k time (inputs k there)) ∙ passes))
        (λ time (k, there, passes). (k, used_inside d.inputs (inputs k there), there, ap test (sym (state_view d k time (inputs k there))) ∙ passes))
        (smallest_of (has readers) least_on _ (λ k there. on_one k) connection_places)

  -- ---- visible time

  open_is : (thread : ℕ)
      → Smallest (λ time. (k : ℕ) × (owner ((view_of d).connection k) ≡ some thread) × (state_on ((view_of d).connection k) time ≡ Open))
      (least_open (inputs_of d thread) (connection_at d) d.timestamps)
  unfolding least_open open_time is_open_at
  open_is thread =
      smallest_as
      (λ time (k, its, opened). (k, owned_view d o k thread (own k its), is_open_lem _ opened))
      (λ time (k, owned, opened). (k, reads_for k (pending_reads d k time (ap is_pending opened)) (view_owned d o k thread owned), ap is_open opened))
      (on_some is_open (λ s e. ap is_pending (is_open_lem s e)) (inputs_of d thread) (λ k its. reads k (both_left d.inputs (owned_by d thread) k its)))
    where
      -- an input connection of the thread
      own : (k : ℕ) → has (inputs_of d thread) k ≡ true → owns d thread k ≡ true
      own k its =
          in_use_lem (owned_by d thread) k connection_places (used_inside d.inputs (reads k (both_left d.inputs (owned_by d thread) k its)))
          (both_right d.inputs (owned_by d thread) k its)

      reads_for : (k : ℕ) → is_input d k ≡ true → owns d thread k ≡ true → has (inputs_of d thread) k ≡ true
      reads_for k input owned =
          let inside : k < connection_places = used_inside d.inputs input in
          in_both d.inputs (owned_by d thread) k (omega arith) (in_use-has d.inputs k connection_places input)
          (in_use-has (owned_by d thread) k connection_places owned)

  pub visible : (thread : ℕ) → is_living d thread ≡ true → VisibleTime (view_of d) thread (visible_time d thread)
  unfolding visible_time
  visible thread lives =
      smallest-either
      (smallest_as (λ time is. lives_view d thread lives ∙ ap some is) (λ time seen. (view_lives d thread time seen).1) (smallest_single (o.threads.top thread)))
      (open_is thread)

  -- ---- the weak bound

  keep_is : Smallest (λ time. (k : ℕ) × KeepTime ((view_of d).connection k) time) (least_keep d.inputs (λ k. (row k).mark))
  unfolding least_keep
  keep_is =
      smallest_as
      (λ time (k, inside, there, is). (k, subst (λ (c : Connection). KeepTime c time) (sym (input_view d k (reads k there))) (sym is)))
      (λ time (k, keeps). (let at : (c : Connection) → (view_of d).connection k ≡ c → KeepTime c time = λ c e. subst (λ (c : Connection). KeepTime c time) e keeps in
      by_input d k
      (λ input. (k, used_inside d.inputs input, in_use-has d.inputs k connection_places input, sym (at _ (input_view d k input))))
      (⊎_elim (λ e. absurd (at _ e)) (λ e. absurd (at _ e)))))
      (smallest_of (has d.inputs) (λ k. (row k).mark) (λ k time. (row k).mark ≡ time) (λ k there. smallest_single (o.seen k there).mark) connection_places)

  pub weak : WeakBound (view_of d) (weak_bound d)
  unfolding weak_bound
  weak = smallest-either time_is keep_is

  -- ---- the strong bound

  awaited_is : Smallest (λ time. (k : ℕ) × ((state_on ((view_of d).connection k) time ≡ Unseen) ⊎ (state_on ((view_of d).connection k) time ≡ Open)))
      (least_awaited d.inputs (connection_at d) d.timestamps)
  unfolding least_awaited pending_time is_pending_at
  awaited_is =
      smallest_as
      (λ time (k, there, pending). (k, is_pending_lem _ pending))
      (λ time (k, waits). (let pending : is_pending (state_on ((view_of d).connection k) time) ≡ true = ⊎_elim (λ e. ap is_pending e) (λ e. ap is_pending e) waits in
      (k, in_use-has d.inputs k connection_places (pending_reads d k time pending), pending)))
      (on_some is_pending (λ s e. e) d.inputs reads)

  pub strong : StrongBound (view_of d) (strong_bound d)
  unfolding strong_bound
  strong = smallest-either time_is awaited_is

  pub bound_is : (bound : Bound) → BoundOf (view_of d) bound (bound_of d bound)
  bound_is Weak = weak
  bound_is Strong = strong
