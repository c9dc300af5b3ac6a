-- The checks of each call agree with the refusals that the view names: check by check, what the columns say is what the view says. Assumes nothing.
use Rattle.obeys.proofs.Basis.{◌∙◌, ◌≡◌, ap, refl, subst, sym, false, true, Option·none-ne-some, Option·some-injective, List, ◌<◌, ◌≤◌, ℕ, arith, ltb, length, leb-false, leb-true}
use Rattle.obeys.proofs.Basis.{ltb-false, ltb-true, count, has, lowest_free, word_places, count_le, free_below, free_lacks, Call, by, sweep, is_open, Strong, Weak, AttachInput, AttachOutput, Channel, Consume, ConsumeUntil, Detach, End}
use Rattle.obeys.proofs.Basis.{Get, NewThread, Put, Set, State, Which, Earliest, Latest, Named, never, Found, is_found, true_not_false, place_of, state, in_use, channel_places, connection_places, item_places, thread_places, OptionOf, Some, None}
use Rattle.obeys.proofs.Basis.{attached, connection_at, is_input, is_living, is_output, items_in, leads_to, used_below, leaving, channel_exists, checks, connection_owned, connection_reads, connection_writes, item_fits, item_found, item_open}
use Rattle.obeys.proofs.Basis.{place_free, slice_long, sought_by, thread_lives, time_visible, timestamp_absent, which_given, strong_bound, visible_time, weak_bound, Desk, FreeChannel, FreeConnection, FreeThread, Listed, Lowest}
use Rattle.obeys.proofs.Basis.{desk_full, input_from, named_never, no_channel, no_input, no_output, no_thread, not_its_own, not_open, nothing_unseen, output_to, rule, slice_short, state_on, table_full, taken, too_early}
use Rattle.obeys.proofs.Basis.{DeskInOrder, view_of, needs, refusal, refuse, TakesUnseen, is_open_lem, in_use_lem, found-holds}
use Rattle.rules.specs.Rules as Rules
use Rattle.rules.proofs.OneList.{listed_one}
use Rattle.obeys.proofs.Bounds.{visible, weak, strong}
use Rattle.obeys.proofs.Found.{takes, takes_none}
use Rattle.obeys.proofs.Listed.{below, listed, present, present_listed}
use Rattle.obeys.proofs.Lookup.{lives_view, dead_view, unused_view, used_not_free, owned_view, view_owned, input_view, no_input_view, output_view, no_output_view, state_view, item_view, no_item_view}
use Rattle.obeys.proofs.Frame.{Matches, Agree, plain, check}
use Rattle.rules.proofs.Laws.{smallest_one}

-- ---- free places

-- what a table's word says of the numbers that are free in the view
pub record Frees (w places : ℕ) (Free : ℕ → Type 0) : Type 0 where
  pub fits : places ≤ word_places
  pub unused : (n : ℕ) → in_use w n places ≡ false → Free n
  pub used : (n : ℕ) → in_use w n places ≡ true → Free n → ⊥

pub threads_free : (d : Desk) → Frees d.living thread_places (FreeThread (view_of d))
threads_free d = record { fits = omega arith; unused = dead_view d; used = λ n lives free. Option·none-ne-some _ (sym free ∙ lives_view d n lives) }

pub channels_free : (d : Desk) → Frees d.channels channel_places (FreeChannel (view_of d))
unfolding view_of
channels_free d = record { fits = omega arith; unused = λ n free. free; used = λ n there. true_not_false there }

pub connections_free : (d : Desk) → Frees (attached d) connection_places (FreeConnection (view_of d))
connections_free d = record { fits = omega arith; unused = unused_view d; used = used_not_free d }

module _ {w places : ℕ} {Free : ℕ → Type 0} (f : Frees w places Free) where
  lowest_is : ltb (lowest_free w) places ≡ true → Free (lowest_free w)
  lowest_is free =
      let below : lowest_free w < places = ltb-true (lowest_free w) places free in
      f.unused (lowest_free w) (used_below w below ∙ free_lacks w (omega (arith, f.fits)))

  pub lowest_free_lem : ltb (lowest_free w) places ≡ true → Lowest Free (lowest_free w)
  lowest_free_lem free = (
    lowest_is free,
    λ lower below. f.used lower (in_use_lem w lower places (omega (arith, ltb-true (lowest_free w) places free)) (free_below w below)),
  )

  agree_free : Matches (place_free (lowest_free w) places) (table_full places Free)
  agree_free =
      plain _ 9 _
      (λ e n below. f.used n (in_use_lem w n places below (free_below w (omega (arith, ltb-false (lowest_free w) places e)))))
      (λ e case. case (lowest_free w) (ltb-true (lowest_free w) places e) (lowest_is e))

module _ (d : Desk) (o : DeskInOrder d) where
  -- ---- check by check

  not_found : (found : OptionOf Found) → is_found found ≡ false → found ≡ None
  not_found (Some item) e = absurd (true_not_false {b = true} refl e)
  not_found None e = refl

  pub agree_thread : (thread : ℕ) → Matches (thread_lives d thread) (no_thread (view_of d) thread)
  agree_thread thread = plain _ 1 _ (dead_view d thread) (λ e gone. Option·none-ne-some _ (sym gone ∙ lives_view d thread e))

  agree_channel : (channel : ℕ) → Matches (channel_exists d channel) (no_channel (view_of d) channel)
  unfolding view_of
  agree_channel channel = plain _ 2 _ (λ e. e) (λ e gone. true_not_false e gone)

  agree_owned : (thread connection : ℕ) → Matches (connection_owned d thread connection) (not_its_own (view_of d) thread connection)
  agree_owned thread connection =
      plain _ 3 _ (λ e own. true_not_false (view_owned d o connection thread own) e) (λ e case. case (owned_view d o connection thread e))

  agree_output : (connection : ℕ) → Matches (connection_writes d connection) (no_output (view_of d) connection)
  agree_output connection =
      plain _ 4 _ (no_output_view d connection) (λ e case. Option·none-ne-some _ (sym case ∙ ap output_to (output_view d o connection e)))

  pub agree_input : (connection : ℕ) → Matches (connection_reads d connection) (no_input (view_of d) connection)
  agree_input connection =
      plain _ 4 _ (no_input_view d connection) (λ e case. Option·none-ne-some _ (sym case ∙ ap input_from (input_view d connection e)))

  -- 5 is one of these
  pub agree_below : (code number bound : ℕ) → Matches (needs (ltb number bound) (refusal code)) (refuse code (bound ≤ number))
  agree_below code number bound = plain _ code _ (ltb-false number bound) (λ e past. omega (arith, ltb-true number bound e))

  agree_which : (which : Which) → Matches (which_given which) (named_never which)
  agree_which Earliest = plain true 5 _ (λ e. absurd (true_not_false {b = true} refl e)) (λ e none. none)
  agree_which Latest = plain true 5 _ (λ e. absurd (true_not_false {b = true} refl e)) (λ e none. none)
  agree_which (Named timestamp) = agree_below 5 timestamp never

  agree_visible : (thread time : ℕ) → is_living d thread ≡ true → Matches (time_visible d thread time) (too_early (view_of d) thread time)
  agree_visible thread time lives =
      plain _ 6 _
      (λ e. (visible_time d thread, visible d o thread lives, leb-false (visible_time d thread) time e))
      (λ e (bound, is, below). omega (arith, leb-true (visible_time d thread) time e, smallest_one is (visible d o thread lives)))

  agree_absent : (connection timestamp : ℕ) → is_output d connection ≡ true
      → Matches (timestamp_absent d connection timestamp) (taken (view_of d) connection timestamp)
  agree_absent connection timestamp goes =
      let channel : ℕ = leads_to d connection in
      let writes = ap output_to (output_view d o connection goes) in
      let place : ℕ = place_of d.timestamps (items_in d channel) timestamp in
      plain _ 7 _
      (λ e. (channel, _, writes, item_view d o channel (found-holds d.timestamps (items_in d channel) timestamp (leb-false item_places place e))))
      (λ e (to, ticket, into, there).
      let same : channel ≡ to = Option·some-injective channel to (sym writes ∙ into) in
      Option·none-ne-some ticket (sym (no_item_view d channel timestamp (leb-true item_places place e)) ∙ rw same there))

  agree_fits : Matches (item_fits d) (desk_full (view_of d))
  unfolding count
  agree_fits =
      plain _ 8 _
      (λ e. let many : item_places ≤ count d.present = ltb-false (count d.present) item_places e in
      let most : count d.present ≤ item_places = count_le (has d.present) item_places in
      ((present d o).items, present_listed d o, omega (arith, (present d o).counts)))
      (λ e (items, those, full). let same : length items ≡ length (present d o).items = ap length (listed_one those (present_listed d o)) in
      omega (arith, (present d o).counts, ltb-true (count d.present) item_places e))

  agree_found : (connection : ℕ) (which : Which) → is_input d connection ≡ true
      → Matches (item_found d connection which) (nothing_unseen (view_of d) connection which)
  agree_found connection which reads =
      plain _ 10 _
      (λ e. takes_none d o connection reads which (not_found (sought_by d connection which) e))
      (λ e case. go (sought_by d connection which) refl e case)
    where
      go : (found : OptionOf Found) → sought_by d connection which ≡ found → is_found found ≡ true
          → ((timestamp : ℕ) → TakesUnseen (view_of d) connection which timestamp → ⊥) → ⊥
      go (Some item) e found case = case item.timestamp (takes d o connection reads which item.place item.timestamp e)
      go None e found case = true_not_false found refl

  agree_open : (connection timestamp : ℕ) → is_input d connection ≡ true
      → Matches (item_open d connection timestamp) (not_open (view_of d) connection timestamp)
  agree_open connection timestamp reads =
      let s : State = state d.timestamps (connection_at d connection) timestamp in
      let on : state_on ((view_of d).connection connection) timestamp ≡ s = state_view d connection timestamp reads in
      plain _ 11 _
      (λ e is. true_not_false (ap is_open (sym on ∙ is)) e)
      (λ e case. case (on ∙ is_open_lem s e))

  -- 12 answers the number
  agree_slice : (Bound : ℕ → Type 0) (bound : ℕ) (slice : List ℕ) → Bound bound → ((b : ℕ) → Bound b → b ≡ bound)
      → Matches (slice_long d bound slice) (slice_short (view_of d) Bound slice)
  agree_slice Bound bound slice is one = record {
    code = refl;
    fails = λ e. (
      (bound, (below d o bound).items, is, listed d o bound, omega (arith, (below d o bound).counts, leb-false (count (leaving d bound)) (length slice) e)),
      sym (below d o bound).counts,
      refl,
    );
    holds = λ e (b, items, is_b, those, short).
        let its : Listed (view_of d) (Rules.below bound) items = subst (λ (x : ℕ). Listed (view_of d) (Rules.below x) items) (one b is_b) those in
        let same : length items ≡ length (below d o bound).items = ap length (listed_one its (listed d o bound)) in
        omega (arith, (below d o bound).counts, leb-true (count (leaving d bound)) (length slice) e);
  }

  -- how each check agrees with its refusal, where those before it hold; one that compares two numbers needs no word here
  ruleset agreements = (check, agree_below, agree_thread, agree_channel, agree_owned, agree_output, agree_input, agree_which, agree_visible, agree_absent, agree_fits, agree_found, agree_open, agree_free, threads_free, channels_free, connections_free)

  pub agree : (call : Call) → Agree (checks d call) (rule (view_of d) call).refusals
  unfolding checks
  agree (by thread Channel) = search agreements depth 16
  agree (by thread (NewThread time)) = search agreements depth 16
  agree (by thread (AttachInput channel)) = search agreements depth 16
  agree (by thread (AttachOutput channel)) = search agreements depth 16
  agree (by thread (Detach connection)) = search agreements depth 16
  agree (by thread End) = search agreements depth 16
  agree (by thread (Set time)) = search agreements depth 16
  agree (by thread (Put connection timestamp ticket)) = search agreements depth 16
  agree (by thread (Get connection which)) = search agreements depth 16
  agree (by thread (Consume connection timestamp)) = search agreements depth 16
  agree (by thread (ConsumeUntil connection timestamp)) = search agreements depth 16
  agree (sweep Weak slice) = check (agree_slice _ (weak_bound d) slice (weak d o) (λ b is. smallest_one is (weak d o))) (λ _. tt)
  agree (sweep Strong slice) = check (agree_slice _ (strong_bound d) slice (strong d o) (λ b is. smallest_one is (strong d o))) (λ _. tt)
