-- Every call is answered: each refusal can be decided, and where none is the case there is an outcome that the call leads to. Assumes nothing.
use Rattle.rules.proofs.Basis.{◌≡◌, ◌≢◌, ◌∙◌, refl, ap, subst, false, Bool-discrete, List, [], ◌∷◌, ◌⊎◌, inl, inr, ⊎_elim, Dec·not, Dec·not-not, Option, none, some, Option_discrete, ℕ, ◌<◌, dec_lt, dec_le}
use Rattle.rules.proofs.Basis.{ℕ_discrete, map_dec, arith, length, Unseen, Open, Which, Earliest, Latest, Named, Channel, NewThread, AttachInput, AttachOutput, Detach, End, Set, Put, Get, Consume, ConsumeUntil, Bound, Weak}
use Rattle.rules.proofs.Basis.{Strong, Call, by, sweep, slice_of}
use Rattle.calls.specs.Questions.{Question, ask_visible_time, ask_weak_bound, ask_strong_bound, ask_state_of, ask_items_present}
use Rattle.rules.specs.Claims.{EveryCallAnswered, EveryQuestionAnswered, ViewInOrder}
use Rattle.rules.specs.Rules.{never, channel_places, connection_places, item_places, thread_places, everything, View, owner, output_to, input_from, state_on, VisibleTime, Item, Listed, Refusal, NamesNever, FreeThread, FreeChannel, FreeConnection, TakesUnseen, slice_short, Outcome}
use Rattle.rules.specs.Rules.{Lowest, rule, Refuses, NoneOf, Does, BoundOf, asked_of, Says}
use Rattle.rules.proofs.Clear.{Clear, cleared}
use Rattle.rules.proofs.Accounts.{items_are_listed}
use Rattle.rules.proofs.Bounds.{bound_is_there}
use Rattle.rules.proofs.Gettable.{is_unused}
use Rattle.rules.proofs.Laws.{some_one, not_none, state_is, some_is, search_below, search_last, smallest_one, option_cases, not-below}
use Rattle.rules.proofs.One.{nothing_more, ◌&◌, Every, below_one}
use Rattle.rules.proofs.OneList.{listed_one}
use Rattle.rules.proofs.Order.{every_view_in_order}
use Rattle.rules.proofs.Stock.{low_items}
use Rattle.rules.proofs.Ways as Ways
use Rattle.rules.proofs.Ways.{waiting, takes_fits}

-- ---- the refusals are decided

abbrev Settles : Refusal → Type 0
Settles r = Dec r.Case

abbrev Verdict : List Refusal → Type 0
Verdict rs = ((code value time : ℕ) × Refuses rs code value time) ⊎ NoneOf rs

verdict : (rs : List Refusal) → Every Settles rs → Verdict rs
verdict [] nothing_more = inr tt
verdict (r ∷ rs) (first & later) = go first (verdict rs later)
  where
    go : Settles r → Verdict rs → Verdict (r ∷ rs)
    go (yes case) rest = inl (r.code, r.value case, r.time case, inl (case, refl, refl, refl))
    go (no clear) (inl (code, value, time, x)) = inl (code, value, time, inr (clear, x))
    go (no clear) (inr rest) = inr (clear, rest)

is_none : (o : Option ℕ) → Dec (o ≡ none)
is_none o = Option_discrete ℕ_discrete o none

-- a table with a free place, or none
free_is : (places : ℕ) (Free : ℕ → Type 0) → ((n : ℕ) → Dec (Free n)) → Dec ((number : ℕ) → number < places → Free number → ⊥)
free_is places Free decide = ⊎_elim (λ (m, inside, low). no (λ full. full m inside low.0)) yes (search_below Free decide places)

lowest_free_lem : (places : ℕ) (Free : ℕ → Type 0) → ((n : ℕ) → Dec (Free n)) → (((number : ℕ) → number < places → Free number → ⊥) → ⊥) → (number : ℕ) × Lowest Free number
lowest_free_lem places Free decide clear = ⊎_elim (λ (m, inside, low). (m, low)) (λ lacks. absurd (clear lacks)) (search_below Free decide places)

module _ (v : View) (o : ViewInOrder v) (items : List Item) (those : Listed v everything items) where
  early_is : (thread time : ℕ) → Dec ((visible : ℕ) × VisibleTime v thread visible × (time < visible))
  early_is thread time =
      let (visible, is) = Ways.visible_time_lem v o thread in
      map_dec (λ below. (visible, is, below)) (λ (other, is', below). omega (arith, smallest_one is is')) (dec_lt time visible)

  taken_is : (connection timestamp : ℕ) → Dec ((channel ticket : ℕ) × (output_to (v.connection connection) ≡ some channel) × (v.item channel timestamp ≡ some ticket))
  taken_is connection timestamp = option_cases (output_to (v.connection connection)) (λ e. no (λ (c, t, into, here). not_none into e))
      (λ channel e. option_cases (v.item channel timestamp)
      (λ gone. no (λ (c, t, into, here). not_none here (ap (λ (x : ℕ). v.item x timestamp) (some_one into e) ∙ gone)))
      (λ ticket here. yes (channel, ticket, e, here)))

  full_is : Dec ((all : List Item) × Listed v everything all × (length all ≡ item_places))
  full_is = map_dec (λ full. (items, those, full)) (λ (all, is, full). ap length (listed_one those is) ∙ full) (ℕ_discrete (length items) item_places)

  abbrev Unseens : ℕ → ℕ → Type 0
  Unseens connection timestamp = state_on (v.connection connection) timestamp ≡ Unseen

  unseen_early : (connection timestamp : ℕ) → Unseens connection timestamp → timestamp < never
  unseen_early connection timestamp unseen =
      let w = waiting v o connection timestamp (inl unseen) in
      (o.items w.channel timestamp w.ticket w.there).1

  takes_is : (connection : ℕ) (which : Which) → Dec ((timestamp : ℕ) × TakesUnseen v connection which timestamp)
  takes_is connection Earliest = ⊎_elim
      (λ (m, inside, low). yes (m, (low.0, λ other q. not-below (λ under. low.1 other under q))))
      (λ lacks. no (λ (t, q). lacks t (unseen_early connection t q.0) q.0))
      (search_below (Unseens connection) (λ t. state_is Unseen (state_on (v.connection connection) t)) never)
  takes_is connection Latest = ⊎_elim
      (λ (m, p, most). yes (m, (p, λ other q. most other (unseen_early connection other q) q)))
      (λ lacks. no (λ (t, q). lacks t (unseen_early connection t q.0) q.0))
      (search_last (Unseens connection) (λ t. state_is Unseen (state_on (v.connection connection) t)) never)
  takes_is connection (Named name) =
      map_dec (λ q. (name, (q, refl))) (λ (t, q). subst (Unseens connection) q.1 q.0) (state_is Unseen (state_on (v.connection connection) name))

  lacks_is : (connection : ℕ) (which : Which) → Dec ((timestamp : ℕ) → TakesUnseen v connection which timestamp → ⊥)
  lacks_is connection which = map_dec (λ lacks t q. lacks (t, q)) (λ lacks (t, q). lacks t q) (Dec·not (takes_is connection which))

  named_is : (which : Which) → Dec (NamesNever which)
  named_is Earliest = no (λ q. q)
  named_is Latest = no (λ q. q)
  named_is (Named name) = dec_le never name

  short_settles : (bound : Bound) (slice : List ℕ) → Settles (slice_short v (BoundOf v bound) slice)
  short_settles bound slice =
      let (time, low, is, listed) = low_items v o items those bound in
      map_dec (λ short. (time, low, is, listed, short))
      (λ (time', low', is', listed', short). omega (arith, ap length (below_one v bound time time' low low' is is' listed listed').1)) (dec_lt (length slice) (length low))

  -- the places of the three tables
  threads_is : (n : ℕ) → Dec (FreeThread v n)
  threads_is n = is_none (v.thread n)

  channels_is : (n : ℕ) → Dec (FreeChannel v n)
  channels_is n = Bool-discrete (v.channel n) false

  connections_is : (n : ℕ) → Dec (FreeConnection v n)
  connections_is n = is_unused (v.connection n)

  own_is : (thread connection : ℕ) → Dec (owner (v.connection connection) ≢ some thread)
  own_is thread connection = Dec·not (some_is thread (owner (v.connection connection)))

  open_is : (connection timestamp : ℕ) → Dec (state_on (v.connection connection) timestamp ≢ Open)
  open_is connection timestamp = Dec·not (state_is Open (state_on (v.connection connection) timestamp))

  -- how each refusal is decided; one that compares numbers needs no word here
  ruleset decisions = (◌&◌, nothing_more, is_none, Bool-discrete, dec_le, dec_lt, ℕ_discrete, free_is, threads_is, channels_is, connections_is, own_is, early_is, taken_is, full_is, named_is, lacks_is, open_is)

  settles : (call : Call) → Every Settles (rule v call).refusals
  settles (by thread Channel) = search decisions depth 12
  settles (by thread (NewThread time)) = search decisions depth 12
  settles (by thread (AttachInput channel)) = search decisions depth 12
  settles (by thread (AttachOutput channel)) = search decisions depth 12
  settles (by thread (Detach connection)) = search decisions depth 12
  settles (by thread End) = search decisions depth 12
  settles (by thread (Set time)) = search decisions depth 12
  settles (by thread (Put connection timestamp ticket)) = search decisions depth 12
  settles (by thread (Get connection which)) = search decisions depth 12
  settles (by thread (Consume connection timestamp)) = search decisions depth 12
  settles (by thread (ConsumeUntil connection timestamp)) = search decisions depth 12
  settles (sweep bound slice) = short_settles bound slice & nothing_more

  -- ---- and where none is the case the call is accepted

  accepts : (call : Call) → Clear v call → (out : Outcome) × (rule v call).Accepts out
  accepts (by thread Channel) clear =
      let (number, low) = lowest_free_lem channel_places (FreeChannel v) (λ n. Bool-discrete (v.channel n) false) (clear 9) in
      (_, (number, low, refl))
  accepts (by thread (NewThread time)) clear =
      let (number, low) = lowest_free_lem thread_places (FreeThread v) (λ n. is_none (v.thread n)) (clear 9) in
      (_, (number, low, refl))
  accepts (by thread (AttachInput channel)) clear =
      let (number, low) = lowest_free_lem connection_places (FreeConnection v) (λ n. is_unused (v.connection n)) (clear 9) in
      let (visible, is) = Ways.visible_time_lem v o thread in
      (_, (number, visible, low, is, refl))
  accepts (by thread (AttachOutput channel)) clear =
      let (number, low) = lowest_free_lem connection_places (FreeConnection v) (λ n. is_unused (v.connection n)) (clear 9) in
      (_, (number, low, refl))
  accepts (by thread (Detach connection)) clear = (_, refl)
  accepts (by thread End) clear = (_, refl)
  accepts (by thread (Set time)) clear = (_, refl)
  accepts (by thread (Put connection timestamp ticket)) clear =
      option_cases (output_to (v.connection connection)) (λ e. absurd (clear 4 e)) (λ channel e. (_, (channel, e, refl)))
  accepts (by thread (Get connection which)) clear =
      let (timestamp, takes) = (Dec·not-not (takes_is connection which)).0 (λ lacks. clear 10 (λ t q. lacks (t, q))) in
      let w = waiting v o connection timestamp (inl (takes_fits which _ timestamp takes)) in
      (_, (w.channel, timestamp, w.ticket, ap input_from w.is, takes, w.there, refl))
  accepts (by thread (Consume connection timestamp)) clear = (_, refl)
  accepts (by thread (ConsumeUntil connection timestamp)) clear = (_, refl)
  accepts (sweep bound slice) clear = let (time, low, is, listed) = low_items v o items those bound in (_, (time, low, is, listed, refl))

  answered : (call : Call) → Verdict (rule v call).refusals → (out : Outcome) × Does v call out
  answered call (inl (code, value, time, x)) = (record { code = code; value = value; time = time; view = v; slice = slice_of call }, inl (x, refl, refl))
  answered call (inr free) = let (out, is) = accepts call (cleared v call free) in (out, inr (free, is))

  -- ---- and so is a question

  question_settles : (question : Question) → Every Settles (asked_of v question).refusals
  question_settles (ask_visible_time thread) = search decisions
  question_settles ask_weak_bound = nothing_more
  question_settles ask_strong_bound = nothing_more
  question_settles (ask_state_of connection timestamp) = search decisions depth 12
  question_settles ask_items_present = nothing_more

  tells : (question : Question) → (value time : ℕ) × (asked_of v question).Tells value time
  tells (ask_visible_time thread) = let (visible, is) = Ways.visible_time_lem v o thread in (0, visible, (refl, is))
  tells ask_weak_bound = let (time, is) = bound_is_there v o Weak in (0, time, (refl, is))
  tells ask_strong_bound = let (time, is) = bound_is_there v o Strong in (0, time, (refl, is))
  tells (ask_state_of connection timestamp) = (_, 0, (refl, refl))
  tells ask_items_present = (length items, 0, (items, those, refl, refl))

  says : (question : Question) → Verdict (asked_of v question).refusals → (code value time : ℕ) × Says v question code value time
  says question (inl (code, value, time, x)) = (code, value, time, inl x)
  says question (inr clear) = let (value, time, is) = tells question in (0, value, time, inr (clear, refl, is))

pub every_question_answered : EveryQuestionAnswered
every_question_answered v run question =
    let (items, those, fits) = items_are_listed v run in
    let o = every_view_in_order v run in
    says v o items those question (verdict (asked_of v question).refusals (question_settles v o items those question))

pub every_call_answered : EveryCallAnswered
every_call_answered v run call =
    let (items, those, fits) = items_are_listed v run in
    let o = every_view_in_order v run in
    answered v o items those call (verdict (rule v call).refusals (settles v o items those call))
