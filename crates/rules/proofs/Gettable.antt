-- What could be got: nothing below the strong bound, for no call lowers it; and all else, by a thread whose visible time is low. Assumes nothing.
use Rattle.rules.proofs.Basis.{◌≡◌, ◌∙◌, refl, sym, ap, subst, false, [], ◌⊎◌, inl, inr, ⊎_elim, by_cases, some, Option·none-ne-some, ℕ, ◌≤◌, ◌<◌, ℕ_discrete, arith, le-ltb, Unseen, Open, Which, Named, Strong}
use Rattle.rules.proofs.Basis.{Call, get, attach_input, detach, is_sweep, Passable}
use Rattle.rules.specs.Claims.{Living, ViewInOrder, GetsWhatIsPresent}
use Rattle.rules.specs.Rules.{connection_places, Connection, unused, output, input, View, with_connection, owner, input_from, state_on, seen_as, first_seen, VisibleTime, StrongBound, Item, IsPresent, FreeConnection, Outcome, done, Lowest, rule}
use Rattle.rules.specs.Rules.{NoneOf, at, Does, TakesUnseen}
use Rattle.rules.specs.Runs.{Further, CouldBeGot, Run}
use Rattle.rules.proofs.Bounds.{at_least_calls}
use Rattle.rules.proofs.Connections.{Waits}
use Rattle.rules.proofs.Laws.{at_other, not_none, not-false, not_late, Found, some_one, at_same, search_below}
use Rattle.rules.proofs.One.{accepted}
use Rattle.rules.proofs.Order.{does_in_order}
use Rattle.rules.proofs.Ways.{Waiting, visible_time_lem, owned_fits, waiting, AtLeast, takes_fits}

-- ---- what is below the strong bound is never got again

further_calls : {v w : View} → Further v w → Run v w
further_calls Further.stop = Run.stop
further_calls (Further.next call out fits quiet does ok rest) = Run.next call out fits does (further_calls rest)

got_above : {bound : ℕ} {v : View} → AtLeast Strong bound v → (thread connection : ℕ) (which : Which) (out : Outcome) → Does v (get thread connection which) out → out.code ≡ 0
    → bound ≤ out.time
got_above {bound} {v} a thread connection which out does ok =
    let (channel, timestamp, ticket, from, takes, there, e) = (accepted v (get thread connection which) out does ok).1 in
    omega (arith, ap (λ (x : Outcome). x.time) e, a.pending connection timestamp (inl (takes_fits which _ timestamp takes)))

pub gets_what_is_present : GetsWhatIsPresent
gets_what_is_present v thread connection which out does ok =
    let (channel, timestamp, ticket, from, takes, there, e) = (accepted v (get thread connection which) out does ok).1 in
    (channel, from, subst (λ (x : Outcome). v.item channel x.time ≡ some x.value) (sym e) there)

pub lost : {bound : ℕ} {v : View} → ViewInOrder v → AtLeast Strong bound v → (item : Item) → item.timestamp < bound → CouldBeGot v item → ⊥
lost {bound} {v} o a item below g =
    omega (arith, g.timestamp, got_above (at_least_calls Strong (further_calls g.run) o a) g.thread g.connection g.which g.outcome g.does g.accepted)

-- ---- what is not below it is got, from a start by accepted calls other than sweeps

-- a view in order to which a start leads by accepted calls other than sweeps
record Led (start v : View) : Type 0 where
  on : (later : View) → Further v later → Further start later
  order : ViewInOrder v

-- a call that is accepted with this outcome, with numbers that a program can pass
abbrev Ready : View → Call → Outcome → Type 0
Ready v call out = Passable call × NoneOf (rule v call).refusals × (rule v call).Accepts out

-- what shows that a refusal is not the case, beside what is known: no word here goes by a place in the row
ruleset not_so = (not_none, not-false, not_late)

led_on : {start v : View} → Led start v → (call : Call) → is_sweep call ≡ false → (out : Outcome) → out.code ≡ 0 → Ready v call out → Led start out.view
led_on {start} {v} led call quiet out ok (fits, clear, accepts) = record {
  on = λ later run. led.on later (Further.next call out fits quiet (inr (clear, accepts)) ok run);
  order = does_in_order v led.order call fits out (inr (clear, accepts));
}

-- ---- an UNSEEN item is got by its name

abbrev got_outcome : View → ℕ → ℕ → ℕ → Outcome
got_outcome v k timestamp ticket = done ticket timestamp (with_connection v k (seen_as Open timestamp (v.connection k))) []

get_ready : (v : View) → ViewInOrder v → (k timestamp : ℕ) → state_on (v.connection k) timestamp ≡ Unseen → (w : Waiting v k timestamp)
    → Ready v (get w.thread k (Named timestamp)) (got_outcome v k timestamp w.ticket)
get_ready v o k timestamp unseen w =
    let (time, lives) = w.living in
    let small = (o.threads w.thread time lives).0 in
    let early = (o.items w.channel timestamp w.ticket w.there).1 in
    let near = w.inside in
    let from = ap input_from w.is in
    let own = ap owner w.is in
    let takes : TakesUnseen v k (Named timestamp) timestamp = (unseen, refl) in (
      (omega arith, (omega arith, omega arith)),
      search not_so,
      (w.channel, timestamp, w.ticket, from, takes, w.there, refl),
    )

get_now : {start v : View} → Led start v → (item : Item) → IsPresent v item → (k : ℕ) → state_on (v.connection k) item.timestamp ≡ Unseen
    → (w : Waiting v k item.timestamp) → w.channel ≡ item.channel → CouldBeGot start item
get_now {start} {v} led item here k unseen w same =
    let (fits, clear, accepts) = get_ready v led.order k item.timestamp unseen w in
    record {
      later = v;
      run = led.on v Further.stop;
      thread = w.thread;
      connection = k;
      which = Named item.timestamp;
      outcome = got_outcome v k item.timestamp w.ticket;
      passable = fits;
      does = inr (clear, accepts);
      accepted = refl;
      channel = ap input_from w.is ∙ ap some same;
      timestamp = refl;
      ticket = some_one w.there (ap (λ (c : ℕ). v.item c item.timestamp) same ∙ here);
    }

-- ---- with a free place for a connection, the thread attaches to the item's channel and gets the item by its name

attach_then_get : {start v : View} → Led start v → (item : Item) → IsPresent v item → (thread : ℕ) → Living v.thread thread
    → (number visible : ℕ) → number < connection_places → Lowest (FreeConnection v) number → VisibleTime v thread visible → visible ≤ item.timestamp → CouldBeGot start item
attach_then_get {start} {v} led item here thread (time, lives) number visible inside low is early =
    let c : ℕ = item.channel in
    let new : Connection = input thread c visible (first_seen (v.item c) visible) in
    let small = (led.order.threads thread time lives).0 in
    let exists = (led.order.items c item.timestamp item.ticket here).0 in
    let near = led.order.channels c exists in
    let ready : Ready v (attach_input thread c) (done number visible (with_connection v number new) []) = (
      (omega arith, omega arith),
      search not_so,
      (number, visible, low, is, refl),
    ) in
    let row : (with_connection v number new).connection number ≡ new = at_same v.connection number new in
    let first : first_seen (v.item c) visible item.timestamp ≡ Unseen = rw (le-ltb item.timestamp visible early, here) in
    get_now (led_on led (attach_input thread c) refl (done number visible (with_connection v number new) []) refl ready) item here number
    (ap (λ (x : Connection). state_on x item.timestamp) row ∙ first)
    (record { inside = inside; thread = thread; living = (time, lives); channel = c; mark = visible; seen = first_seen (v.item c) visible; is = row; late = early; ticket = item.ticket; there = here }) refl

-- ---- a thread whose visible time is low

-- a time of which the thread's visible time is the smallest
abbrev Shows : View → ℕ → ℕ → Type 0
Shows v thread time = (v.thread thread ≡ some time) ⊎ ((k : ℕ) × (owner (v.connection k) ≡ some thread) × (state_on (v.connection k) time ≡ Open))

pub is_unused : (c : Connection) → Dec (c ≡ unused)
is_unused unused = yes refl
is_unused (output t c) = no (λ e. Option·none-ne-some t (sym (ap owner e)))
is_unused (input t c m s) = no (λ e. Option·none-ne-some t (sym (ap owner e)))

is_owned : (c : Connection) → (c ≡ unused → ⊥) → (thread : ℕ) × (owner c ≡ some thread)
is_owned unused used = absurd (used refl)
is_owned (output t c) used = (t, refl)
is_owned (input t c m s) used = (t, refl)

-- a connection without which it shows the same time
spare_place : (v : View) (thread time : ℕ) → Shows v thread time → (spare : ℕ) × (spare < connection_places) × Shows (with_connection v spare unused) thread time
spare_place v thread time (inl is) = (0, omega arith, inl is)
spare_place v thread time (inr (k, own, opened)) = by_cases (ℕ_discrete k 0) (λ first. without 1 (omega arith) (λ e. omega arith)) (λ other. without 0 (omega arith) other)
  where
    without : (spare : ℕ) → spare < connection_places → (k ≡ spare → ⊥) → (n : ℕ) × (n < connection_places) × Shows (with_connection v n unused) thread time
    without spare inside other =
        let same : (with_connection v spare unused).connection k ≡ v.connection k = at_other v.connection spare unused k other in
        (spare, inside, inr (k, ap owner same ∙ own, ap (λ (c : Connection). state_on c time) same ∙ opened))

-- it attaches where a place is free, and else after the detach of a spare connection
module _ (start : View) (item : Item) (thread time : ℕ) (early : time ≤ item.timestamp) where
  attaches : (v : View) → Led start v → IsPresent v item → Living v.thread thread → Shows v thread time → (number : ℕ) → number < connection_places → Lowest (FreeConnection v) number → CouldBeGot start item
  attaches v led here living shows number inside free =
      let (visible, is) = visible_time_lem v led.order thread in
      attach_then_get led item here thread living number visible inside free is (omega (arith, is.at_most_each time shows))

  low_gets : (v : View) → Led start v → IsPresent v item → Living v.thread thread → Shows v thread time → CouldBeGot start item
  low_gets v led here living shows = go (search_below (FreeConnection v) (λ k. is_unused (v.connection k)) connection_places)
    where
      go : Found (FreeConnection v) connection_places → CouldBeGot start item
      go (inl (number, inside, free)) = attaches v led here living shows number inside free
      go (inr full) =
          let (spare, inside, still) = spare_place v thread time shows in
          let (its, own) = is_owned (v.connection spare) (full spare inside) in
          let (was, lives) = (owned_fits v spare its (v.connection spare) (led.order.connections spare) own).1 in
          let small = (led.order.threads its was lives).0 in
          let w : View = with_connection v spare unused in
          let ready : Ready v (detach its spare) (done 0 0 w []) = ((omega arith, omega arith), search not_so, refl) in
          let led' = led_on led (detach its spare) refl (done 0 0 w []) refl ready in
          ⊎_elim (λ (number, near, free). attaches w led' here living still number near free) (λ none_free. absurd (none_free spare inside (at_same v.connection spare unused)))
          (search_below (FreeConnection w) (λ k. is_unused (w.connection k)) connection_places)

-- ---- an UNSEEN item is got, and so its owner's visible time is low

waiting_gets : (v : View) → ViewInOrder v → (item : Item) → IsPresent v item → (k time : ℕ) → Waits (state_on (v.connection k) time) → time ≤ item.timestamp → CouldBeGot v item
waiting_gets v o item here k time (inr opened) early =
    let w = waiting v o k time (inr opened) in
    low_gets v item w.thread time early v (record { on = λ later run. run; order = o }) here w.living (inr (k, ap owner w.is, opened))
waiting_gets v o item here k time (inl unseen) early =
    let w = waiting v o k time (inl unseen) in
    let out : Outcome = got_outcome v k time w.ticket in
    let row : out.view.connection k ≡ input w.thread w.channel w.mark (at w.seen time Open) = at_same v.connection k (seen_as Open time (v.connection k)) ∙ ap (seen_as Open time) w.is in
    low_gets v item w.thread time early out.view (led_on (record { on = λ later run. run; order = o }) (get w.thread k (Named time)) refl out refl (get_ready v o k time unseen w)) here w.living
    (inr (k, ap owner row, ap (λ (c : Connection). state_on c time) row ∙ at_same w.seen time Open))

pub gettable : (v : View) → ViewInOrder v → (bound : ℕ) → StrongBound v bound → (item : Item) → IsPresent v item → bound ≤ item.timestamp → CouldBeGot v item
gettable v o bound is item here early =
    ⊎_elim
    (λ (t, lives). low_gets v item t bound early v (record { on = λ later run. run; order = o }) here (bound, lives) (inl lives))
    (λ (k, w). waiting_gets v o item here k bound w early)
    (is.attained (omega (arith, (o.items item.channel item.timestamp item.ticket here).1)))
