-- A call changes a view in one of six ways, of which none takes an item, perhaps after items leave; so a law of all calls is a law of these, and has six
-- cases and one. Assumes nothing.
use Rattle.rules.proofs.Basis.{◌≡◌, refl, sym, subst, Bool, true, false, inl, inr, ⊎_elim, Dec·and, Dec·not-not, Dec·of-iff, none, some, Option·some-injective, Option·none-ne-some, ℕ, suc, ◌≤◌, ◌<◌, arith, le_refl}
use Rattle.rules.proofs.Basis.{lt_of_not-le, ltb-true, State, Unseen, Open, Consumed, Which, Earliest, Latest, Named, Deed, Channel, NewThread, AttachInput, AttachOutput, Detach, End, Set, Put, Get, Consume, ConsumeUntil}
use Rattle.rules.proofs.Basis.{Bound, Weak, Strong, Call, by, sweep, Ticket, Passable, state_number}
use Rattle.rules.specs.Claims.{Living, ViewInOrder}
use Rattle.rules.specs.Rules.{never, channel_places, connection_places, thread_places, Pairs, below, Connection, unused, output, input, View, with_thread, with_channel, with_connection, owner, output_to, KeepTime, state_on, IsTime, VisibleTime, BoundOf, Takes, Outcome, Lowest}
use Rattle.rules.specs.Rules.{with_item, ended, left, raised_to, deed_row, rule, Does, seen_as}
use Rattle.rules.proofs.Clear.{Clear, cleared}
use Rattle.rules.proofs.Connections.{Turned, Allowed, Waits, ConnectionFitsIn, Turn, absent_done, reads, turned-freed, writes, turned-seen_as, turned-noticing, turned-raised, sees_first, seen_there, fits_seen_as}
use Rattle.rules.proofs.Connections.{seen_above, fits_raised, freed, alike, opens, consumes}
use Rattle.rules.proofs.Laws.{smallest_above, not-below, option_cases, smallest, at_elim, either, some_is, exists_below, state_is, smallest_one}

-- ---- what is not refused

-- the lowest free number is inside its table, where 9 does not refuse
free_inside : {Free : ℕ → Type 0} {number : ℕ} (places : ℕ) → Lowest Free number → (((n : ℕ) → n < places → Free n → ⊥) → ⊥) → number < places
free_inside places low clear = lt_of_not-le (λ past. clear (λ n below free. low.1 n (omega arith) free))

lives : (v : View) (thread : ℕ) → (v.thread thread ≡ none → ⊥) → Living v.thread thread
lives v thread clear = option_cases (v.thread thread) (λ e. absurd (clear e)) (λ time e. (time, e))

is_there : (b : Bool) → (b ≡ false → ⊥) → b ≡ true
is_there true clear = refl
is_there false clear = absurd (clear refl)

-- where 7 does not refuse, the pair is free
pub untaken : (v : View) (connection channel timestamp : ℕ) → (((c ticket : ℕ) × (output_to (v.connection connection) ≡ some c) × (v.item c timestamp ≡ some ticket)) → ⊥)
    → output_to (v.connection connection) ≡ some channel → v.item channel timestamp ≡ none
untaken v connection channel timestamp clear into = option_cases (v.item channel timestamp) (λ q. q) (λ was here. absurd (clear (channel, was, into, here)))

-- ---- a connection of a view in order

-- an owned one is inside its table, and its owner lives
pub owned_fits : (v : View) (k thread : ℕ) (c : Connection) → ConnectionFitsIn v k c → owner c ≡ some thread → (k < connection_places) × Living v.thread thread
owned_fits v k thread unused f is = absurd (Option·none-ne-some thread is)
owned_fits v k thread (output t c) f is = (f.0, subst (Living v.thread) (Option·some-injective t thread is) f.1)
owned_fits v k thread (input t c m s) f is = (f.0, subst (Living v.thread) (Option·some-injective t thread is) f.1)

written_exists : (v : View) (k channel : ℕ) (c : Connection) → ConnectionFitsIn v k c → output_to c ≡ some channel → v.channel channel ≡ true
written_exists v k channel unused f is = absurd (Option·none-ne-some channel is)
written_exists v k channel (output t c) f is = subst (λ (n : ℕ). v.channel n ≡ true) (Option·some-injective c channel is) f.2
written_exists v k channel (input t c m s) f is = absurd (Option·none-ne-some channel is)

-- one on which a timestamp waits
pub record Waiting (v : View) (connection timestamp : ℕ) : Type 0 where
  pub inside : connection < connection_places
  pub thread : ℕ
  pub living : Living v.thread thread
  pub channel : ℕ
  pub mark : ℕ
  pub seen : ℕ → State
  pub is : v.connection connection ≡ input thread channel mark seen
  pub late : mark ≤ timestamp
  pub ticket : ℕ
  pub there : v.item channel timestamp ≡ some ticket

pub waiting : (v : View) → ViewInOrder v → (k timestamp : ℕ) → Waits (state_on (v.connection k) timestamp) → Waiting v k timestamp
waiting v o k timestamp w = go (v.connection k) refl (o.connections k) w
  where
    go : (c : Connection) → v.connection k ≡ c → ConnectionFitsIn v k c → Waits (state_on c timestamp) → Waiting v k timestamp
    go unused e f w = absurd (absent_done w)
    go (output t c) e f w = absurd (absent_done w)
    go (input t c m s) e f w =
        let (ticket, there) = seen_there (v.item c) m s f.4 timestamp w in
        let late = seen_above (v.item c) m s f.4 timestamp w in
        record { inside = f.0; thread = t; living = f.1; channel = c; mark = m; seen = s; is = e; late = late; ticket = ticket; there = there }

-- ---- visible time

pub visible_time_lem : (v : View) → ViewInOrder v → (thread : ℕ) → (visible : ℕ) × VisibleTime v thread visible
visible_time_lem v o thread = smallest _ (λ time. either (some_is time (v.thread thread)) (Dec·of-iff (λ (k, p). (k, p.0, p.1), λ (k, p, q). (k, (p, q)))
    (exists_below (λ k. (owner (v.connection k) ≡ some thread) × (state_on (v.connection k) time ≡ Open))
    (λ k. Dec·and (some_is thread (owner (v.connection k))) (state_is Open (state_on (v.connection k) time))) connection_places
    (λ k p. (owned_fits v k thread (v.connection k) (o.connections k) p.0).0))))

-- where 6 does not refuse, a visible time allows the time
pub allowed : (v : View) → ViewInOrder v → (thread time : ℕ) → (((visible : ℕ) × VisibleTime v thread visible × (time < visible)) → ⊥) → Allowed v time
allowed v o thread time clear = let (visible, is) = visible_time_lem v o thread in (thread, visible, is, not-below (λ early. clear (visible, is, early)))

-- ---- a time is at most every virtual time, and at most all that a bound is taken of besides

abbrev pub Pending : Bound → Connection → ℕ → Type 0
Pending Weak c time = KeepTime c time
Pending Strong c time = Waits (state_on c time)

pub record AtLeast (bound : Bound) (least : ℕ) (v : View) : Type 0 where
  pub top : least ≤ never
  pub times : (time : ℕ) → IsTime v time → least ≤ time
  pub pending : (connection time : ℕ) → Pending bound (v.connection connection) time → least ≤ time

-- so is each bound, and it is the greatest such time
pub bound_at_least : {v : View} {least : ℕ} (bound : Bound) → BoundOf v bound least → AtLeast bound least v
bound_at_least Weak is = record { top = is.at_most_never; times = λ t q. is.at_most_each t (inl q); pending = λ k t q. is.at_most_each t (inr (k, q)) }
bound_at_least Strong is = record { top = is.at_most_never; times = λ t q. is.at_most_each t (inl q); pending = λ k t q. is.at_most_each t (inr (k, q)) }

pub at_least_bound : {v : View} {least now : ℕ} (bound : Bound) → AtLeast bound least v → BoundOf v bound now → least ≤ now
at_least_bound Weak a is = smallest_above is a.top (λ t. ⊎_elim (a.times t) (λ (k, q). a.pending k t q))
at_least_bound Strong a is = smallest_above is a.top (λ t. ⊎_elim (a.times t) (λ (k, q). a.pending k t q))

-- so is a smaller time
pub at_least_smaller : {bound : Bound} {least smaller : ℕ} {v : View} → smaller ≤ least → AtLeast bound least v → AtLeast bound smaller v
at_least_smaller small a = record { top = omega (arith, a.top); times = λ t q. omega (arith, a.times t q); pending = λ k t q. omega (arith, a.pending k t q) }

-- there is one
pub bound_one : (v : View) (bound : Bound) (a b : ℕ) → BoundOf v bound a → BoundOf v bound b → a ≡ b
bound_one v Weak a b = smallest_one
bound_one v Strong a b = smallest_one

-- what waits is not below its mark
pub at_least_waits : {v : View} {least : ℕ} → ViewInOrder v → (bound : Bound) → AtLeast bound least v → AtLeast Strong least v
at_least_waits o Strong a = a
at_least_waits {v} o Weak a = record { top = a.top; times = a.times; pending = λ k t q. (let w = waiting v o k t q in omega (arith, w.late, a.pending k w.mark (rw w.is))) }

pub at_least_allowed : {v : View} {least : ℕ} → AtLeast Strong least v → (time : ℕ) → Allowed v time → least ≤ time
at_least_allowed {v} {least} a time (thread, visible, is, late) =
    let low : least ≤ visible = smallest_above is a.top (λ t. ⊎_elim (λ q. a.times t (thread, q)) (λ (k, own, opened). a.pending k t (inr opened))) in
    omega arith

pub takes_fits : (which : Which) (Fits : ℕ → Type 0) (timestamp : ℕ) → Takes which Fits timestamp → Fits timestamp
takes_fits Earliest Fits timestamp takes = takes.0
takes_fits Latest Fits timestamp takes = takes.0
takes_fits (Named name) Fits timestamp takes = takes.0

-- ---- the six ways

pub data Kind (v : View) : View → Type 0 where
  makes : (number : ℕ) → number < channel_places → Kind v (with_channel v number)
  sets : (number time : ℕ) → number < thread_places → time ≤ never → Allowed v time → Kind v (with_thread v number (some time))
  changes : (number : ℕ) (new : Connection) → ConnectionFitsIn v number new → Turned v (v.connection number) new → Kind v (with_connection v number new)
  ends : (thread : ℕ) → Kind v (ended v thread)
  stocks : (channel timestamp ticket : ℕ) → v.channel channel ≡ true → timestamp < never → Ticket ticket → Allowed v timestamp → v.item channel timestamp ≡ none
      → Kind v (with_item v channel timestamp ticket)
  raises : (bound : ℕ) → bound ≤ never → Kind v (raised_to v bound)

-- items of these pairs may leave: the time of each is past for good
abbrev pub MayLeave : View → Pairs → Type 0
MayLeave v gone = (channel timestamp : ℕ) → gone channel timestamp ≡ true → AtLeast Strong (suc timestamp) v

-- how a call leads from a view to the next: not at all, by one way, or items leave before
pub data Leads : View → View → Type 0 where
  rests : {v : View} → Leads v v
  by_way : {v w : View} → Kind v w → Leads v w
  leaving : {v w : View} (gone : Pairs) → MayLeave v gone → Leads (left v gone) w → Leads v w

module _ (v : View) (o : ViewInOrder v) where
  abbrev Goal : Outcome → Type 0
  Goal out = Kind v out.view

  attach_kind : (number : ℕ) (c : Connection) → v.connection number ≡ unused → ConnectionFitsIn v number c → Turned v unused c → Kind v (with_connection v number c)
  attach_kind number c free fits turned = changes number c fits (subst (λ (x : Connection). Turned v x c) (sym free) turned)

  sees_kind : (number timestamp : ℕ) (state : State) → 0 < state_number state → Waits (state_on (v.connection number) timestamp)
      → Turn v timestamp (state_on (v.connection number) timestamp) state → Kind v (with_connection v number (seen_as state timestamp (v.connection number)))
  sees_kind number timestamp state there waits turn =
      changes number _ (fits_seen_as v number state timestamp there (v.connection number) waits (o.connections number)) (turned-seen_as v state timestamp (v.connection number) turn)

  pub deed_kind : (thread : ℕ) (deed : Deed) → Passable (by thread deed) → Clear v (by thread deed) → (out : Outcome) → (deed_row v thread deed).Accepts out → Goal out
  deed_kind thread Channel fits clear out (number, low, e) = subst Goal (sym e) (makes number (free_inside channel_places low (clear 9)))
  deed_kind thread (NewThread time) fits clear out (number, low, e) =
      subst Goal (sym e) (sets number time (free_inside thread_places low (clear 9)) (omega (arith, fits.1)) (allowed v o thread time (clear 6)))
  deed_kind thread (AttachInput channel) fits clear out (number, visible, low, is, e) = subst Goal (sym e) (attach_kind number _ low.0
      (free_inside connection_places low (clear 9), lives v thread (clear 1), is_there (v.channel channel) (clear 2), is.at_most_never, sees_first (v.item channel) visible)
      (reads thread channel visible (thread, visible, is, le_refl visible)))
  deed_kind thread (AttachOutput channel) fits clear out (number, low, e) = subst Goal (sym e) (attach_kind number _ low.0
      (free_inside connection_places low (clear 9), lives v thread (clear 1), is_there (v.channel channel) (clear 2)) (writes thread channel))
  deed_kind thread (Detach connection) fits clear out e = subst Goal (sym e) (changes connection unused tt (freed (v.connection connection)))
  deed_kind thread End fits clear out e = subst Goal (sym e) (ends thread)
  deed_kind thread (Set time) fits clear out e =
      let (was, is) = lives v thread (clear 1) in
      subst Goal (sym e) (sets thread time (o.threads thread was is).0 (omega (arith, fits.1)) (allowed v o thread time (clear 6)))
  deed_kind thread (Put connection timestamp ticket) fits clear out (channel, into, e) = subst Goal (sym e) (stocks channel timestamp ticket
      (written_exists v connection channel (v.connection connection) (o.connections connection) into)
      (lt_of_not-le (clear 5)) fits.1.2 (allowed v o thread timestamp (clear 6))
      (untaken v connection channel timestamp (clear 7) into))
  deed_kind thread (Get connection which) fits clear out (channel, timestamp, ticket, from, takes, there, e) =
      let unseen : state_on (v.connection connection) timestamp ≡ Unseen = takes_fits which _ timestamp takes in
      subst Goal (sym e) (sees_kind connection timestamp Open (omega arith) (inl unseen) (rw unseen opens))
  deed_kind thread (Consume connection timestamp) fits clear out e =
      let is_open_lem = (Dec·not-not (state_is Open (state_on (v.connection connection) timestamp))).0 (clear 11) in
      subst Goal (sym e) (sees_kind connection timestamp Consumed (omega arith) (inr is_open_lem) (consumes _))
  deed_kind thread (ConsumeUntil connection timestamp) fits clear out e = subst Goal (sym e) (changes connection _
      (fits_raised v connection (suc timestamp) (lt_of_not-le (clear 5)) (v.connection connection) (o.connections connection))
      (turned-raised v (suc timestamp) (v.connection connection)))

  accepted_leads : (call : Call) → Passable call → Clear v call → (out : Outcome) → (rule v call).Accepts out → Leads v out.view
  accepted_leads (by thread deed) fits clear out accepts = by_way (deed_kind thread deed fits clear out accepts)
  accepted_leads (sweep bound slice) fits clear out (time, items, is, those, e) =
      let a = at_least_waits o bound (bound_at_least bound is) in
      subst (λ (x : Outcome). Leads v x.view) (sym e)
      (leaving (below time) (λ c t gone. at_least_smaller (ltb-true t time gone) a) (by_way (raises time a.top)))

  pub does_leads : (call : Call) → Passable call → (out : Outcome) → Does v call out → Leads v out.view
  does_leads call fits out (inl (refused, view, lent)) = subst (Leads v) (sym view) rests
  does_leads call fits out (inr (free, accepts)) = accepted_leads call fits (cleared v call free) out accepts

-- in every one of them each connection changes as a connection may
pub kind_turned : (v w : View) → Kind v w → (k : ℕ) → Turned v (v.connection k) (w.connection k)
kind_turned v w (makes number inside) k = alike (v.connection k)
kind_turned v w (sets number time inside top may) k = alike (v.connection k)
kind_turned v w (changes number new fits turned) k = at_elim (Turned v (v.connection k)) v.connection number new k
    (λ e. subst (λ (n : ℕ). Turned v (v.connection n) new) (sym e) turned) (λ ne. alike (v.connection k))
kind_turned v w (ends thread) k = turned-freed v thread (v.connection k)
kind_turned v w (stocks channel timestamp ticket exists early carried may lacks) k = turned-noticing v channel timestamp may (v.connection k)
kind_turned v w (raises bound top) k = turned-raised v bound (v.connection k)
