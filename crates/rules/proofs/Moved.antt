-- Each call moves a connection in one of eight ways, and each way names the calls that go it: so nothing but a get opens, nothing but a consume by name
-- consumes from the mark on, and a connection goes by a detach or its thread's end alone. Assumes nothing.
use Rattle.rules.proofs.Basis.{◌≡◌, ◌∙◌, refl, sym, ap, subst, cond, ◌⊎◌, inl, inr, Option, none, some, Dec·not-not, ℕ, suc, ◌≤◌, arith, eqb, eqb-true, State, Absent, Unseen, Open, Consumed, state_number, Which, Channel}
use Rattle.rules.proofs.Basis.{NewThread, AttachInput, AttachOutput, Detach, End, Set, Put, Get, Consume, ConsumeUntil, Call, by, sweep, get, consume, detach, end}
use Rattle.rules.specs.Claims.{OnlyGetsOpen, OnlyConsumesConsume, ConnectionsStay}
use Rattle.rules.specs.Rules.{Connection, unused, output, input, View, at, owner, output_to, input_from, KeepTime, state_on, if_input, seen_as, consumed_below, noticed, noticing, unseen_if, first_seen, freed_from, Outcome, rule}
use Rattle.rules.specs.Rules.{Does}
use Rattle.rules.proofs.Clear.{Clear, cleared}
use Rattle.rules.proofs.Laws.{cond_elim, at_elim, below_elim, some_is, some_one, not_none}
use Rattle.rules.proofs.Leaving.{swept_connection}

-- what a call, answered with this time, makes of the connection with this number
data Moved (call : Call) (time k : ℕ) : Connection → Connection → Type 0 where
  kept : (c : Connection) → Moved call time k c c
  reads_now : (thread channel mark : ℕ) (items : ℕ → Option ℕ) → Moved call time k unused (input thread channel mark (first_seen items mark))
  writes_now : (thread channel : ℕ) → Moved call time k unused (output thread channel)
  given_up : (thread : ℕ) (c : Connection) → owner c ≡ some thread → (call ≡ detach thread k) ⊎ (call ≡ end thread) → Moved call time k c unused
  opened : (thread : ℕ) (which : Which) (c : Connection) → call ≡ get thread k which → Moved call time k c (seen_as Open time c)
  consumed : (thread timestamp : ℕ) (c : Connection) → call ≡ consume thread k timestamp → Moved call time k c (seen_as Consumed timestamp c)
  raised : (bound : ℕ) (c : Connection) → Moved call time k c (consumed_below bound c)
  told : (channel timestamp : ℕ) (c : Connection) → Moved call time k c (noticing channel timestamp c)

-- an end gives up the thread's connections and no others
freed_moved : (call : Call) (time k thread : ℕ) → call ≡ end thread → (c : Connection) → Moved call time k c (freed_from thread c)
freed_moved call time k thread is unused = kept unused
freed_moved call time k thread is (output t c) = cond_elim (Moved call time k (output t c)) (eqb t thread) unused (output t c)
    (λ e. given_up thread (output t c) (ap some (eqb-true t thread e)) (inr is)) (λ e. kept (output t c))
freed_moved call time k thread is (input t c m s) = cond_elim (Moved call time k (input t c m s)) (eqb t thread) unused (input t c m s)
    (λ e. given_up thread (input t c m s) (ap some (eqb-true t thread e)) (inr is)) (λ e. kept (input t c m s))

module _ (v : View) (k : ℕ) where
  abbrev Goal : Call → Outcome → Type 0
  Goal call out = Moved call out.time k (v.connection k) (out.view.connection k)

  -- one connection moves, and the others stay
  one_moves : (call : Call) (time number : ℕ) (old new : Connection) → v.connection number ≡ old → Moved call time number old new
      → Moved call time k (v.connection k) (at v.connection number new k)
  one_moves call time number old new was here = at_elim (Moved call time k (v.connection k)) v.connection number new k
      (λ e. subst (λ (n : ℕ). Moved call time n (v.connection n) new) (sym e) (subst (λ (c : Connection). Moved call time number c new) (sym was) here)) (λ ne. kept (v.connection k))

  moves : (call : Call) → Clear v call → (out : Outcome) → (rule v call).Accepts out → Goal call out
  moves (by thread Channel) clear out (number, low, e) = subst (Goal (by thread Channel)) (sym e) (kept (v.connection k))
  moves (by thread (NewThread time)) clear out (number, low, e) = subst (Goal (by thread (NewThread time))) (sym e) (kept (v.connection k))
  moves (by thread (AttachInput channel)) clear out (number, visible, low, is, e) =
      subst (Goal (by thread (AttachInput channel))) (sym e) (one_moves _ visible number unused _ low.0 (reads_now thread channel visible (v.item channel)))
  moves (by thread (AttachOutput channel)) clear out (number, low, e) =
      subst (Goal (by thread (AttachOutput channel))) (sym e) (one_moves _ 0 number unused _ low.0 (writes_now thread channel))
  moves (by thread (Detach connection)) clear out e = subst (Goal (by thread (Detach connection))) (sym e) (one_moves _ 0 connection _ unused refl
      (given_up thread (v.connection connection) ((Dec·not-not (some_is thread (owner (v.connection connection)))).0 (clear 3)) (inl refl)))
  moves (by thread End) clear out e = subst (Goal (by thread End)) (sym e) (freed_moved (by thread End) 0 k thread refl (v.connection k))
  moves (by thread (Set time)) clear out e = subst (Goal (by thread (Set time))) (sym e) (kept (v.connection k))
  moves (by thread (Put connection timestamp ticket)) clear out (channel, into, e) =
      subst (Goal (by thread (Put connection timestamp ticket))) (sym e) (told channel timestamp (v.connection k))
  moves (by thread (Get connection which)) clear out (channel, timestamp, ticket, from, takes, there, e) =
      subst (Goal (by thread (Get connection which))) (sym e) (one_moves _ timestamp connection _ _ refl (opened thread which (v.connection connection) refl))
  moves (by thread (Consume connection timestamp)) clear out e =
      subst (Goal (by thread (Consume connection timestamp))) (sym e) (one_moves _ 0 connection _ _ refl (consumed thread timestamp (v.connection connection) refl))
  moves (by thread (ConsumeUntil connection timestamp)) clear out e =
      subst (Goal (by thread (ConsumeUntil connection timestamp))) (sym e) (one_moves _ 0 connection _ _ refl (raised (suc timestamp) (v.connection connection)))
  moves (sweep bound slice) clear out (time, items, is, those, e) = subst (Goal (sweep bound slice)) (sym e)
      (subst (Moved (sweep bound slice) time k (v.connection k)) (sym (swept_connection time (v.connection k))) (raised time (v.connection k)))

  moved : (call : Call) (out : Outcome) → Does v call out → Goal call out
  moved call out (inl (refused, view, lent)) = subst (λ (w : View). Moved call out.time k (v.connection k) (w.connection k)) (sym view) (kept (v.connection k))
  moved call out (inr (free, accepts)) = moves call (cleared v call free) out accepts

-- ---- what follows for each way

-- what changes inputs alone is looked at on inputs alone
if_input_lem : (P : Connection → Connection → Type 0) (change : ℕ → ℕ → ℕ → (ℕ → State) → Connection) → ((c : Connection) → P c c)
    → ((t c m : ℕ) (s : ℕ → State) → P (input t c m s) (change t c m s)) → (c : Connection) → P c (if_input change c)
if_input_lem P change same new unused = same unused
if_input_lem P change same new (output t c) = same (output t c)
if_input_lem P change same new (input t c m s) = new t c m s

unseen_number : (i : Option ℕ) (state : State) → unseen_if i ≡ state → 2 ≤ state_number state → ⊥
unseen_number none state e high = omega (arith, ap state_number e)
unseen_number (some ticket) state e high = omega (arith, ap state_number e)

noticed_back : (s state : State) → noticed s ≡ state → 2 ≤ state_number state → s ≡ state
noticed_back Absent state e high = absurd (omega (arith, ap state_number e))
noticed_back Unseen state e high = absurd (omega (arith, ap state_number e))
noticed_back Open state e high = e
noticed_back Consumed state e high = e

-- a state after an item came into a channel: the same, or noticed
told-state : (channel timestamp from : ℕ) (s : ℕ → State) {t : ℕ} (P : State → Type 0) → P (s t) → (t ≡ timestamp → P (noticed (s timestamp)))
    → P (cond (eqb from channel) (at s timestamp (noticed (s timestamp))) s t)
told-state channel timestamp from s {t} P same new =
    cond_elim (λ f. P (f t)) (eqb from channel) (at s timestamp (noticed (s timestamp))) s (λ e. at_elim P s timestamp (noticed (s timestamp)) t new (λ ne. same)) (λ e. same)

module _ (call : Call) (time k t : ℕ) where
  -- this call got it, or consumed it by name
  abbrev Gets : Type 0
  Gets = (thread : ℕ) × (which : Which) × (call ≡ get thread k which) × (time ≡ t)

  abbrev Consumes : Type 0
  Consumes = (thread : ℕ) × (call ≡ consume thread k t)

  moved_opens : (old new : Connection) → Moved call time k old new → state_on new t ≡ Open → (state_on old t ≡ Open) ⊎ Gets
  moved_opens old new (kept c) = λ q. inl q
  moved_opens old new (reads_now thread channel mark items) = below_elim (λ s. s ≡ Open → (Absent ≡ Open) ⊎ Gets) t mark Consumed (unseen_if (items t))
      (λ under e. absurd (omega (arith, ap state_number e))) (λ over e. absurd (unseen_number (items t) Open e (omega arith)))
  moved_opens old new (writes_now thread channel) = λ q. inl q
  moved_opens old new (given_up thread c own is) = λ q. absurd (omega (arith, ap state_number q))
  moved_opens old new (opened thread which c is) = if_input_lem (λ a b. state_on b t ≡ Open → (state_on a t ≡ Open) ⊎ Gets) _ (λ a q. inl q)
      (λ a b m s. at_elim (λ x. x ≡ Open → (s t ≡ Open) ⊎ Gets) s time Open t (λ e q. inr (thread, which, is, sym e)) (λ ne q. inl q)) c
  moved_opens old new (consumed thread timestamp c is) = if_input_lem (λ a b. state_on b t ≡ Open → (state_on a t ≡ Open) ⊎ Gets) _ (λ a q. inl q)
      (λ a b m s. at_elim (λ x. x ≡ Open → (s t ≡ Open) ⊎ Gets) s timestamp Consumed t (λ e q. absurd (omega (arith, ap state_number q))) (λ ne q. inl q)) c
  moved_opens old new (raised bound c) = if_input_lem (λ a b. state_on b t ≡ Open → (state_on a t ≡ Open) ⊎ Gets) _ (λ a q. inl q)
      (λ a b m s. below_elim (λ x. x ≡ Open → (s t ≡ Open) ⊎ Gets) t bound Consumed (s t) (λ under q. absurd (omega (arith, ap state_number q))) (λ over q. inl q)) c
  moved_opens old new (told channel timestamp c) = if_input_lem (λ a b. state_on b t ≡ Open → (state_on a t ≡ Open) ⊎ Gets) _ (λ a q. inl q)
      (λ a b m s. told-state channel timestamp b s (λ x. x ≡ Open → (s t ≡ Open) ⊎ Gets) (λ q. inl q) (λ e q. inl (ap s e ∙ noticed_back (s timestamp) Open q (omega arith)))) c

  abbrev Spends : Connection → Connection → Type 0
  Spends old new = (mark : ℕ) → KeepTime new mark → mark ≤ t → state_on new t ≡ Consumed → (state_on old t ≡ Consumed) ⊎ Consumes

  moved_consumes : (old new : Connection) → Moved call time k old new → Spends old new
  moved_consumes old new (kept c) = λ mark keeps over q. inl q
  moved_consumes old new (reads_now thread channel m items) = λ mark keeps over. below_elim (λ s. s ≡ Consumed → (Absent ≡ Consumed) ⊎ Consumes) t m Consumed (unseen_if (items t))
      (λ under e. absurd (omega arith)) (λ above e. absurd (unseen_number (items t) Consumed e (omega arith)))
  moved_consumes old new (writes_now thread channel) = λ mark keeps. absurd keeps
  moved_consumes old new (given_up thread c own is) = λ mark keeps. absurd keeps
  moved_consumes old new (opened thread which c is) = if_input_lem Spends _ (λ a mark keeps over q. inl q)
      (λ a b m s mark keeps over. at_elim (λ x. x ≡ Consumed → (s t ≡ Consumed) ⊎ Consumes) s time Open t (λ e q. absurd (omega (arith, ap state_number q))) (λ ne q. inl q)) c
  moved_consumes old new (consumed thread timestamp c is) = if_input_lem Spends _ (λ a mark keeps over q. inl q)
      (λ a b m s mark keeps over. at_elim (λ x. x ≡ Consumed → (s t ≡ Consumed) ⊎ Consumes) s timestamp Consumed t
      (λ e q. inr (thread, is ∙ ap (consume thread k) (sym e))) (λ ne q. inl q)) c
  moved_consumes old new (raised bound c) = if_input_lem Spends _ (λ a mark keeps over q. inl q)
      (λ a b m s mark keeps over. below_elim (λ x. x ≡ Consumed → (s t ≡ Consumed) ⊎ Consumes) t bound Consumed (s t) (λ under q. absurd (omega arith)) (λ above q. inl q)) c
  moved_consumes old new (told channel timestamp c) = if_input_lem Spends _ (λ a mark keeps over q. inl q)
      (λ a b m s mark keeps over. told-state channel timestamp b s (λ x. x ≡ Consumed → (s t ≡ Consumed) ⊎ Consumes) (λ q. inl q)
      (λ e q. inl (ap s e ∙ noticed_back (s timestamp) Consumed q (omega arith)))) c

-- what an owner may know of its connection afterwards
abbrev Stays : Call → ℕ → Connection → Connection → Type 0
Stays call k old new = (thread : ℕ) → owner old ≡ some thread
    → ((owner new ≡ some thread) × (output_to new ≡ output_to old) × (input_from new ≡ input_from old)) ⊎ ((call ≡ detach thread k) ⊎ (call ≡ end thread))

moved_stays : (call : Call) (time k : ℕ) (old new : Connection) → Moved call time k old new → Stays call k old new
moved_stays call time k old new (kept c) = λ thread own. inl (own, refl, refl)
moved_stays call time k old new (reads_now t c m items) = λ thread own. absurd (not_none own refl)
moved_stays call time k old new (writes_now t c) = λ thread own. absurd (not_none own refl)
moved_stays call time k old new (given_up t c its is) = λ thread own. inr (subst (λ (n : ℕ). (call ≡ detach n k) ⊎ (call ≡ end n)) (some_one its own) is)
moved_stays call time k old new (opened t which c is) = if_input_lem (Stays call k) _ (λ a thread own. inl (own, refl, refl)) (λ a b m s thread own. inl (own, refl, refl)) c
moved_stays call time k old new (consumed t n c is) = if_input_lem (Stays call k) _ (λ a thread own. inl (own, refl, refl)) (λ a b m s thread own. inl (own, refl, refl)) c
moved_stays call time k old new (raised bound c) = if_input_lem (Stays call k) _ (λ a thread own. inl (own, refl, refl)) (λ a b m s thread own. inl (own, refl, refl)) c
moved_stays call time k old new (told channel n c) = if_input_lem (Stays call k) _ (λ a thread own. inl (own, refl, refl)) (λ a b m s thread own. inl (own, refl, refl)) c

pub only_gets_open : OnlyGetsOpen
only_gets_open v call out does k t = moved_opens call out.time k t (v.connection k) (out.view.connection k) (moved v k call out does)

pub only_consumes_consume : OnlyConsumesConsume
only_consumes_consume v call out does k t = moved_consumes call out.time k t (v.connection k) (out.view.connection k) (moved v k call out does)

pub connections_stay : ConnectionsStay
connections_stay v call out does k = moved_stays call out.time k (v.connection k) (out.view.connection k) (moved v k call out does)
