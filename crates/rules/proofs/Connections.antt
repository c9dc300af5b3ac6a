-- One connection: under every change what it sees is in order, and no state goes back. Assumes nothing.
use Rattle.rules.proofs.Basis.{◌≡◌, ◌∙◌, refl, sym, ap, subst, Bool, true, false, cond, ◌⊎◌, ⊎_elim, ◌≢◌, Option, none, some, Option·some-injective, Option·none-ne-some, ℕ, max, ◌≤◌, ◌<◌, arith, le_refl, eqb, ltb}
use Rattle.rules.proofs.Basis.{eqb-false, eq-eqb, ne_eqb, lt-ltb, le-ltb, State, Absent, Unseen, Open, Consumed, state_number}
use Rattle.rules.specs.Claims.{ConnectionFits, Living, Sees}
use Rattle.rules.specs.Rules.{never, Pairs, Connection, unused, output, input, View, at, state_on, seen_as, consumed_below, noticed, noticing, forgetting, first_seen, freed_from, VisibleTime, with_item, ended, left, owner}
use Rattle.rules.proofs.Laws.{cond_elim, at_elim, below_elim, not-below, not_none, at_other, option_cases}

-- UNSEEN or OPEN
abbrev pub Waits : State → Type 0
Waits state = (state ≡ Unseen) ⊎ (state ≡ Open)

pub consumed_done : Waits Consumed → ⊥
consumed_done = ⊎_elim (λ e. omega (arith, ap state_number e)) (λ e. omega (arith, ap state_number e))

pub absent_done : Waits Absent → ⊥
absent_done = ⊎_elim (λ e. omega (arith, ap state_number e)) (λ e. omega (arith, ap state_number e))

noticed-number : (s : State) → 0 < state_number (noticed s)
noticed-number Absent = omega arith
noticed-number Unseen = omega arith
noticed-number Open = omega arith
noticed-number Consumed = omega arith

-- a time that a visible time allows
abbrev pub Allowed : View → ℕ → Type 0
Allowed v time = (thread visible : ℕ) × VisibleTime v thread visible × (visible ≤ time)

-- ---- what it sees

module _ (items : ℕ → Option ℕ) (mark : ℕ) (seen : ℕ → State) (sees : Sees items mark seen) where
  -- what waits is there and not below the mark
  pub seen_above : (timestamp : ℕ) → Waits (seen timestamp) → mark ≤ timestamp
  seen_above timestamp waits = not-below (λ under. consumed_done (subst Waits (sees.below timestamp under) waits))

  pub seen_there : (timestamp : ℕ) → Waits (seen timestamp) → (ticket : ℕ) × (items timestamp ≡ some ticket)
  seen_there timestamp waits = option_cases (items timestamp)
      (λ e. absurd (absent_done (subst Waits (sees.absent timestamp (seen_above timestamp waits) e) waits))) (λ ticket e. (ticket, e))

  -- one timestamp's state changes
  pub sees_as : (state : State) (timestamp : ℕ) → Waits (seen timestamp) → 0 < state_number state → Sees items mark (at seen timestamp state)
  sees_as state timestamp waits there = record {
    below = λ t under. at_elim (λ s. s ≡ Consumed) seen timestamp state t (λ e. absurd (omega (arith, seen_above timestamp waits))) (λ ne. sees.below t under);
    absent = λ t over gone. at_elim (λ s. s ≡ Absent) seen timestamp state t
        (λ e. absurd (not_none (seen_there timestamp waits).1 (subst (λ (n : ℕ). items n ≡ none) e gone))) (λ ne. sees.absent t over gone);
    present = λ t ticket over is. at_elim (λ s. s ≢ Absent) seen timestamp state t (λ e q. omega (arith, ap state_number q)) (λ ne. sees.present t ticket over is);
  }

  -- all below a bound is consumed
  pub sees_raised : (bound : ℕ) → Sees items (max mark bound) (λ timestamp. cond (ltb timestamp bound) Consumed (seen timestamp))
  sees_raised bound = record {
    below = λ t under. below_elim (λ s. s ≡ Consumed) t bound Consumed (seen t) (λ e. refl) (λ above. sees.below t (omega arith));
    absent = λ t over lacks. below_elim (λ s. s ≡ Absent) t bound Consumed (seen t) (λ under. absurd (omega arith)) (λ above. sees.absent t (omega arith) lacks);
    present = λ t ticket over is. below_elim (λ s. s ≢ Absent) t bound Consumed (seen t) (λ under. absurd (omega arith)) (λ above. sees.present t ticket (omega arith) is);
  }

  -- some items leave
  pub sees_left : (gone : ℕ → Bool)
      → Sees (λ t. cond (gone t) none (items t)) mark (λ t. cond (gone t) (cond (ltb t mark) Consumed Absent) (seen t))
  sees_left gone = record {
    below = λ t under. cond_elim (λ s. s ≡ Consumed) (gone t) _ (seen t) (λ q. rw (lt-ltb t mark under)) (λ q. sees.below t under);
    absent = λ t over. elim (gone t) as (λ b. cond b none (items t) ≡ none → cond b (cond (ltb t mark) Consumed Absent) (seen t) ≡ Absent)
        [ true ↦ λ lacks. rw (le-ltb t mark over) | false ↦ sees.absent t over ];
    present = λ t ticket over. elim (gone t) as (λ b. cond b none (items t) ≡ some ticket → cond b (cond (ltb t mark) Consumed Absent) (seen t) ≢ Absent)
        [ true ↦ λ is. absurd (Option·none-ne-some ticket is) | false ↦ sees.present t ticket over ];
  }

  -- an item comes
  pub sees_with_item : (timestamp ticket : ℕ) → Sees (at items timestamp (some ticket)) mark (at seen timestamp (noticed (seen timestamp)))
  sees_with_item timestamp ticket = record {
    below = λ t under. at_elim (λ s. s ≡ Consumed) seen timestamp (noticed (seen timestamp)) t
        (λ e. ap noticed (sees.below timestamp (omega arith))) (λ ne. sees.below t under);
    absent = λ t over gone. at_elim (λ s. s ≡ Absent) seen timestamp (noticed (seen timestamp)) t
        (λ e. absurd (not_none refl (rw (eq-eqb t timestamp e) at gone))) (λ ne. sees.absent t over (rw (ne_eqb t timestamp ne) at gone));
    present = λ t n over is. at_elim (λ s. s ≢ Absent) seen timestamp (noticed (seen timestamp)) t
        (λ e q. omega (arith, ap state_number q, noticed-number (seen timestamp))) (λ ne. sees.present t n over (rw (ne_eqb t timestamp ne) at is));
  }

  pub sees_if : (b : Bool) (timestamp ticket : ℕ) → Sees (cond b (at items timestamp (some ticket)) items) mark (cond b (at seen timestamp (noticed (seen timestamp))) seen)
  sees_if true timestamp ticket = sees_with_item timestamp ticket
  sees_if false timestamp ticket = sees

pub sees_first : (items : ℕ → Option ℕ) (mark : ℕ) → Sees items mark (first_seen items mark)
sees_first items mark = record {
  below = λ t under. rw (lt-ltb t mark under);
  absent = λ t over gone. rw (le-ltb t mark over, gone);
  present = λ t ticket over is. rw (le-ltb t mark over, is) (λ e. omega (arith, ap state_number e));
}

-- what is said of none, and of one that is another thread's, is said of one from which the thread is gone
freed_elim : (P : Connection → Type 0) (thread : ℕ) (c : Connection) → P unused → (owner c ≢ some thread → P c) → P (freed_from thread c)
freed_elim P thread unused f g = f
freed_elim P thread (output t c) f g = cond_elim P (eqb t thread) unused (output t c) (λ e. f) (λ e. g (λ q. eqb-false t thread e (Option·some-injective t thread q)))
freed_elim P thread (input t c m s) f g = cond_elim P (eqb t thread) unused (input t c m s) (λ e. f) (λ e. g (λ q. eqb-false t thread e (Option·some-injective t thread q)))

-- ---- it fits after each change, with this number in this view

abbrev pub ConnectionFitsIn : View → ℕ → Connection → Type 0
ConnectionFitsIn v k c = ConnectionFits v.thread v.channel v.item k c

module _ (v : View) (k : ℕ) where
  pub fits_on : (T : ℕ → Option ℕ) (C : ℕ → Bool) (c : Connection) → ((t : ℕ) → owner c ≡ some t → Living v.thread t → Living T t) → ((n : ℕ) → v.channel n ≡ true → C n ≡ true)
      → ConnectionFitsIn v k c → ConnectionFits T C v.item k c
  fits_on T C unused living exists f = tt
  fits_on T C (output t c) living exists (inside, l, e) = (inside, living t refl l, exists c e)
  fits_on T C (input t c m s) living exists (inside, l, e, top, sees) = (inside, living t refl l, exists c e, top, sees)

  pub fits_seen_as : (state : State) (timestamp : ℕ) → 0 < state_number state → (c : Connection) → Waits (state_on c timestamp) → ConnectionFitsIn v k c → ConnectionFitsIn v k (seen_as state timestamp c)
  fits_seen_as state timestamp there unused waits f = tt
  fits_seen_as state timestamp there (output t c) waits f = f
  fits_seen_as state timestamp there (input t c m s) waits (inside, l, e, top, sees) = (inside, l, e, top, sees_as (v.item c) m s sees state timestamp waits there)

  pub fits_raised : (bound : ℕ) → bound ≤ never → (c : Connection) → ConnectionFitsIn v k c → ConnectionFitsIn v k (consumed_below bound c)
  fits_raised bound small unused f = tt
  fits_raised bound small (output t c) f = f
  fits_raised bound small (input t c m s) (inside, l, e, top, sees) = (inside, l, e, omega arith, sees_raised (v.item c) m s sees bound)

  pub fits_forgetting : (gone : Pairs) (c : Connection) → ConnectionFitsIn v k c → ConnectionFitsIn (left v gone) k (forgetting gone c)
  fits_forgetting gone unused f = tt
  fits_forgetting gone (output t c) f = f
  fits_forgetting gone (input t c m s) (inside, l, e, top, sees) = (inside, l, e, top, sees_left (v.item c) m s sees (gone c))

  pub fits_noticing : (channel timestamp ticket : ℕ) (c : Connection) → ConnectionFitsIn v k c → ConnectionFitsIn (with_item v channel timestamp ticket) k (noticing channel timestamp c)
  fits_noticing channel timestamp ticket unused f = tt
  fits_noticing channel timestamp ticket (output t c) f = f
  fits_noticing channel timestamp ticket (input t c m s) (inside, l, e, top, sees) =
      (inside, l, e, top, sees_if (v.item c) m s sees (eqb c channel) timestamp ticket)

  pub fits_freed : (thread : ℕ) (c : Connection) → ConnectionFitsIn v k c → ConnectionFitsIn (ended v thread) k (freed_from thread c)
  fits_freed thread c f = freed_elim (ConnectionFitsIn (ended v thread) k) thread c tt
      (λ other. fits_on (at v.thread thread none) v.channel c (λ t own (time, l). (time, at_other v.thread thread none t (λ e. other (own ∙ ap some e)) ∙ l)) (λ n e. e) f)

-- ---- it goes forward

-- how a state moves
pub data Turn (v : View) (timestamp : ℕ) : State → State → Type 0 where
  rests : (s : State) → Turn v timestamp s s
  opens : Turn v timestamp Unseen Open
  consumes : (s : State) → Turn v timestamp s Consumed
  comes : Allowed v timestamp → Turn v timestamp Absent Unseen

-- how a connection changes
pub data Turned (v : View) : Connection → Connection → Type 0 where
  alike : (c : Connection) → Turned v c c
  freed : (c : Connection) → Turned v c unused
  writes : (thread channel : ℕ) → Turned v unused (output thread channel)
  reads : (thread channel mark : ℕ) → Allowed v mark → Turned v unused (input thread channel mark (first_seen (v.item channel) mark))
  moves : (thread channel mark later : ℕ) (seen now : ℕ → State) → mark ≤ later → ((timestamp : ℕ) → Turn v timestamp (seen timestamp) (now timestamp))
      → Turned v (input thread channel mark seen) (input thread channel later now)

module _ (v : View) where
  pub turned-seen_as : (state : State) (timestamp : ℕ) (c : Connection) → Turn v timestamp (state_on c timestamp) state → Turned v c (seen_as state timestamp c)
  turned-seen_as state timestamp unused turn = alike unused
  turned-seen_as state timestamp (output t c) turn = alike (output t c)
  turned-seen_as state timestamp (input t c m s) turn = moves t c m m s (at s timestamp state) (le_refl m)
      (λ n. at_elim (Turn v n (s n)) s timestamp state n (λ e. subst (λ (j : ℕ). Turn v j (s j) state) (sym e) turn) (λ ne. rests (s n)))

  pub turned-raised : (bound : ℕ) (c : Connection) → Turned v c (consumed_below bound c)
  turned-raised bound unused = alike unused
  turned-raised bound (output t c) = alike (output t c)
  turned-raised bound (input t c m s) = moves t c m (max m bound) s _ (omega arith)
      (λ n. below_elim (Turn v n (s n)) n bound Consumed (s n) (λ under. consumes (s n)) (λ above. rests (s n)))

  notices : (timestamp : ℕ) → Allowed v timestamp → (s : State) → Turn v timestamp s (noticed s)
  notices timestamp may Absent = comes may
  notices timestamp may Unseen = rests Unseen
  notices timestamp may Open = rests Open
  notices timestamp may Consumed = rests Consumed

  pub turned-noticing : (channel timestamp : ℕ) → Allowed v timestamp → (c : Connection) → Turned v c (noticing channel timestamp c)
  turned-noticing channel timestamp may unused = alike unused
  turned-noticing channel timestamp may (output t c) = alike (output t c)
  turned-noticing channel timestamp may (input t c m s) = cond_elim (λ f. Turned v (input t c m s) (input t c m f)) (eqb c channel) (at s timestamp (noticed (s timestamp))) s
      (λ e. turned-seen_as (noticed (s timestamp)) timestamp (input t c m s) (notices timestamp may (s timestamp))) (λ e. alike (input t c m s))

  pub turned-freed : (thread : ℕ) (c : Connection) → Turned v c (freed_from thread c)
  turned-freed thread c = freed_elim (Turned v c) thread c (freed c) (λ other. alike c)
