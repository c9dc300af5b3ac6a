-- What leaving does, of any set of pairs: what is left is in order, for a timestamp without an item is CONSUMED or ABSENT as its mark says; nothing waits
-- that did not wait before, so no bound falls; and after a sweep's leaving its marks hide what leaving did to the states. Assumes nothing.
use Rattle.rules.proofs.Basis.{◌≡◌, refl, Bool, true, false, cond, none, some, Option·none-ne-some, ℕ, max, ◌<◌, ltb, Absent, Consumed, Bound, Weak, Strong, Ticket}
use Rattle.rules.specs.Claims.{LeftInOrder}
use Rattle.rules.specs.Rules.{never, Pairs, below, Connection, unused, output, input, View, KeepTime, state_on, consumed_below, forgetting, left}
use Rattle.rules.proofs.Connections.{Waits, absent_done, consumed_done, fits_forgetting}
use Rattle.rules.proofs.Laws.{cond_elim}
use Rattle.rules.proofs.Ways.{AtLeast}

-- ---- in order

pub left_in_order : LeftInOrder
left_in_order v o gone = record {
  threads = o.threads;
  channels = o.channels;
  connections = λ k. fits_forgetting v k gone (v.connection k) (o.connections k);
  items = λ c t n. cond_elim (λ i. i ≡ some n → (v.channel c ≡ true) × (t < never) × Ticket n) (gone c t) none (v.item c t)
      (λ q h. absurd (Option·none-ne-some n h)) (λ q. o.items c t n);
}

-- ---- bounds

forgetting-waits : (gone : Pairs) (c : Connection) (time : ℕ) → Waits (state_on (forgetting gone c) time) → Waits (state_on c time)
forgetting-waits gone unused time = λ w. w
forgetting-waits gone (output t c) time = λ w. w
forgetting-waits gone (input t c m s) time = cond_elim (λ x. Waits x → Waits (s time)) (gone c time) _ (s time)
    (λ q. cond_elim (λ x. Waits x → Waits (s time)) (ltb time m) Consumed Absent (λ e w. absurd (consumed_done w)) (λ e w. absurd (absent_done w))) (λ q w. w)

forgetting_keeps : (gone : Pairs) (c : Connection) (time : ℕ) → KeepTime (forgetting gone c) time → KeepTime c time
forgetting_keeps gone unused time q = q
forgetting_keeps gone (output t c) time q = q
forgetting_keeps gone (input t c m s) time q = q

pub left-at_least : {least : ℕ} (bound : Bound) (v : View) → AtLeast bound least v → (gone : Pairs) → AtLeast bound least (left v gone)
left-at_least Weak v a gone = record { top = a.top; times = a.times; pending = λ k t q. a.pending k t (forgetting_keeps gone (v.connection k) t q) }
left-at_least Strong v a gone = record { top = a.top; times = a.times; pending = λ k t q. a.pending k t (forgetting-waits gone (v.connection k) t q) }

-- ---- a sweep in one step

cond-again : {A : Type 0} (b : Bool) (x y z : A) → cond b x (cond b y z) ≡ cond b x z
cond-again true x y z = refl
cond-again false x y z = refl

pub swept_connection : (bound : ℕ) (c : Connection) → consumed_below bound (forgetting (below bound) c) ≡ consumed_below bound c
swept_connection bound unused = refl
swept_connection bound (output t c) = refl
swept_connection bound (input t c m s) = λ i. input t c (max m bound) (λ n. cond-again (ltb n bound) Consumed (cond (ltb n m) Consumed Absent) (s n) i)
