-- No pair of channel and timestamp is accepted twice: its item is there, or it left and the pair's time is past for good. Assumes nothing.
use Rattle.rules.proofs.Basis.{◌≡◌, ◌∙◌, refl, sym, ap₂, subst, ◌⊎◌, inl, inr, ⊎_elim, none, some, ℕ, suc, arith, eq-eqb, Strong, put}
use Rattle.rules.specs.Claims.{ViewInOrder, PutBy, ComesBackAsPut, NoPairTwice}
use Rattle.rules.specs.Rules.{Pairs, View, left, Outcome}
use Rattle.rules.specs.Runs.{Run, Reachable}
use Rattle.rules.proofs.Clear.{cleared}
use Rattle.rules.proofs.Bounds.{at_least_kind}
use Rattle.rules.proofs.Connections.{Allowed}
use Rattle.rules.proofs.Laws.{cond_elim, some_one, not_none, item_elim}
use Rattle.rules.proofs.Leaving.{left-at_least}
use Rattle.rules.proofs.One.{accepted}
use Rattle.rules.proofs.Order.{does_in_order, calls_in_order, every_view_in_order, Kept, by_calls}
use Rattle.rules.proofs.Ways.{allowed, AtLeast, at_least_allowed, Kind, makes, sets, changes, ends, stocks, raises, MayLeave}

-- the pair was put with this ticket: the item is there, or it left and the time is past
abbrev Spent : ℕ → ℕ → ℕ → View → Type 0
Spent channel timestamp ticket v = (v.item channel timestamp ≡ some ticket) ⊎ ((v.item channel timestamp ≡ none) × AtLeast Strong (suc timestamp) v)

-- what a way does to a pair's place: nothing; or it was free, and a visible time allows its time
place_kind : (v w : View) → Kind v w → (channel timestamp : ℕ) → (w.item channel timestamp ≡ v.item channel timestamp) ⊎ ((v.item channel timestamp ≡ none) × Allowed v timestamp)
place_kind v w (makes number inside) channel timestamp = inl refl
place_kind v w (sets number time inside top may) channel timestamp = inl refl
place_kind v w (changes number new fits turned) channel timestamp = inl refl
place_kind v w (ends thread) channel timestamp = inl refl
place_kind v w (stocks c n t exists early carried may lacks) channel timestamp =
    item_elim (λ i. (i ≡ v.item channel timestamp) ⊎ ((v.item channel timestamp ≡ none) × Allowed v timestamp)) v c n t channel timestamp
    (λ same same_time. inr (ap₂ v.item same same_time ∙ lacks, subst (Allowed v) (sym same_time) may)) (inl refl)
place_kind v w (raises bound top) channel timestamp = inl refl

module _ (channel timestamp ticket : ℕ) where
  -- by a way nothing leaves; what left does not come back, for a put would be below a visible time
  kind_spent : (v : View) → ViewInOrder v → Spent channel timestamp ticket v → (w : View) → Kind v w → Spent channel timestamp ticket w
  kind_spent v o (inl here) w kind = ⊎_elim (λ same. inl (same ∙ here)) (λ (lacks, may). absurd (not_none here lacks)) (place_kind v w kind channel timestamp)
  kind_spent v o (inr (lacks, above)) w kind = inr (
    ⊎_elim (λ same. same ∙ lacks) (λ (free, may). absurd (omega (arith, at_least_allowed above timestamp may))) (place_kind v w kind channel timestamp),
    at_least_kind Strong v o above w kind,
  )

  -- what leaves is past
  left_spent : (v : View) → ViewInOrder v → Spent channel timestamp ticket v → (gone : Pairs) → MayLeave v gone → Spent channel timestamp ticket (left v gone)
  left_spent v o (inl here) gone may =
      cond_elim (λ i. (i ≡ some ticket) ⊎ ((i ≡ none) × AtLeast Strong (suc timestamp) (left v gone))) (gone channel timestamp) none (v.item channel timestamp)
      (λ leaves. inr (refl, left-at_least Strong v (may channel timestamp leaves) gone)) (λ stays. inl here)
  left_spent v o (inr (lacks, above)) gone may =
      inr (cond_elim (λ i. i ≡ none) (gone channel timestamp) none (v.item channel timestamp) (λ leaves. refl) (λ stays. lacks), left-at_least Strong v above gone)

  spent_kept : Kept (Spent channel timestamp ticket)
  spent_kept = record { by_ways = kind_spent; by_leaving = left_spent }

put_spends : (v : View) (channel timestamp ticket : ℕ) (out : Outcome) → PutBy v channel timestamp ticket out → Spent channel timestamp ticket out.view
put_spends v channel timestamp ticket out by_it =
    let (c, into, e) = (accepted v (put by_it.thread by_it.connection timestamp ticket) out by_it.does by_it.accepted).1 in
    subst (λ (x : Outcome). Spent channel timestamp ticket x.view) (sym e)
    (inl (rw (eq-eqb channel c (some_one by_it.into into), eq-eqb timestamp timestamp refl)))

spent_after : (v w : View) → Reachable v → (channel timestamp ticket : ℕ) (out : Outcome) → PutBy v channel timestamp ticket out → Run out.view w
    → ViewInOrder w × Spent channel timestamp ticket w
spent_after v w run channel timestamp ticket out by_it calls =
    let o = does_in_order v (every_view_in_order v run) (put by_it.thread by_it.connection timestamp ticket) by_it.passable out by_it.does in
    (calls_in_order calls o, by_calls (spent_kept channel timestamp ticket) calls o (put_spends v channel timestamp ticket out by_it))

pub comes_back_as_put : ComesBackAsPut
comes_back_as_put v w run channel timestamp ticket other out by_it calls there =
    ⊎_elim (λ here. some_one there here) (λ (lacks, above). absurd (not_none there lacks)) (spent_after v w run channel timestamp ticket out by_it calls).1

-- a second put meets 7 where the item is there, and 6 where it left
pub no_pair_twice : NoPairTwice
no_pair_twice v w run channel timestamp ticket other out last first calls again =
    let (o, spent) = spent_after v w run channel timestamp ticket out first calls in
    let call = put again.thread again.connection timestamp other in
    let clear = cleared w call (accepted w call last again.does again.accepted).0 in
    ⊎_elim (λ here. clear 7 (channel, ticket, again.into, here))
    (λ (lacks, above). omega (arith, at_least_allowed above timestamp (allowed w o again.thread timestamp (clear 6)))) spent
