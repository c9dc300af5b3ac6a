-- What an accepted deed does to the items: a put brings one, every other leaves them as they are. Assumes nothing.
use Rattle.rules.proofs.Basis.{◌≡◌, ◌∙◌, refl, sym, ap, ap₂, subst, false, true≢false, [], ◌⊎◌, inl, inr, ⊎_elim, none, some, Option·some-injective, Option·none-ne-some, ℕ, Deed, Channel, NewThread, AttachInput}
use Rattle.rules.proofs.Basis.{AttachOutput, Detach, End, Set, Put, Get, Consume, ConsumeUntil, Call, by, sweep, put, is_put_deed}
use Rattle.rules.specs.Claims.{RefusedChangesNothing, OnlySweepsRemove, OnlyPutsBring}
use Rattle.rules.specs.Rules.{View, output_to, Item, IsPresent, Outcome, done, with_item, deed_row, rule}
use Rattle.rules.proofs.Clear.{Clear, cleared}
use Rattle.rules.proofs.Laws.{not_none, item_elim, below_elim}
use Rattle.rules.proofs.Ways.{untaken}

pub data Made (v : View) : Deed → Outcome → Type 0 where
  quietly : (deed : Deed) (value time : ℕ) (w : View) → is_put_deed deed ≡ false → ((channel timestamp : ℕ) → w.item channel timestamp ≡ v.item channel timestamp)
      → Made v deed (done value time w [])
  puts : (connection channel timestamp ticket : ℕ) → output_to (v.connection connection) ≡ some channel
      → Made v (Put connection timestamp ticket) (done 0 0 (with_item v channel timestamp ticket) [])

pub made : (v : View) (thread : ℕ) (deed : Deed) (out : Outcome) → (deed_row v thread deed).Accepts out → Made v deed out
made v thread Channel out (number, low, e) = subst (Made v Channel) (sym e) (quietly Channel _ _ _ refl (λ c t. refl))
made v thread (NewThread time) out (number, low, e) = subst (Made v (NewThread time)) (sym e) (quietly (NewThread time) _ _ _ refl (λ c t. refl))
made v thread (AttachInput channel) out (number, visible, low, is, e) = subst (Made v (AttachInput channel)) (sym e) (quietly (AttachInput channel) _ _ _ refl (λ c t. refl))
made v thread (AttachOutput channel) out (number, low, e) = subst (Made v (AttachOutput channel)) (sym e) (quietly (AttachOutput channel) _ _ _ refl (λ c t. refl))
made v thread (Detach connection) out e = subst (Made v (Detach connection)) (sym e) (quietly (Detach connection) _ _ _ refl (λ c t. refl))
made v thread End out e = subst (Made v End) (sym e) (quietly End _ _ _ refl (λ c t. refl))
made v thread (Set time) out e = subst (Made v (Set time)) (sym e) (quietly (Set time) _ _ _ refl (λ c t. refl))
made v thread (Put connection timestamp ticket) out (channel, into, e) =
    subst (Made v (Put connection timestamp ticket)) (sym e) (puts connection channel timestamp ticket into)
made v thread (Get connection which) out (channel, timestamp, ticket, from, takes, there, e) =
    subst (Made v (Get connection which)) (sym e) (quietly (Get connection which) _ _ _ refl (λ c t. refl))
made v thread (Consume connection timestamp) out e = subst (Made v (Consume connection timestamp)) (sym e) (quietly (Consume connection timestamp) _ _ _ refl (λ c t. refl))
made v thread (ConsumeUntil connection timestamp) out e =
    subst (Made v (ConsumeUntil connection timestamp)) (sym e) (quietly (ConsumeUntil connection timestamp) _ _ _ refl (λ c t. refl))

-- ---- an accepted call answers 0

made_zero : (v : View) (deed : Deed) (out : Outcome) → Made v deed out → out.code ≡ 0
made_zero v deed out (quietly its value time w calm same) = refl
made_zero v deed out (puts connection channel timestamp ticket into) = refl

accepts-zero : (v : View) (call : Call) (out : Outcome) → (rule v call).Accepts out → out.code ≡ 0
accepts-zero v (by thread deed) out accepts = made_zero v deed out (made v thread deed out accepts)
accepts-zero v (sweep bound slice) out (time, items, is, those, e) = ap (λ (x : Outcome). x.code) e

pub refused_changes_nothing : RefusedChangesNothing
refused_changes_nothing v call out (inl (refused, same, lent)) not-zero = (same, lent)
refused_changes_nothing v call out (inr (clear, accepts)) not-zero = absurd (not-zero (accepts-zero v call out accepts))

-- ---- what stays, and what comes

-- with one item more, what was there is there, if nothing was in its place
pub with_item_keeps : (v : View) (channel timestamp ticket : ℕ) → v.item channel timestamp ≡ none → (item : Item) → IsPresent v item → IsPresent (with_item v channel timestamp ticket) item
with_item_keeps v channel timestamp ticket lacks item here = item_elim (λ i. i ≡ some item.ticket) v channel timestamp ticket item.channel item.timestamp
    (λ c t. absurd (not_none here (ap₂ v.item c t ∙ lacks))) here

-- and what is there was there, or is the one
pub with_item_brings : (v : View) (channel timestamp ticket : ℕ) (item : Item) → IsPresent (with_item v channel timestamp ticket) item
    → (item ≡ record { channel = channel; timestamp = timestamp; ticket = ticket }) ⊎ IsPresent v item
with_item_brings v channel timestamp ticket item =
    item_elim (λ i. i ≡ some item.ticket → (item ≡ record { channel = channel; timestamp = timestamp; ticket = ticket }) ⊎ IsPresent v item)
    v channel timestamp ticket item.channel item.timestamp
    (λ c t here. inl (λ i. record { channel = c i; timestamp = t i; ticket = sym (Option·some-injective ticket item.ticket here) i })) inr

made_keeps : (v : View) (thread : ℕ) (deed : Deed) (out : Outcome) → Made v deed out → Clear v (by thread deed)
    → (item : Item) → IsPresent v item → IsPresent out.view item
made_keeps v thread deed out (quietly its value time w calm same) clear item here = same item.channel item.timestamp ∙ here
made_keeps v thread deed out (puts connection channel timestamp ticket into) clear item here =
    with_item_keeps v channel timestamp ticket (untaken v connection channel timestamp (clear 7) into) item here

pub only_sweeps_remove : OnlySweepsRemove
only_sweeps_remove v run call fits quiet out (inl (refused, same, lent)) item here = subst (λ (w : View). IsPresent w item) (sym same) here
only_sweeps_remove v run (by thread deed) fits quiet out (inr (free, accepts)) item here =
    made_keeps v thread deed out (made v thread deed out accepts) (cleared v (by thread deed) free) item here
only_sweeps_remove v run (sweep bound slice) fits quiet out (inr (clear, accepts)) item here = absurd (true≢false quiet)

abbrev Brings : View → Call → Item → Type 0
Brings v call item =
    (thread connection : ℕ) × (call ≡ put thread connection item.timestamp item.ticket) × (output_to (v.connection connection) ≡ some item.channel)

made_brings : (v : View) (thread : ℕ) (deed : Deed) (out : Outcome) → Made v deed out → (item : Item) → IsPresent out.view item → IsPresent v item ⊎ Brings v (by thread deed) item
made_brings v thread deed out (quietly its value time w calm same) item here = inl (sym (same item.channel item.timestamp) ∙ here)
made_brings v thread deed out (puts connection channel timestamp ticket into) item here = ⊎_elim
    (λ same. inr (thread, connection, ap (λ (i : Item). by thread (Put connection i.timestamp i.ticket)) (sym same), into ∙ ap (λ (i : Item). some i.channel) (sym same)))
    inl (with_item_brings v channel timestamp ticket item here)

pub only_puts_bring : OnlyPutsBring
only_puts_bring v call out (inl (refused, same, lent)) item here = inl (subst (λ (w : View). IsPresent w item) same here)
only_puts_bring v (by thread deed) out (inr (clear, accepts)) item here = made_brings v thread deed out (made v thread deed out accepts) item here
only_puts_bring v (sweep bound slice) out (inr (clear, (time, items, is, those, e))) item here =
    below_elim (λ i. i ≡ some item.ticket → IsPresent v item ⊎ Brings v (sweep bound slice) item) item.timestamp time none (v.item item.channel item.timestamp)
    (λ under gone. absurd (Option·none-ne-some item.ticket gone)) (λ over. inl)
    (subst (λ (x : Outcome). IsPresent x.view item) e here)
