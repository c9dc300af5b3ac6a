-- What the proofs know of a start, and all that they know: it is in order, and its items are one list of at most 64. A second start is a second clause of
-- both, here. Assumes nothing.
use Rattle.rules.proofs.Basis.{◌≡◌, sym, true≢false, List, [], none, some, Option·none-ne-some, ◌≤◌, ◌<◌, arith, length}
use Rattle.rules.specs.Claims.{ViewInOrder}
use Rattle.rules.specs.Rules.{never, item_places, thread_places, everything, View, fresh_view, Item, Listed}
use Rattle.rules.specs.Runs.{Start, fresh}
use Rattle.rules.proofs.Laws.{at_elim}

fresh_in_order : ViewInOrder fresh_view
fresh_in_order = record {
  threads = λ t x. at_elim (λ s. s ≡ some x → (t < thread_places) × (x ≤ never)) (λ _. none) 0 (some 0) t
      (λ e h. (let q : 0 ≡ x = cc in (omega arith, omega arith))) (λ ne h. absurd (Option·none-ne-some x h));
  channels = λ c h. absurd (true≢false (sym h));
  connections = λ k. tt;
  items = λ c t n h. absurd (Option·none-ne-some n h);
}

pub fresh_listed : Listed fresh_view everything []
fresh_listed = record { in_line = tt; exactly = λ item. (λ q. absurd q, λ (here, any). absurd (Option·none-ne-some item.ticket here)) }

pub starts_in_order : {v : View} → Start v → ViewInOrder v
starts_in_order fresh = fresh_in_order

pub starts_listed : {v : View} → Start v → (items : List Item) × Listed v everything items × (length items ≤ item_places)
starts_listed fresh = ([], fresh_listed, omega arith)
