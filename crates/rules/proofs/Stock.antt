-- The items present are one list in line; a put adds one item, and any set of pairs divides the list into those that leave and those that stay. Assumes
-- nothing.
use Rattle.rules.proofs.Basis.{◌≡◌, ◌∙◌, refl, sym, ap, ap₂, subst, Bool, true, false, cond, not, true≢false, List, [], ◌∷◌, ◌⊎◌, inl, inr, ⊎_elim, ◌↔◌, by_cases, none, some, Option·none-ne-some, ℕ, suc, ◌+◌, dec_lt, arith}
use Rattle.rules.proofs.Basis.{length, not-true, eq-eqb, Bound}
use Rattle.rules.specs.Claims.{ViewInOrder}
use Rattle.rules.specs.Rules.{Pairs, everything, below, View, Item, ◌∈◌, Before, InLine, Listed, with_item, left, IsPresent, BoundOf}
use Rattle.rules.proofs.Bounds.{bound_is_there}
use Rattle.rules.proofs.Laws.{cond_elim, not_none}
use Rattle.rules.proofs.Made.{with_item_keeps, with_item_brings}

-- ---- before

before_trans : (a b c : Item) → Before a b → Before b c → Before a c
before_trans a b c (inl x) (inl y) = inl (omega arith)
before_trans a b c (inl x) (inr y) = inl (omega (arith, y.0))
before_trans a b c (inr x) (inl y) = inl (omega (arith, x.0))
before_trans a b c (inr x) (inr y) = inr (x.0 ∙ y.0, omega (arith, x.1, y.1))

-- one of two items is before the other, or they have one pair
abbrev Ordered : Item → Item → Type 0
Ordered a b = Before a b ⊎ (Before b a ⊎ ((a.channel ≡ b.channel) × (a.timestamp ≡ b.timestamp)))

ordered : (a b : Item) → Ordered a b
ordered a b = by_cases (dec_lt a.channel b.channel) (λ less. inl (inl less)) (λ more. by_cases (dec_lt b.channel a.channel) (λ less. inr (inl (inl less)))
    (λ equal. by_cases (dec_lt a.timestamp b.timestamp) (λ early. inl (inr (omega arith, early)))
    (λ late. by_cases (dec_lt b.timestamp a.timestamp) (λ early. inr (inl (inr (omega arith, early)))) (λ same. inr (inr (omega arith, omega arith))))))

-- ---- one item more

pub record Added (item : Item) (items more : List Item) : Type 0 where
  pub in_line : InLine more
  pub members : (other : Item) → (other ∈ more) ↔ ((other ≡ item) ⊎ (other ∈ items))
  pub one_more : length more ≡ suc (length items)

abbrev NoPair : Item → List Item → Type 0
NoPair item items = (other : Item) → other ∈ items → (item.channel ≡ other.channel) × (item.timestamp ≡ other.timestamp) → ⊥

add : (item : Item) (items : List Item) → InLine items → NoPair item items → (more : List Item) × Added item items more
add item [] all apart = (item ∷ [], record { in_line = (λ other q. absurd q, tt); members = λ other. (λ q. q, λ q. q); one_more = refl })
add item (first ∷ items) all apart = go (ordered item first) (add item items all.1 (λ other q. apart other (inr q)))
  where
    go : Ordered item first → ((more : List Item) × Added item items more) → (more : List Item) × Added item (first ∷ items) more
    go (inl before) rest = (
      item ∷ first ∷ items,
      record {
        in_line = (λ other. ⊎_elim (λ e. subst (Before item) (sym e) before) (λ q. before_trans item first other before (all.0 other q)), all);
        members = λ other. (λ q. q, λ q. q);
        one_more = refl;
      },
    )
    go (inr (inl after)) (more, added) = (
      first ∷ more,
      record {
        in_line = (
          λ other q. ⊎_elim (λ e. subst (Before first) (sym e) after) (all.0 other) ((added.members other).0 q),
          added.in_line,
        );
        members = λ other. (
          ⊎_elim (λ e. inr (inl e)) (λ q. ⊎_elim (λ e. inl e) (λ p. inr (inr p)) ((added.members other).0 q)),
          ⊎_elim (λ e. inr ((added.members other).1 (inl e))) (⊎_elim (λ e. inl e) (λ p. inr ((added.members other).1 (inr p)))),
        );
        one_more = ap suc added.one_more;
      },
    )
    go (inr (inr pair)) rest = absurd (apart first (inl refl) pair)

-- ---- some items

module _ (keep : Item → Bool) where
  abbrev pub some_of : List Item → List Item
  some_of [] = []
  some_of (item ∷ items) = cond (keep item) (item ∷ some_of items) (some_of items)

  pub some_members : (items : List Item) (other : Item) → (other ∈ some_of items) ↔ ((other ∈ items) × (keep other ≡ true))
  some_members [] other = (λ q. absurd q, λ q. q.0)
  some_members (item ∷ items) other = cond_elim (λ l. (other ∈ l) ↔ (((other ≡ item) ⊎ (other ∈ items)) × (keep other ≡ true))) (keep item) (item ∷ some_of items) (some_of items)
      (λ kept. (
        ⊎_elim (λ e. (inl e, ap keep e ∙ kept)) (λ q. (inr ((some_members items other).0 q).0, ((some_members items other).0 q).1)),
        λ (q, k). ⊎_elim (λ e. inl e) (λ p. inr ((some_members items other).1 (p, k))) q,
      ))
      (λ left. (
        λ q. (inr ((some_members items other).0 q).0, ((some_members items other).0 q).1),
        λ (q, k). ⊎_elim (λ e. absurd (true≢false (sym k ∙ ap keep e ∙ left))) (λ p. (some_members items other).1 (p, k)) q,
      ))

  pub some_in_line : (items : List Item) → InLine items → InLine (some_of items)
  some_in_line [] all = tt
  some_in_line (item ∷ items) all = cond_elim InLine (keep item) (item ∷ some_of items) (some_of items)
      (λ kept. (λ other q. all.0 other ((some_members items other).0 q).0, some_in_line items all.1))
      (λ left. some_in_line items all.1)

pub halves : (keep : Item → Bool) (items : List Item) → length items ≡ length (some_of keep items) + length (some_of (λ item. not (keep item)) items)
halves keep [] = refl
halves keep (item ∷ items) =
    elim (keep item) as (λ b. suc (length items) ≡ length (cond b (item ∷ some_of keep items) (some_of keep items))
    + length (cond (not b) (item ∷ some_of (λ l. not (keep l)) items) (some_of (λ l. not (keep l)) items)))
    [ true ↦ omega (arith, halves keep items) | false ↦ omega (arith, halves keep items) ]

-- ---- the stock after a call

-- the item's pair is one of the set
abbrev pub is_among : Pairs → Item → Bool
is_among among item = among item.channel item.timestamp

-- those of a set of pairs, and those that stay where the set leaves
pub listed_among : (v : View) (among : Pairs) (items : List Item) → Listed v everything items → Listed v among (some_of (is_among among) items)
listed_among v among items those = record {
  in_line = some_in_line (is_among among) items those.in_line;
  exactly = λ item. (
    λ q. (let (inside, chosen) = (some_members (is_among among) items item).0 q in (((those.exactly item).0 inside).0, chosen)),
    λ (here, chosen). (some_members (is_among among) items item).1 ((those.exactly item).1 (here, refl), chosen),
  );
}

pub stock_left : (v : View) (gone : Pairs) (items : List Item) → Listed v everything items → Listed (left v gone) everything (some_of (λ item. not (is_among gone item)) items)
stock_left v gone items those =
    let stays : Item → Bool = λ item. not (is_among gone item) in
    record {
      in_line = some_in_line stays items those.in_line;
      exactly = λ item. (
        λ q. (let (inside, stayed) = (some_members stays items item).0 q in (rw (not-true (is_among gone item) stayed) ((those.exactly item).0 inside).0, refl)),
        λ (here, any). cond_elim (λ i. i ≡ some item.ticket → item ∈ some_of stays items) (is_among gone item) none (v.item item.channel item.timestamp)
            (λ leaves p. absurd (Option·none-ne-some item.ticket p)) (λ stayed p. (some_members stays items item).1 ((those.exactly item).1 (p, refl), ap not stayed)) here,
      );
    }

pub stock_added : (v : View) (channel timestamp ticket : ℕ) → v.item channel timestamp ≡ none → (items : List Item) → Listed v everything items
    → (more : List Item) × Listed (with_item v channel timestamp ticket) everything more × (length more ≡ suc (length items))
stock_added v channel timestamp ticket lacks items those =
    let item : Item = record { channel = channel; timestamp = timestamp; ticket = ticket } in
    let w : View = with_item v channel timestamp ticket in
    let (more, added) = add item items those.in_line (λ other q (c, t). not_none ((those.exactly other).0 q).0 (sym (ap₂ v.item c t) ∙ lacks)) in
    let new : IsPresent w item = rw (eq-eqb channel channel refl, eq-eqb timestamp timestamp refl) in (
      more,
      record {
        in_line = added.in_line;
        exactly = λ other. (
          λ q. (
            ⊎_elim (λ e. subst (IsPresent w) (sym e) new) (λ p. with_item_keeps v channel timestamp ticket lacks other ((those.exactly other).0 p).0) ((added.members other).0 q),
            refl,
          ),
          λ (here, any). (added.members other).1 (⊎_elim inl (λ was. inr ((those.exactly other).1 (was, refl))) (with_item_brings v channel timestamp ticket other here)),
        );
      },
      added.one_more,
    )

-- the items below either bound
pub low_items : (v : View) → ViewInOrder v → (items : List Item) → Listed v everything items
    → (bound : Bound) → (time : ℕ) × (low : List Item) × BoundOf v bound time × Listed v (below time) low
low_items v o items those bound =
    let (time, is) = bound_is_there v o bound in
    (time, some_of (is_among (below time)) items, is, listed_among v (below time) items those)
