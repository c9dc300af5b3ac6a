-- There is one list in line of the same items, for the first of each is the first of the other. Assumes nothing.
use Rattle.rules.proofs.Basis.{◌≡◌, ◌∙◌, refl, sym, ap₂, subst, List, [], ◌∷◌, inl, inr, ⊎_elim, arith}
use Rattle.rules.specs.Rules.{Pairs, View, Item, ◌∈◌, Before, InLine, Listed}

-- no item is before itself, nor two before each other
not-both : (a b : Item) → Before a b → Before b a → ⊥
not-both a b (inl x) (inl y) = omega arith
not-both a b (inl x) (inr y) = omega arith
not-both a b (inr x) (inl y) = omega arith
not-both a b (inr x) (inr y) = omega arith

not_itself : (a b : Item) → a ≡ b → Before a b → ⊥
not_itself a b e x = not-both a b x (subst (λ (l : Item). Before b l) (sym e) (subst (λ (l : Item). Before l b) e x))

-- the first of two lists with the same members
first_same : (a b : Item) (l m : List Item) → ((item : Item) → item ∈ l → Before a item) → ((item : Item) → item ∈ m → Before b item)
    → a ∈ (b ∷ m) → b ∈ (a ∷ l) → a ≡ b
first_same a b l m after_a after_b (inl e) y = e
first_same a b l m after_a after_b (inr x) (inl e) = sym e
first_same a b l m after_a after_b (inr x) (inr y) = absurd (not-both a b (after_a b y) (after_b a x))

-- and what follows it
rest_in : (a b : Item) (l m : List Item) → a ≡ b → ((item : Item) → item ∈ l → Before a item)
    → ((item : Item) → item ∈ (a ∷ l) → item ∈ (b ∷ m)) → (item : Item) → item ∈ l → item ∈ m
rest_in a b l m same after inside item in_l =
    ⊎_elim (λ e. absurd (not_itself a item (same ∙ sym e) (after item in_l))) (λ x. x) (inside item (inr in_l))

same_items : (l m : List Item) → InLine l → InLine m → ((item : Item) → item ∈ l → item ∈ m) → ((item : Item) → item ∈ m → item ∈ l) → l ≡ m
same_items [] [] s t there back = refl
same_items [] (b ∷ m) s t there back = absurd (back b (inl refl))
same_items (a ∷ l) [] s t there back = absurd (there a (inl refl))
same_items (a ∷ l) (b ∷ m) s t there back =
    let same : a ≡ b = first_same a b l m s.0 t.0 (there a (inl refl)) (back b (inl refl)) in
    let rest : l ≡ m = same_items l m s.1 t.1 (rest_in a b l m same s.0 there) (rest_in b a m l (sym same) t.0 back) in
    ap₂ (λ (x : Item) (y : List Item). x ∷ y) same rest

pub listed_one : {v : View} {among : Pairs} {l m : List Item} → Listed v among l → Listed v among m → l ≡ m
listed_one {v} {among} {l} {m} s t =
    same_items l m s.in_line t.in_line
    (λ item x. (t.exactly item).1 ((s.exactly item).0 x))
    (λ item x. (s.exactly item).1 ((t.exactly item).0 x))
