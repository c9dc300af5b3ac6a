-- What a yes or a no says of what it was made of. Each law is by looking at both answers. Assumes nothing.
use mathlib.Core.Bool.{Bool, ◌&&◌, ◌||◌, cond, false, false≢true, or-true, true, true≢false}
use mathlib.Core.Logic.{◌⊎◌, inl, inr}
use mathlib.Core.Path.{◌∙◌, ◌≡◌, ap, refl, sym}

pub true_not_false : {b : Bool} → b ≡ true → b ≡ false → ⊥
true_not_false holds fails = true≢false (sym holds ∙ fails)

pub and_left : (a b : Bool) → (a && b) ≡ true → a ≡ true
and_left true b both = refl
and_left false b both = both

pub and_right : (a b : Bool) → (a && b) ≡ true → b ≡ true
and_right true b both = both
and_right false b both = absurd (false≢true both)

pub and_both : {a b : Bool} → a ≡ true → b ≡ true → (a && b) ≡ true
and_both {a} {b} left right = ap (λ (x : Bool). x && b) left ∙ right

pub or_left : {a : Bool} (b : Bool) → a ≡ true → (a || b) ≡ true
or_left b left = ap (λ (x : Bool). x || b) left

pub or_right : (a : Bool) {b : Bool} → b ≡ true → (a || b) ≡ true
or_right a right = ap (λ (x : Bool). a || x) right ∙ or-true a

pub or_one : (a b : Bool) → (a || b) ≡ true → (a ≡ true) ⊎ (b ≡ true)
or_one true b one = inl refl
or_one false b one = inr one

pub bool_cases : {P : Type 0} (b : Bool) → (b ≡ true → P) → (b ≡ false → P) → P
bool_cases true if_true if_false = if_true refl
bool_cases false if_true if_false = if_false refl

pub cond_same : {A : Type 0} (b : Bool) (x : A) → cond b x x ≡ x
cond_same true x = refl
cond_same false x = refl

-- what fails makes fail whatever it follows from
pub not_then : {a b : Bool} → (a ≡ true → b ≡ true) → b ≡ false → a ≡ false
not_then {a} then fails = bool_cases a (λ e. absurd (true_not_false (then e) fails)) (λ e. e)
