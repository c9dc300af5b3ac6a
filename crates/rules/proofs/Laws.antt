-- Reading what was changed at one number, deciding, and searching. Assumes nothing.
use Rattle.rules.proofs.Basis.{◌≡◌, ◌∙◌, refl, sym, ap, subst, Bool, true, false, true≢false, cond, ◌⊎◌, inl, inr, ⊎_elim, by_cases, Option, none, some, Option·none-ne-some, Option_discrete, ℕ, zero, suc, ◌-◌, min, ◌≤◌, ◌<◌, dec_lt, dec_le}
use Rattle.rules.proofs.Basis.{ℕ_discrete, map_dec, arith, le_refl, eqb, ltb, eqb-true, eqb-false, eq-eqb, ne_eqb, ltb-true, ltb-false, State, Absent, Unseen, Open, Consumed, state_number}
use Rattle.rules.specs.Rules.{never, View, at, with_item, Smallest, Lowest}

-- ---- by cases

pub cond_elim : {A : Type 0} (P : A → Type 0) (b : Bool) (x y : A) → (b ≡ true → P x) → (b ≡ false → P y) → P (cond b x y)
cond_elim P true x y f g = f refl
cond_elim P false x y f g = g refl

-- what is said of the new one and of the old ones is said of the ones that are there now
pub at_elim : {A : Type 0} (P : A → Type 0) (old : ℕ → A) (number : ℕ) (new : A) (n : ℕ)
    → (n ≡ number → P new) → ((n ≡ number → ⊥) → P (old n)) → P (at old number new n)
at_elim P old number new n f g = cond_elim P (eqb n number) new (old n) (λ e. f (eqb-true n number e)) (λ e. g (eqb-false n number e))

-- the same where all below a bound changed
pub below_elim : {A : Type 0} (P : A → Type 0) (n bound : ℕ) (x y : A) → (n < bound → P x) → (bound ≤ n → P y) → P (cond (ltb n bound) x y)
below_elim P n bound x y f g = cond_elim P (ltb n bound) x y (λ e. f (ltb-true n bound e)) (λ e. g (ltb-false n bound e))

-- and where one item came
pub item_elim : (P : Option ℕ → Type 0) (v : View) (channel timestamp ticket c t : ℕ) → (c ≡ channel → t ≡ timestamp → P (some ticket)) → P (v.item c t)
    → P ((with_item v channel timestamp ticket).item c t)
item_elim P v channel timestamp ticket c t new old =
    cond_elim (λ f. P (f t)) (eqb c channel) (at (v.item c) timestamp (some ticket)) (v.item c)
    (λ q. at_elim P (v.item c) timestamp (some ticket) t (new (eqb-true c channel q)) (λ ne. old)) (λ q. old)

pub option_cases : {A P : Type 0} (o : Option A) → (o ≡ none → P) → ((a : A) → o ≡ some a → P) → P
option_cases none f g = f refl
option_cases (some a) f g = g a refl

pub at_same : {A : Type 0} (old : ℕ → A) (number : ℕ) (new : A) → at old number new number ≡ new
at_same old number new = rw (eq-eqb number number refl)

pub at_other : {A : Type 0} (old : ℕ → A) (number : ℕ) (new : A) (n : ℕ) → (n ≡ number → ⊥) → at old number new n ≡ old n
at_other old number new n apart = rw (ne_eqb n number apart)

pub some_one : {o : Option ℕ} {a b : ℕ} → o ≡ some a → o ≡ some b → a ≡ b
some_one s t = cc

pub not_none : {A : Type 0} {o : Option A} {a : A} → o ≡ some a → o ≡ none → ⊥
not_none {A} {o} {a} s t = Option·none-ne-some a (sym t ∙ s)

pub not-below : {a b : ℕ} → (a < b → ⊥) → b ≤ a
not-below over = omega arith

pub not_late : {a b : ℕ} → a < b → b ≤ a → ⊥
not_late early late = omega arith

pub not-false : {b : Bool} → b ≡ true → b ≡ false → ⊥
not-false is lacks = true≢false (sym is ∙ lacks)

-- ---- deciding

-- one of two; the library's own is of a truncated sum
pub either : {P Q : Type 0} → Dec P → Dec Q → Dec (P ⊎ Q)
either (yes p) d = yes (inl p)
either (no n) (yes q) = yes (inr q)
either (no n) (no m) = no (⊎_elim n m)

-- a state is known by its number
abbrev numbered : ℕ → State
numbered n = cond (eqb n 0) Absent (cond (eqb n 1) Unseen (cond (eqb n 2) Open Consumed))

known : (s : State) → numbered (state_number s) ≡ s
known Absent = refl
known Unseen = refl
known Open = refl
known Consumed = refl

pub state_is : (a s : State) → Dec (s ≡ a)
state_is a s = map_dec (λ e. sym (known s) ∙ ap numbered e ∙ known a) (ap state_number) (ℕ_discrete (state_number s) (state_number a))

pub some_is : (a : ℕ) (o : Option ℕ) → Dec (o ≡ some a)
some_is a o = Option_discrete ℕ_discrete o (some a)

-- ---- searching

-- the lowest number that fits, below some number
abbrev pub Found : (ℕ → Type 0) → ℕ → Type 0
Found P n = ((m : ℕ) × (m < n) × Lowest P m) ⊎ ((m : ℕ) → m < n → P m → ⊥)

pub search_below : (P : ℕ → Type 0) → ((m : ℕ) → Dec (P m)) → (n : ℕ) → Found P n
search_below P decide zero = inr (λ m below. absurd (omega arith))
search_below P decide (suc n) = go (search_below P decide n) (decide n)
  where
    go : Found P n → Dec (P n) → Found P (suc n)
    go (inl (m, below, low)) d = inl (m, omega arith, low)
    go (inr lacks) (yes p) = inl (n, omega arith, (p, lacks))
    go (inr lacks) (no q) = inr (λ m below p. by_cases (ℕ_discrete m n) (λ same. q (subst P same p)) (λ differ. lacks m (omega arith) p))

-- the highest is the lowest, counted from above
pub search_last : (P : ℕ → Type 0) → ((m : ℕ) → Dec (P m)) → (n : ℕ) → ((m : ℕ) × P m × ((j : ℕ) → j < n → P j → j ≤ m)) ⊎ ((m : ℕ) → m < n → P m → ⊥)
search_last P decide n =
    let turned : (m : ℕ) → m < n → P m → P (n - suc (n - suc m)) = λ m below p. (let e : m ≡ n - suc (n - suc m) = omega arith in subst P e p) in
    ⊎_elim (λ (m, inside, low). inl (n - suc m, low.0, λ j below p. not-below (λ over. low.1 (n - suc j) (omega arith) (turned j below p))))
    (λ lacks. inr (λ m below p. lacks (n - suc m) (omega arith) (turned m below p)))
    (search_below (λ m. P (n - suc m)) (λ m. decide (n - suc m)) n)

-- some number below n fits, where what fits is below n
pub exists_below : (P : ℕ → Type 0) → ((m : ℕ) → Dec (P m)) → (n : ℕ) → ((m : ℕ) → P m → m < n) → Dec ((m : ℕ) × P m)
exists_below P decide n below = ⊎_elim (λ (m, inside, low). yes (m, low.0)) (λ lacks. no (λ (m, p). lacks m (below m p) p)) (search_below P decide n)

pub smallest : (Among : ℕ → Type 0) → ((m : ℕ) → Dec (Among m)) → (least : ℕ) × Smallest Among least
smallest Among decide =
    ⊎_elim (λ (m, below, low). made m (omega arith) low.1 (λ under. low.0)) (λ lacks. made never (le_refl never) lacks (λ under. absurd (omega arith)))
    (search_below Among decide never)
  where
    made : (m : ℕ) → m ≤ never → ((j : ℕ) → j < m → Among j → ⊥) → (m < never → Among m) → (least : ℕ) × Smallest Among least
    made m top low fits = (m, record { at_most_never = top; at_most_each = λ time among. not-below (λ under. low time under among); attained = fits })

-- a bound of all of them is a bound of the smallest
pub smallest_above : {Among : ℕ → Type 0} {least bound : ℕ} → Smallest Among least → bound ≤ never → ((time : ℕ) → Among time → bound ≤ time) → bound ≤ least
smallest_above {Among} {least} {bound} s top each =
    by_cases (dec_lt least never) (λ below. each least (s.attained below)) (λ above. omega (arith, s.at_most_never))

-- there is one smallest
pub smallest_one : {Among : ℕ → Type 0} {a b : ℕ} → Smallest Among a → Smallest Among b → a ≡ b
smallest_one s t = omega (arith, smallest_above t s.at_most_never s.at_most_each, smallest_above s t.at_most_never t.at_most_each)

-- the smallest of the same times in other words
pub smallest_as : {A B : ℕ → Type 0} {n : ℕ} → ((time : ℕ) → A time → B time) → ((time : ℕ) → B time → A time) → Smallest A n → Smallest B n
smallest_as to from s =
    record { at_most_never = s.at_most_never; at_most_each = λ time b. s.at_most_each time (from time b); attained = λ below. to _ (s.attained below) }

-- of one time
pub smallest_single : {n : ℕ} → n ≤ never → Smallest (λ time. n ≡ time) n
smallest_single top = record { at_most_never = top; at_most_each = λ time same. omega arith; attained = λ below. refl }

-- of two kinds of times
pub smallest-either : {A B : ℕ → Type 0} {a b : ℕ} → Smallest A a → Smallest B b → Smallest (λ time. A time ⊎ B time) (min a b)
smallest-either {A} {B} {a} {b} s t = record {
  at_most_never = omega (arith, s.at_most_never);
  at_most_each = λ time. ⊎_elim (λ x. omega (arith, s.at_most_each time x)) (λ x. omega (arith, t.at_most_each time x));
  attained = λ below. elim (dec_le a b) [
    | yes low ↦ inl (subst A (omega arith) (s.attained (omega arith)))
    | no high ↦ inr (subst B (omega arith) (t.attained (omega arith)))
  ];
}
