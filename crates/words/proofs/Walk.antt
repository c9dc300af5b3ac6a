-- A loop over the places of a word, lowest first, is the fold over all its places: the step at the lowest place can be taken beforehand. And any loop
-- that counts up. Assumes nothing.
use mathlib.Core.Bool.{Bool, ◌&&◌, cond, false, true}
use mathlib.Core.Logic.{◌≢◌, ⊎_elim}
use mathlib.Core.Path.{◌∙◌, ◌≡◌, ap, ap₂, refl, subst, sym}
use Prim.Native.Nat.{◌<◌, ◌≤◌, suc, zero, ℕ}
use native.Mathlib.Nat.{eq-or-lt_of_le, le_of_suc-le-suc, le_refl, not-suc-le-zero}
use native.Mathlib.Omega.{arith}
use Rattle.std.proofs.Common.{Some, None}
use Rattle.words.specs.Places.{each, fold_to}
use Rattle.words.specs.Words.{count, has, lowest, walks, without, word_places}
use Rattle.words.specs.declared.PlaceWalk.{PlaceWalk}
use Rattle.words.proofs.Laws.{count-without, lowest-below, lowest-has, without_other, without-same}

module _ {B : Type 0} where
  -- a step that is taken at the places of the word alone
  abbrev pub within : ℕ → (ℕ → B → B) → ℕ → B → B
  within w f p x = cond (has w p) (f p x) x

  -- ---- a loop that counts up

  pub fold_ext : (f g : ℕ → B → B) (b : B) (n : ℕ) → ((i : ℕ) (x : B) → i < n → f i x ≡ g i x) → fold_to f b n ≡ fold_to g b n
  unfolding fold_to
  fold_ext f g b zero h = refl
  fold_ext f g b (suc n) h =
      ap (f n) (fold_ext f g b n (λ i x l. h i x (omega arith))) ∙ h n (fold_to g b n) (le_refl (suc n))

  -- ---- a loop over the places of a word

  -- below the lowest place no step is taken
  fold_none : (f : ℕ → B → B) (w : ℕ) (b : B) (n : ℕ) → ((i : ℕ) → i < n → has w i ≡ false) → fold_to (within w f) b n ≡ b
  unfolding fold_to
  fold_none f w b zero h = refl
  fold_none f w b (suc n) h =
      ap (λ (t : Bool). cond t (f n (fold_to (within w f) b n)) (fold_to (within w f) b n)) (h n (le_refl (suc n)))
      ∙ fold_none f w b n (λ i l. h i (omega arith))

  -- the step at the lowest place p can be taken beforehand, for any end past p
  fold_lowest : (f : ℕ → B → B) (w v p : ℕ) (b : B) (n : ℕ)
      → has w p ≡ true
      → ((i : ℕ) → i < p → has w i ≡ false)
      → has v p ≡ false
      → ((i : ℕ) → i < n → i ≢ p → has v i ≡ has w i)
      → p < n
      → fold_to (within v f) (f p b) n ≡ fold_to (within w f) b n
  unfolding fold_to
  fold_lowest f w v p b zero in_w below out_v other l = absurd (not-suc-le-zero l)
  fold_lowest f w v p b (suc n) in_w below out_v other l =
      ⊎_elim
      here
      (λ k. past k (fold_lowest f w v p b n in_w below out_v (λ i j. other i (omega arith)) k))
      (eq-or-lt_of_le (le_of_suc-le-suc l))
    where
      here : p ≡ n → within v f n (fold_to (within v f) (f p b) n) ≡ within w f n (fold_to (within w f) b n)
      here e =
          let none_in_v = fold_none f v (f p b) n (λ i k. other i (omega arith) (λ q. omega arith) ∙ below i (omega arith)) in
          let none_in_w = fold_none f w b n (λ i k. below i (omega arith)) in
          ap₂ (λ (t : Bool) (x : B). cond t (f n x) x) (ap (has v) (sym e) ∙ out_v) none_in_v
          ∙ ap (λ (i : ℕ). f i b) e
          ∙ sym (ap₂ (λ (t : Bool) (x : B). cond t (f n x) x) (ap (has w) (sym e) ∙ in_w) none_in_w)

      past : p < n
          → fold_to (within v f) (f p b) n ≡ fold_to (within w f) b n
          → within v f n (fold_to (within v f) (f p b) n) ≡ within w f n (fold_to (within w f) b n)
      past k rest = ap₂ (λ (t : Bool) (x : B). cond t (f n x) x) (other n (le_refl (suc n)) (λ q. omega arith)) rest

  -- ---- the loop as the code has it: p is the lowest place of what is left, w, and x what was reached; t is the whole

  each_next : (n : ℕ) (f : ℕ → B → B) (w : ℕ) (x : B) → n ≤ word_places → lowest w < n → each n (has (without w (lowest w))) f (f (lowest w) x) ≡ each n (has w) f x
  unfolding each
  each_next n f w x m l =
      fold_lowest
      f
      w
      (without w (lowest w))
      (lowest w)
      x
      n
      (lowest-has w (omega arith))
      (λ i k. lowest-below w k)
      (without-same w (lowest w))
      (λ i k. without_other w (omega arith))
      l

  -- one turn: the step at the lowest place, and on without it
  pub each_turn : (n : ℕ) (f : ℕ → B → B) (w : ℕ) (x : B) {v p : ℕ} {y t : B} → n ≤ word_places → p < n → p ≡ lowest w → y ≡ f p x → v ≡ without w p → each n (has w) f x ≡ t → each n (has v) f y ≡ t
  each_turn n f w x {v} {p} m l e step rest whole =
      ap₂ (λ (u : ℕ) (z : B). each n (has u) f z) (rest ∙ ap (without w) e) (step ∙ ap (λ (i : ℕ). f i x) e)
      ∙ each_next n f w x m (rw e at l)
      ∙ whole

  -- the end: no place below n is left
  pub each-done : (n : ℕ) (f : ℕ → B → B) (w : ℕ) {p : ℕ} {x t : B} → n ≤ p → p ≡ lowest w → each n (has w) f x ≡ t → x ≡ t
  unfolding each
  each-done n f w {p} {x} l e whole = sym (fold_none f w x n (λ i k. lowest-below w (omega arith))) ∙ whole

  -- ---- the same, of the steps of a walk over the places below n

  -- the first place is still to come
  pub walk_starts : (n : ℕ) (f : ℕ → B → B) (x : B) {word : ℕ} {made walk : PlaceWalk} {t : B} → walk ≡ made
      → (made.rest ≡ word) × (made.end ≡ n)
      → each n (has word) f x ≡ t
      → (walk.end ≡ n) × (each n (has walk.rest) f x ≡ t)
  walk_starts n f x same is whole = (
    ap (λ (w : PlaceWalk). w.end) same ∙ is.1,
    ap (λ (w : ℕ). each n (has w) f x) (ap (λ (w : PlaceWalk). w.rest) same ∙ is.0) ∙ whole,
  )

  pub walk_turn : (n : ℕ) (f : ℕ → B → B) (x : B) (walk after : PlaceWalk) {p : ℕ} {y t : B} → n ≤ word_places → walk.end ≡ n → walks walk (Some p) after
      → y ≡ f p x
      → each n (has walk.rest) f x ≡ t
      → (after.end ≡ n) × (each n (has after.rest) f y ≡ t)
  walk_turn n f x walk after {p} m ends steps step whole = (
    ap (λ (w : PlaceWalk). w.end) steps.2 ∙ ends,
    each_turn n f walk.rest x m
        (let inside = steps.1 in omega arith)
        steps.0 step
        (ap (λ (w : PlaceWalk). w.rest) steps.2)
        whole,
  )

  pub walk-done : (n : ℕ) (f : ℕ → B → B) (walk after : PlaceWalk) {x t : B} → n ≤ word_places → walk.end ≡ n → walks walk None after
      → each n (has walk.rest) f x ≡ t
      → x ≡ t
  walk-done n f walk after m ends steps whole = each-done n f walk.rest (let past = steps.0 in omega arith) refl whole

  -- ---- which places count

  both_ways : (a b : Bool) (y x : B) → cond (a && b) y x ≡ cond a (cond b y x) x
  both_ways true b y x = refl
  both_ways false b y x = refl

  -- a test of two parts: one chooses the places, the other is left to the step
  pub each_and : (n : ℕ) (f : ℕ → B → B) (x : B) (counts a b : ℕ → Bool) → ((i : ℕ) → i < n → counts i ≡ (a i && b i)) → each n counts f x ≡ each n a (λ i y. cond (b i) (f i y) y) x
  unfolding each
  each_and n f x counts a b h =
      fold_ext _ _ x n (λ i y l. ap (λ (t : Bool). cond t (f i y) y) (h i l) ∙ both_ways (a i) (b i) (f i y) y)

  pub each_ext : (n : ℕ) (f g : ℕ → B → B) (x : B) (a b : ℕ → Bool) → ((i : ℕ) → i < n → a i ≡ b i) → ((i : ℕ) (y : B) → i < n → f i y ≡ g i y) → each n a f x ≡ each n b g x
  unfolding each
  each_ext n f g x a b h k = fold_ext _ _ x n (λ i y l. ap₂ (λ (t : Bool) (z : B). cond t z y) (h i l) (k i y l))

-- the measure of such a loop
pub each_falls : (w : ℕ) {v p : ℕ} → p < word_places → p ≡ lowest w → v ≡ without w p → count v < count w
each_falls w {v} {p} l e rest =
    let fewer : count (without w (lowest w)) < count w = omega (arith, count-without w (rw e at l) (lowest-has w (rw e at l))) in
    subst (λ (u : ℕ). count u < count w) (sym (rest ∙ ap (without w) e)) fewer

-- ---- what a loop keeps

-- what holds at the start, and is kept at each place that passes and at each that does not, holds at the end
pub each_keeps : {B : Type 0} (P : ℕ → B → Type 0) (test : ℕ → Bool) (step : ℕ → B → B) (b : B)
    → P 0 b
    → ((i : ℕ) (x : B) → test i ≡ true → P i x → P (suc i) (step i x))
    → ((i : ℕ) (x : B) → test i ≡ false → P i x → P (suc i) x)
    → (n : ℕ) → P n (each n test step b)
unfolding each fold_to
each_keeps P test step b start taken passed_over zero = start
each_keeps P test step b start taken passed_over (suc n) =
    go (test n) refl (each n test step b) (each_keeps P test step b start taken passed_over n)
  where
    go : (passes : Bool) → test n ≡ passes → (x : _) → P n x → P (suc n) (cond passes (step n x) x)
    go true e x before = taken n x e before
    go false e x before = passed_over n x e before

-- the places below the next one are this one and those below it
pub and_this : (P : ℕ → Type 0) {n : ℕ} → P n → ((i : ℕ) → i < n → P i) → (i : ℕ) → i < suc n → P i
and_this P here earlier i below = ⊎_elim (λ same. subst P (sym same) here) (earlier i) (eq-or-lt_of_le (le_of_suc-le-suc below))
