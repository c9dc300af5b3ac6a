-- A call does what its view says where its checks agree with the refusals of the view, and its effect with what is accepted. Assumes nothing.
use Rattle.obeys.proofs.Basis.{◌≡◌, ap, refl, subst, sym, Bool, cond, false, true, inl, inr, List, [], ◌∷◌, ℕ, Call, slice_of, Told, Check, decided, needs, refusal, Pass, bool_cases, passed, true_not_false, checks, effect}
use Rattle.obeys.proofs.Basis.{outcome, slice_after, step, told, Desk, Passed, passing, Does, NoneOf, Not, Outcome, Refusal, Refuses, View, done, refuse, rule, outcome_of, view_of, passes, ◌&&◌}
use Rattle.rows.specs.declared.Answer.{Answer}
use Rattle.desk.specs.declared.Next.{Next}
use Rattle.obeys.proofs.Reached.{step-accepted}

-- two views are equal where all that they say is
pub view_ext : {v w : View} → ((t : ℕ) → v.thread t ≡ w.thread t) → ((c : ℕ) → v.channel c ≡ w.channel c)
    → ((k : ℕ) → v.connection k ≡ w.connection k) → ((c t : ℕ) → v.item c t ≡ w.item c t) → v ≡ w
view_ext thread channel connection item =
    λ i. record { thread = λ t. thread t i; channel = λ c. channel c i; connection = λ k. connection k i; item = λ c t. item c t i }

-- ---- checks and refusals

pub record Matches (check : Check) (refusal : Refusal) : Type 0 where
  pub code : check.refused.code ≡ refusal.code
  pub fails : check.holds ≡ false → (case : refusal.Case) × (check.refused.value ≡ refusal.value case) × (check.refused.time ≡ refusal.time case)
  pub holds : check.holds ≡ true → Not refusal

-- one by one, each where those before it hold
abbrev pub Agree : List Check → List Refusal → Type 0
Agree [] [] = Unit {0}
Agree [] (r ∷ rs) = ⊥
Agree (c ∷ cs) [] = ⊥
Agree (c ∷ cs) (r ∷ rs) = Matches c r × (c.holds ≡ true → Agree cs rs)

-- a check that agrees, and the rest where it holds
pub check : {c : Check} {r : Refusal} {Rest : Type 0} → Matches c r → (c.holds ≡ true → Rest) → Matches c r × (c.holds ≡ true → Rest)
check here rest = (here, rest)

-- a refusal that answers 0 and 0
pub plain : (b : Bool) (code : ℕ) (Case : Type 0) → (b ≡ false → Case) → (b ≡ true → Case → ⊥) → Matches (needs b (refusal code)) (refuse code Case)
plain b code Case fails holds = record { code = refl; fails = λ e. (fails e, refl, refl); holds = holds }

none_of : (cs : List Check) (rs : List Refusal) → Agree cs rs → Pass cs → NoneOf rs
none_of [] [] agree pass = tt
none_of [] (r ∷ rs) agree pass = absurd agree
none_of (c ∷ cs) [] agree pass = absurd agree
none_of (c ∷ cs) (r ∷ rs) agree pass = (agree.0.holds pass.0, none_of cs rs (agree.1 pass.0) pass.1)

module _ (told : Told) where
  abbrev RefusesAs : List Refusal → Answer → Type 0
  RefusesAs rs a = Refuses rs a.code a.value a.time

  first_refusal : (cs : List Check) (rs : List Refusal) → Agree cs rs → passes cs ≡ false → RefusesAs rs (decided cs told)
  unfolding decided passes
  first_refusal [] [] agree refused = absurd (true_not_false {b = true} refl refused)
  first_refusal [] (r ∷ rs) agree refused = absurd agree
  first_refusal (c ∷ cs) [] agree refused = absurd agree
  first_refusal (c ∷ cs) (r ∷ rs) agree refused = go c.holds refl refused (λ e. first_refusal cs rs (agree.1 e))
    where
      go : (b : Bool) → c.holds ≡ b → (b && passes cs) ≡ false
          → (c.holds ≡ true → passes cs ≡ false → RefusesAs rs (decided cs told))
          → RefusesAs (r ∷ rs) (cond b (decided cs told) c.refused)
      go true e refused later = inr (agree.0.holds e, later e refused)
      go false e refused later = let (case, value, time) = agree.0.fails e in inl (case, agree.0.code, value, time)

  -- so either every check passes and nothing is refused, or the first that fails is what the view refuses with
  pub either_way : (cs : List Check) (rs : List Refusal) → Agree cs rs → {P : Type 0}
      → (passes cs ≡ true → NoneOf rs → P) → (passes cs ≡ false → RefusesAs rs (decided cs told) → P) → P
  either_way cs rs agree accepted refused =
      bool_cases (passes cs)
      (λ e. accepted e (none_of cs rs agree (passed cs e)))
      (λ e. refused e (first_refusal cs rs agree e))

-- ---- a call

module _ (d : Desk) (call : Call)
    (agree : Agree (checks d call) (rule (view_of d) call).refusals)
    (accepts : Passed d call → (rule (view_of d) call).Accepts (done (told d call).value (told d call).time (view_of (effect d call)) (slice_after d call)))
    (stays : passes (checks d call) ≡ false → slice_after d call ≡ slice_of call) where
  abbrev after : Next → Outcome
  after next = record { code = next.answer.code; value = next.answer.value; time = next.answer.time; view = view_of next.desk; slice = slice_after d call }

  pub does : Does (view_of d) call (outcome_of d call)
  unfolding outcome_of step outcome
  does =
      either_way (told d call) (checks d call) (rule (view_of d) call).refusals agree
      (λ pass none. inr (none, subst (rule (view_of d) call).Accepts (sym (ap after (step-accepted d call pass))) (accepts (passing d call pass))))
      (λ e refused. inl (refused, ap (λ (b : Bool). view_of (cond b (effect d call) d)) e, stays e))
