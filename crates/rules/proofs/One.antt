-- Two outcomes that a view allows for one call are equal: one refusal is the first, and what an accepted call chooses is one. Assumes nothing.
use Rattle.calls.specs.Questions.{Question, ask_visible_time, ask_weak_bound, ask_strong_bound, ask_state_of, ask_items_present, Request}
use Rattle.rules.proofs.Basis.{◌≡◌, ◌∙◌, refl, sym, ap, ap₂, subst, false, true≢false, List, [], ◌∷◌, ◌++◌, inl, inr, some, ℕ, arith, eqb, length, drop, eq-eqb, Open, Which, Earliest, Latest, Named, Channel, NewThread}
use Rattle.rules.proofs.Basis.{AttachInput, AttachOutput, Detach, End, Set, Put, Get, Consume, ConsumeUntil, Bound, Call, by, sweep}
use Rattle.rules.specs.Claims.{DoesOneThing, GivesOnce}
use Rattle.rules.specs.Rules.{below, output, input, View, with_thread, with_channel, with_connection, seen_as, first_seen, Item, Listed, tickets, Refusal, refuse, Takes, slice_short, Outcome, done, Lowest, with_item, swept, rule}
use Rattle.rules.specs.Rules.{Refuses, NoneOf, Does, asked_of, Says, BoundOf}
use Rattle.rules.specs.Runs.{Reply, reply_of, plain_reply, Gives}
use Rattle.rules.proofs.Laws.{some_one, smallest_one, not-below}
use Rattle.rules.proofs.OneList.{listed_one}
use Rattle.rules.proofs.Ways.{bound_one}

-- ---- what is chosen is one

lowest_one : {Free : ℕ → Type 0} {a b : ℕ} → Lowest Free a → Lowest Free b → a ≡ b
lowest_one {Free} {a} {b} s t = omega (arith, not-below (λ below. t.1 a below s.0), not-below (λ below. s.1 b below t.0))

takes_one : (which : Which) (Fits : ℕ → Type 0) (a b : ℕ) → Takes which Fits a → Takes which Fits b → a ≡ b
takes_one Earliest Fits a b s t = omega (arith, s.1 b t.0, t.1 a s.0)
takes_one Latest Fits a b s t = omega (arith, s.1 b t.0, t.1 a s.0)
takes_one (Named name) Fits a b s t = s.1 ∙ sym t.1

-- a bound, and the items below it
pub below_one : (v : View) (bound : Bound) (a b : ℕ) (l m : List Item) → BoundOf v bound a → BoundOf v bound b → Listed v (below a) l → Listed v (below b) m → (a ≡ b) × (l ≡ m)
below_one v bound a b l m is is' those those' =
    let same : a ≡ b = bound_one v bound a b is is' in
    (same, listed_one (subst (λ (x : ℕ). Listed v (below x) l) same those) those')

-- ---- a refusal has a code, and answers one thing, whichever way it is the case

pub record Settled (r : Refusal) : Type 0 where
  pub coded : eqb r.code 0 ≡ false
  pub one_value : (case other : r.Case) → r.value case ≡ r.value other
  pub one_time : (case other : r.Case) → r.time case ≡ r.time other

-- what holds of every refusal of a list
infixr 20 ◌&◌
pub data Every (P : Refusal → Type 0) : List Refusal → Type 1 where
  nothing_more : Every P []
  ◌&◌ : {r : Refusal} {rs : List Refusal} → P r → Every P rs → Every P (r ∷ rs)

plainly : (code : ℕ) (Case : Type 0) → eqb code 0 ≡ false → Settled (refuse code Case)
plainly code Case coded = record { coded = coded; one_value = λ case other. refl; one_time = λ case other. refl }

counted : (v : View) (bound : Bound) (slice : List ℕ) → Settled (slice_short v (BoundOf v bound) slice)
counted v bound slice = record {
  coded = refl;
  one_value = λ (time, items, is, those, short) (time', items', is', those', short'). ap length (below_one v bound time time' items items' is is' those those').1;
  one_time = λ case other. refl;
}

-- a refusal that tells nothing beside its code needs no word here
ruleset settled = (◌&◌, nothing_more, plainly)

pub all_settled : (v : View) (call : Call) → Every Settled (rule v call).refusals
all_settled v (by thread Channel) = search settled depth 12
all_settled v (by thread (NewThread time)) = search settled depth 12
all_settled v (by thread (AttachInput channel)) = search settled depth 12
all_settled v (by thread (AttachOutput channel)) = search settled depth 12
all_settled v (by thread (Detach connection)) = search settled depth 12
all_settled v (by thread End) = search settled depth 12
all_settled v (by thread (Set time)) = search settled depth 12
all_settled v (by thread (Put connection timestamp ticket)) = search settled depth 12
all_settled v (by thread (Get connection which)) = search settled depth 12
all_settled v (by thread (Consume connection timestamp)) = search settled depth 12
all_settled v (by thread (ConsumeUntil connection timestamp)) = search settled depth 12
all_settled v (sweep bound slice) = counted v bound slice & nothing_more

refuses_one : (rs : List Refusal) → Every Settled rs → (c v t b w u : ℕ) → Refuses rs c v t → Refuses rs b w u → (c ≡ b) × (v ≡ w) × (t ≡ u)
refuses_one [] nothing_more c v t b w u x y = absurd x
refuses_one (r ∷ rs) (s & ss) c v t b w u (inl (x, code, value, time)) (inl (y, code', value', time')) =
    (code ∙ sym code', value ∙ s.one_value x y ∙ sym value', time ∙ s.one_time x y ∙ sym time')
refuses_one (r ∷ rs) (s & ss) c v t b w u (inl x) (inr y) = absurd (y.0 x.0)
refuses_one (r ∷ rs) (s & ss) c v t b w u (inr x) (inl y) = absurd (x.0 y.0)
refuses_one (r ∷ rs) (s & ss) c v t b w u (inr x) (inr y) = refuses_one rs ss c v t b w u x.1 y.1

pub refuses_coded : (rs : List Refusal) → Every Settled rs → (code value time : ℕ) → Refuses rs code value time → eqb code 0 ≡ false
refuses_coded [] nothing_more code value time x = absurd x
refuses_coded (r ∷ rs) (s & ss) code value time (inl x) = ap (λ (c : ℕ). eqb c 0) x.1 ∙ s.coded
refuses_coded (r ∷ rs) (s & ss) code value time (inr x) = refuses_coded rs ss code value time x.1

not-both : (rs : List Refusal) (c v t : ℕ) → Refuses rs c v t → NoneOf rs → ⊥
not-both [] c v t x clear = x
not-both (r ∷ rs) c v t (inl x) clear = clear.0 x.0
not-both (r ∷ rs) c v t (inr x) clear = not-both rs c v t x.1 clear.1

-- what answers 0 was not refused
pub accepted : (v : View) (call : Call) (out : Outcome) → Does v call out → out.code ≡ 0 → NoneOf (rule v call).refusals × (rule v call).Accepts out
accepted v call out (inl (refused, same, lent)) ok =
    absurd (true≢false (sym (eq-eqb out.code 0 ok) ∙ refuses_coded (rule v call).refusals (all_settled v call) out.code out.value out.time refused))
accepted v call out (inr (clear, accepts)) ok = (clear, accepts)

-- ---- an accepted call does one thing

accepts_one : (v : View) (call : Call) (o p : Outcome) → (rule v call).Accepts o → (rule v call).Accepts p → o ≡ p
accepts_one v (by thread Channel) o p (n, low, e) (m, low', e') = e ∙ ap (λ (x : ℕ). done x 0 (with_channel v x) []) (lowest_one low low') ∙ sym e'
accepts_one v (by thread (NewThread time)) o p (n, low, e) (m, low', e') = e ∙ ap (λ (x : ℕ). done x 0 (with_thread v x (some time)) []) (lowest_one low low') ∙ sym e'
accepts_one v (by thread (AttachInput channel)) o p (n, t, low, is, e) (m, u, low', is', e') =
    e ∙ ap₂ (λ (x y : ℕ). done x y (with_connection v x (input thread channel y (first_seen (v.item channel) y))) []) (lowest_one low low') (smallest_one is is') ∙ sym e'
accepts_one v (by thread (AttachOutput channel)) o p (n, low, e) (m, low', e') =
    e ∙ ap (λ (x : ℕ). done x 0 (with_connection v x (output thread channel)) []) (lowest_one low low') ∙ sym e'
accepts_one v (by thread (Detach connection)) o p e e' = e ∙ sym e'
accepts_one v (by thread End) o p e e' = e ∙ sym e'
accepts_one v (by thread (Set time)) o p e e' = e ∙ sym e'
accepts_one v (by thread (Put connection timestamp ticket)) o p (c, into, e) (b, into', e') =
    e ∙ ap (λ (x : ℕ). done 0 0 (with_item v x timestamp ticket) []) (some_one into into') ∙ sym e'
accepts_one v (by thread (Get connection which)) o p (c, t, n, from, takes, there, e) (b, u, m, from', takes', there', e') =
    let channel : c ≡ b = some_one from from' in
    let same_time : t ≡ u = takes_one which _ t u takes takes' in
    let ticket : n ≡ m = some_one (there) (ap₂ v.item channel same_time ∙ there') in
    e ∙ ap₂ (λ (x y : ℕ). done x y (with_connection v connection (seen_as Open y (v.connection connection))) []) ticket same_time ∙ sym e'
accepts_one v (by thread (Consume connection timestamp)) o p e e' = e ∙ sym e'
accepts_one v (by thread (ConsumeUntil connection timestamp)) o p e e' = e ∙ sym e'
accepts_one v (sweep bound slice) o p (time, items, is, those, e) (time', items', is', those', e') =
    let (same, all) = below_one v bound time time' items items' is is' those those' in
    e ∙ ap₂ (λ (b : ℕ) (l : List Item). done (length l) b (swept v b) (tickets l ++ drop (length l) slice)) same all ∙ sym e'

pub does_one_thing : DoesOneThing
does_one_thing v call o p (inl (x, view, slice)) (inl (y, view', slice')) =
    let same = refuses_one (rule v call).refusals (all_settled v call) o.code o.value o.time p.code p.value p.time x y in
    λ i. record { code = same.0 i; value = same.1 i; time = same.2 i; view = (view ∙ sym view') i; slice = (slice ∙ sym slice') i }
does_one_thing v call o p (inl (x, view, slice)) (inr (clear, y)) = absurd (not-both (rule v call).refusals o.code o.value o.time x clear)
does_one_thing v call o p (inr (clear, x)) (inl (y, view, slice)) = absurd (not-both (rule v call).refusals p.code p.value p.time y clear)
does_one_thing v call o p (inr (clear, x)) (inr (clear', y)) = accepts_one v call o p x y

-- ---- a question has one answer

questions_settled : (v : View) (question : Question) → Every Settled (asked_of v question).refusals
questions_settled v (ask_visible_time thread) = plainly 1 _ refl & nothing_more
questions_settled v ask_weak_bound = nothing_more
questions_settled v ask_strong_bound = nothing_more
questions_settled v (ask_state_of connection timestamp) = plainly 3 _ refl & plainly 4 _ refl & plainly 5 _ refl & nothing_more
questions_settled v ask_items_present = nothing_more

tells_one : (v : View) (question : Question) (a t b u : ℕ) → (asked_of v question).Tells a t → (asked_of v question).Tells b u → (a ≡ b) × (t ≡ u)
tells_one v (ask_visible_time thread) a t b u x y = (x.0 ∙ sym y.0, smallest_one x.1 y.1)
tells_one v ask_weak_bound a t b u x y = (x.0 ∙ sym y.0, smallest_one x.1 y.1)
tells_one v ask_strong_bound a t b u x y = (x.0 ∙ sym y.0, smallest_one x.1 y.1)
tells_one v (ask_state_of connection timestamp) a t b u x y = (x.0 ∙ sym y.0, x.1 ∙ sym y.1)
tells_one v ask_items_present a t b u (items, those, value, time) (items', those', value', time') =
    (value ∙ ap length (listed_one those those') ∙ sym value', time ∙ sym time')

says_one : (v : View) (question : Question) (c a t d b u : ℕ) → Says v question c a t → Says v question d b u → (c ≡ d) × (a ≡ b) × (t ≡ u)
says_one v question c a t d b u (inl x) (inl y) = refuses_one (asked_of v question).refusals (questions_settled v question) c a t d b u x y
says_one v question c a t d b u (inl x) (inr (clear, zero_is, y)) = absurd (not-both (asked_of v question).refusals c a t x clear)
says_one v question c a t d b u (inr (clear, zero_is, x)) (inl y) = absurd (not-both (asked_of v question).refusals d b u y clear)
says_one v question c a t d b u (inr (clear, zero_is, x)) (inr (clear', zero_is', y)) =
    let same = tells_one v question a t b u x y in (zero_is ∙ sym zero_is', same.0, same.1)

-- ---- so any calls and questions have one list of replies

once : {v w x y : View} {requests : List Request} {replies others : List Reply} → v ≡ w → Gives v requests replies x → Gives w requests others y → replies ≡ others
once same Gives.stop Gives.stop = refl
once {v} {w} same (Gives.called {call = call} o does rest) (Gives.called o' does' rest') =
    let one : o ≡ o' = does_one_thing w call o o' (subst (λ (u : View). Does u call o) same does) does' in
    ap₂ (λ (x : Reply) (xs : List Reply). x ∷ xs) (ap reply_of one) (once (ap (λ (x : Outcome). x.view) one) rest rest')
once {v} {w} same (Gives.questioned {question = question} c a t says rest) (Gives.questioned d b u says' rest') =
    let one = says_one w question c a t d b u (subst (λ (x : View). Says x question c a t) same says) says' in
    ap₂ (λ (x : Reply) (xs : List Reply). x ∷ xs) (λ i. plain_reply (one.0 i) (one.1 i) (one.2 i)) (once same rest rest')

pub gives_once : GivesOnce
gives_once v w u requests replies others x y = once refl x y
