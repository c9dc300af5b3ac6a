-- Where a timestamp lies among a channel's places: where these have different timestamps it has one place, so that the state of a timestamp is that of
-- its item's place. Assumes nothing.
use mathlib.Core.Bool.{Bool, ◌&&◌, true}
use mathlib.Core.List.{List}
use mathlib.Core.Logic.{◌≢◌}
use mathlib.Core.Path.{◌∙◌, ◌≡◌, ap, sym}
use Prim.Native.Nat.{◌<◌, ◌≤◌, ℕ}
use native.Mathlib.Omega.{arith}
use borrow.Author.Tests.{eq-eqb, eqb-true}
use Rattle.words.specs.Words.{has}
use Rattle.words.proofs.Laws.{lowest_ext, lowest-holds, lowest_reach}
use Rattle.words.proofs.YesOrNo.{and_both, and_left, and_right, bool_cases, not_then}
use Rattle.calls.specs.States.{is_pending}
use Rattle.calls.specs.declared.State.{State}
use Rattle.rows.specs.States.{state_of}
use Rattle.rows.specs.declared.Connection.{Connection}
use Rattle.rows.proofs.Seen.{unconsumed}
use Rattle.tables.specs.Columns.{at, item_places}
use Rattle.tables.specs.Seen.{is_item, place_of, state, state_at}

-- the places have different timestamps
abbrev pub Distinct : List ℕ → ℕ → Type 0
Distinct timestamps places =
    (place other : ℕ) → has places place ≡ true → has places other ≡ true → at item_places timestamps place ≡ at item_places timestamps other → place ≡ other

-- ---- the place of a timestamp

module _ (timestamps : List ℕ) (places timestamp : ℕ) where
  -- the timestamp lies in the place
  pub record Holds (place : ℕ) : Type 0 where
    pub inside : place < item_places
    pub there : has places place ≡ true
    pub timestamp_is : at item_places timestamps place ≡ timestamp

  pub holds_of : {place : ℕ} → place < item_places → is_item timestamps places timestamp place ≡ true → Holds place
  unfolding is_item
  holds_of {place} below is = record { inside = below; there = and_left _ _ is; timestamp_is = eqb-true _ timestamp (and_right (has places place) _ is) }

  pub holds-item : {place : ℕ} → Holds place → is_item timestamps places timestamp place ≡ true
  unfolding is_item
  holds-item h = and_both h.there (eq-eqb _ _ h.timestamp_is)

  -- a place that was found holds the timestamp
  pub found-holds : place_of timestamps places timestamp < item_places → Holds (place_of timestamps places timestamp)
  unfolding place_of
  found-holds below = holds_of below (lowest-holds (is_item timestamps places timestamp) item_places below)

  -- and one that holds it is found, where no other does
  pub holds-place : Distinct timestamps places → {place : ℕ} → Holds place → place_of timestamps places timestamp ≡ place
  unfolding place_of
  holds-place distinct {place} h =
      let found : ℕ = place_of timestamps places timestamp in
      let low : found ≤ place = lowest_reach (is_item timestamps places timestamp) h.inside (holds-item h) in
      let inside : place < item_places = h.inside in
      let g = found-holds (omega arith) in
      distinct found place g.there h.there (g.timestamp_is ∙ sym h.timestamp_is)

-- another timestamp has another place
pub place_apart : (timestamps : List ℕ) (places timestamp : ℕ) {place : ℕ} → Holds timestamps places timestamp place
    → (other : ℕ) → other ≢ timestamp → place_of timestamps places other ≢ place
place_apart timestamps places timestamp {place} h other apart same =
    let below : place_of timestamps places other < item_places = omega (arith, h.inside) in
    apart (sym (found-holds timestamps places other below).timestamp_is ∙ ap (at item_places timestamps) same ∙ h.timestamp_is)

-- a timestamp lies in the same place of two channels, where each holds it wherever the other does
pub same_place : (timestamps stamps : List ℕ) (places others timestamp : ℕ)
    → ((place : ℕ) → Holds timestamps places timestamp place → Holds stamps others timestamp place)
    → ((place : ℕ) → Holds stamps others timestamp place → Holds timestamps places timestamp place)
    → place_of stamps others timestamp ≡ place_of timestamps places timestamp
unfolding place_of
same_place timestamps stamps places others timestamp still before =
    lowest_ext _ _ item_places (λ p inside. bool_cases (is_item timestamps places timestamp p)
    (λ is. holds-item stamps others timestamp (still p (holds_of timestamps places timestamp inside is)) ∙ sym is)
    (λ is. not_then (λ now. holds-item timestamps places timestamp (before p (holds_of stamps others timestamp inside now))) is ∙ sym is))

-- ---- the state of a timestamp

module _ (timestamps : List ℕ) (row : Connection) where
  pub holds-state : Distinct timestamps row.items → (timestamp : ℕ) {place : ℕ} → Holds timestamps row.items timestamp place
      → state timestamps row timestamp ≡ state_of row timestamp place
  unfolding state
  holds-state distinct timestamp h = ap (state_of row timestamp) (holds-place timestamps row.items timestamp distinct h)

  module _ (test : State → Bool) where
    -- a test of the state in an item's place is one of the state of its timestamp
    pub seen_at : Distinct timestamps row.items → (place timestamp : ℕ) → place < item_places
        → (has row.items place && test (state_at timestamps row place)) ≡ true
        → at item_places timestamps place ≡ timestamp → test (state timestamps row timestamp) ≡ true
    seen_at distinct place timestamp inside e is =
        let h : Holds timestamps row.items timestamp place = record { inside = inside; there = and_left _ _ e; timestamp_is = is } in
        ap test (holds-state distinct timestamp h ∙ ap (λ (t : ℕ). state_of row t place) (sym is)) ∙ and_right (has row.items place) _ e

    -- and a pending timestamp has such a place
    pub at_seen : (timestamp : ℕ) → is_pending (state timestamps row timestamp) ≡ true → test (state timestamps row timestamp) ≡ true
        → (place : ℕ) × (place < item_places) × ((has row.items place && test (state_at timestamps row place)) ≡ true) × (at item_places timestamps place ≡ timestamp)
    unfolding state
    at_seen timestamp pending passes =
        let place : ℕ = place_of timestamps row.items timestamp in
        let inside = (unconsumed row timestamp place pending).inside in
        let h = found-holds timestamps row.items timestamp inside in
        (place, inside, and_both h.there (rw h.timestamp_is passes), h.timestamp_is)
