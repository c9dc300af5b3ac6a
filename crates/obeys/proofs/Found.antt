-- What a get finds is what the view says that it takes: a timestamp that fits has its place, and the best place has the timestamp. Assumes nothing.
use Rattle.obeys.proofs.Basis.{◌∙◌, ◌≡◌, ap, refl, sym, true, ◌<◌, ℕ, arith, eq-eqb, eqb-true, ltb-false, is_pending, is_unseen, Unseen, Which, Earliest, Latest, Named, Row, is_wanted, is_unseen_at, item_places, sought_by, Some, None, found_at}
use Rattle.obeys.proofs.Basis.{Desk, connection_at, is_input, leads_to, timestamp_at, TakesUnseen, state_on, DeskInOrder, view_of, is_unseen_lem, Sought, sought-found, sought_some, seen_at, at_seen}
use Rattle.obeys.proofs.Lookup.{state_view}

module _ (d : Desk) (o : DeskInOrder d) (connection : ℕ) (reads : is_input d connection ≡ true) where
  abbrev row : Row
  row = connection_at d connection

  abbrev Fits : ℕ → Type 0
  Fits timestamp = state_on ((view_of d).connection connection) timestamp ≡ Unseen

  -- a timestamp that fits has its place
  fits_place : (timestamp : ℕ) → Fits timestamp
      → (place : ℕ) × (place < item_places) × (is_unseen_at d.timestamps row place ≡ true) × (timestamp_at d place ≡ timestamp)
  unfolding is_unseen_at
  fits_place timestamp e =
      let now = sym (state_view d connection timestamp reads) ∙ e in
      at_seen d.timestamps row is_unseen timestamp (ap is_pending now) (ap is_unseen now)

  found_fits : (which : Which) (place timestamp : ℕ) → Sought d.timestamps row which place timestamp → Fits timestamp
  unfolding is_unseen_at
  found_fits which place timestamp s =
      state_view d connection timestamp reads
      ∙ is_unseen_lem _ (seen_at d.timestamps row is_unseen (o.items.one_item_a_pair (leads_to d connection)) place timestamp s.inside s.unseen (sym s.is))

  takes_found : (which : Which) (place timestamp : ℕ) → Sought d.timestamps row which place timestamp → TakesUnseen (view_of d) connection which timestamp
  takes_found Earliest place timestamp s = (
    found_fits Earliest place timestamp s,
    λ other fits. (let (p, inside, unseen, is) = fits_place other fits in
        omega (arith, ltb-false (timestamp_at d p) timestamp (s.best p inside unseen refl))),
  )
  takes_found Latest place timestamp s = (
    found_fits Latest place timestamp s,
    λ other fits. (let (p, inside, unseen, is) = fits_place other fits in
        omega (arith, ltb-false timestamp (timestamp_at d p) (s.best p inside unseen refl))),
  )
  takes_found (Named name) place timestamp s = (found_fits (Named name) place timestamp s, eqb-true timestamp name s.wanted)

  pub takes : (which : Which) (place timestamp : ℕ) → sought_by d connection which ≡ Some (found_at place timestamp) → TakesUnseen (view_of d) connection which timestamp
  takes which place timestamp found = takes_found which place timestamp (sought-found d.timestamps row which place timestamp found)

  fits_of : (which : Which) (timestamp : ℕ) → TakesUnseen (view_of d) connection which timestamp → Fits timestamp
  fits_of Earliest timestamp t = t.0
  fits_of Latest timestamp t = t.0
  fits_of (Named name) timestamp t = t.0

  wanted_of : (which : Which) (timestamp place : ℕ) → TakesUnseen (view_of d) connection which timestamp → timestamp_at d place ≡ timestamp
      → is_wanted which (timestamp_at d place) ≡ true
  wanted_of Earliest timestamp place t is = refl
  wanted_of Latest timestamp place t is = refl
  wanted_of (Named name) timestamp place t is = eq-eqb _ name (is ∙ t.1)

  pub takes_none : (which : Which) → sought_by d connection which ≡ None → (timestamp : ℕ) → TakesUnseen (view_of d) connection which timestamp → ⊥
  takes_none which none timestamp t =
      let (p, inside, unseen, is) = fits_place timestamp (fits_of which timestamp t) in
      sought_some d.timestamps row which p inside unseen (wanted_of which timestamp p t is) none
