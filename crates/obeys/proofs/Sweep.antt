-- The view after items have left, by any set of pairs that these items are, and after marks are raised: a sweep is the one and then the other.
-- Assumes nothing.
use Rattle.obeys.proofs.Basis.{◌∙◌, ◌≡◌, Desk, DeskInOrder, Inside, View, ap, bool_cases, channel_places, cleared_row, cond, connection_at}
use Rattle.obeys.proofs.Basis.{connection_places, consumed_below, has, in_use-has, is_input, item_of, item_places, items_in, leads_to, leaving, left, length}
use Rattle.obeys.proofs.Basis.{lessened-at, ltb, ltb-true, none, owner_of, place_of, raised, raised_to, refl, swept, timestamp_at, true, view_of, ℕ}
use Rattle.leaving.proofs.Connections.{connection_left, connection_raised}
use Rattle.leaving.proofs.Places.{PlacesOf, below_places, goes}
use Rattle.leaving.proofs.Stay.{item-stays, none_left, place-stays, state-left}
use Rattle.rules.specs.Rules as Rules
use Rattle.rules.specs.Rules.{Pairs, forgetting}
use Rattle.obeys.proofs.Frame.{view_ext}
use Rattle.obeys.proofs.Rows.{input_seen, input_of, row-raised}
use Rattle.obeys.proofs.Shown.{inputs_changed}

-- ---- items leave

-- those of a set of pairs, whose places a word has
module _ (d : Desk) (o : DeskInOrder d) (pairs : Pairs) (gone : ℕ) (are : PlacesOf d.timestamps d.held pairs gone) where
  abbrev fewer : Desk
  fewer = left d gone

  leaves : (channel place : ℕ) → has (items_in d channel) place ≡ true → has gone place ≡ pairs channel (timestamp_at d place)
  leaves = goes d.timestamps d.held o.items.lies pairs gone are

  left-item : (channel timestamp : ℕ) → item_of fewer channel timestamp ≡ cond (pairs channel timestamp) none (item_of d channel timestamp)
  unfolding left
  left-item channel timestamp =
      let p : ℕ = place_of d.timestamps (items_in d channel) timestamp in
      let sized = o.items.timestamps.sized in
      rw (lessened-at channel_places gone d.held o.items.held.sized channel)
      (bool_cases (pairs channel timestamp)
      (λ goes_too. rw (goes_too, none_left d.timestamps sized gone (items_in d channel) (pairs channel) (leaves channel) timestamp goes_too))
      (λ stays. rw (stays, place-stays d.timestamps sized gone (items_in d channel) (pairs channel) (leaves channel) timestamp stays)
      (bool_cases (ltb p item_places)
      (λ q. rw (
        q,
        item-stays d.timestamps sized gone (items_in d channel) (pairs channel) (leaves channel) timestamp stays (ltb-true p item_places q)
            d.tickets o.items.tickets.sized,
      ))
      (λ q. rw q))))

  input_left : (k : ℕ) → is_input d k ≡ true → input_of fewer.timestamps (owner_of d k) (leads_to d k) (connection_at fewer k)
      ≡ forgetting pairs (input_of d.timestamps (owner_of d k) (leads_to d k) (connection_at d k))
  unfolding left cleared_row
  input_left k reads =
      ap (input_of fewer.timestamps (owner_of d k) (leads_to d k))
      (connection_left d.leads d.held d.marks d.opened d.consumed k
      o.items.held.sized o.connections.opened.sized o.connections.consumed.sized gone)
      ∙ input_seen (state-left d.timestamps o.items.timestamps.sized gone (connection_at d k) (pairs (leads_to d k)) (leaves (leads_to d k)))

  pub view_left : view_of (left d gone) ≡ Rules.left (view_of d) pairs
  unfolding view_of left
  view_left =
      view_ext (λ t. refl) (λ c. refl)
      (inputs_changed d fewer.marks fewer.opened fewer.consumed fewer.present fewer.held fewer.timestamps fewer.tickets _ input_left)
      left-item

-- ---- marks are raised

module _ (d : Desk) (sized : length d.marks ≡ connection_places) (inside : Inside connection_places d.inputs) (bound : ℕ) where
  input_raised : (k : ℕ) → is_input d k ≡ true → input_of d.timestamps (owner_of d k) (leads_to d k) (connection_at (raised_to d bound) k)
      ≡ consumed_below bound (input_of d.timestamps (owner_of d k) (leads_to d k) (connection_at d k))
  unfolding raised_to
  input_raised k reads =
      ap (input_of d.timestamps (owner_of d k) (leads_to d k))
      (connection_raised d.leads d.held d.marks d.opened d.consumed k sized d.inputs inside bound
      ∙ rw (in_use-has d.inputs k connection_places reads))
      ∙ row-raised d.timestamps (owner_of d k) (leads_to d k) (connection_at d k) bound

  pub view_raised : view_of (raised_to d bound) ≡ Rules.raised_to (view_of d) bound
  unfolding view_of raised_to
  view_raised =
      view_ext (λ t. refl) (λ c. refl)
      (inputs_changed d (raised d.inputs bound d.marks) d.opened d.consumed d.present d.held d.timestamps d.tickets _ input_raised)
      (λ c n. refl)

-- ---- a sweep

pub view_swept : (d : Desk) → DeskInOrder d → (bound : ℕ) → view_of (swept d bound) ≡ Rules.swept (view_of d) bound
unfolding swept left
view_swept d o bound =
    view_raised (left d (leaving d bound)) o.connections.marks.sized o.connections.inputs bound
    ∙ ap (λ (v : View). Rules.raised_to v bound)
    (view_left d o (Rules.below bound) (leaving d bound) (below_places d.timestamps d.held o.items.lies o.items.present bound))
