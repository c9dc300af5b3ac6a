-- The view after a put: one item more, and UNSEEN where it was ABSENT, as no fact stands in the free place where it lies. Assumes nothing.
use Rattle.obeys.proofs.Basis.{◌<◌, ◌∙◌, ◌≡◌, ◌≢◌, ◌≤◌, Desk, DeskInOrder, Inside, Row, ap, at_set_other, at_set_same, at-set_at_other, at-set_at-same}
use Rattle.obeys.proofs.Basis.{beside_place, bool_cases, channel_places, connection_at, connection_places, eq-eqb, false, found-holds, free_lacks, free_item}
use Rattle.obeys.proofs.Basis.{has, in_use-has, is_input, item_of, item_places, items_in, le-leb, leads_to, lt-leb, lt-ltb, ltb, ltb-true, ne_eqb, new_place}
use Rattle.obeys.proofs.Basis.{not_then, noticed, noticing, old_place, owner_of, place_of, refl, same_facts, some, state, state_of, stored, sym, true}
use Rattle.obeys.proofs.Basis.{true_not_false, view_of, with, with_item, ℕ, ℕ_discrete}
use Rattle.obeys.proofs.Frame.{view_ext}
use Rattle.obeys.proofs.Rows.{input_seen, input_of}
use Rattle.obeys.proofs.Shown.{inputs_changed}

-- what a connection says of an item that is there, and has no facts, where it said that there was none
noticed-at : (row : Row) (timestamp place past : ℕ) → place < item_places → item_places ≤ past
    → has row.opened place ≡ false → has row.consumed place ≡ false
    → state_of row timestamp place ≡ noticed (state_of row timestamp past)
unfolding state_of
noticed-at row timestamp place past inside outside unopened unconsumed =
    rw (lt-leb item_places place inside, unopened, unconsumed, le-leb item_places past outside)
    (bool_cases (ltb timestamp row.mark) (λ q. rw q) (λ q. rw q))

module _ (d : Desk) (o : DeskInOrder d) (channel timestamp ticket : ℕ) (exists : channel < channel_places) (free : free_item d < item_places)
    (absent : item_places ≤ place_of d.timestamps (items_in d channel) timestamp) where
  abbrev more : Desk
  more = stored d channel timestamp ticket

  lacks : has d.present (free_item d) ≡ false
  lacks = free_lacks d.present free

  -- no channel has an item in the free place
  not_held : (c : ℕ) → has (items_in d c) (free_item d) ≡ false
  not_held c = not_then (o.items.lies.within c (free_item d)) lacks

  held_inside : (c : ℕ) → Inside item_places (items_in d c)
  held_inside c place there = o.items.present place (o.items.lies.within c place there)

  -- ---- where the items lie

  items_here : items_in more channel ≡ with (items_in d channel) (free_item d)
  unfolding stored
  items_here = at-set_at-same channel_places d.held channel (with (items_in d channel) (free_item d)) exists o.items.held.sized

  items_beside : (c : ℕ) → c ≢ channel → items_in more c ≡ items_in d c
  unfolding stored
  items_beside = at-set_at_other channel_places d.held channel (with (items_in d channel) (free_item d))

  place_new : place_of more.timestamps (items_in more channel) timestamp ≡ free_item d
  unfolding stored
  place_new =
      ap (λ (places : ℕ). place_of more.timestamps places timestamp) items_here
      ∙ new_place d.timestamps o.items.timestamps.sized (free_item d) free timestamp (items_in d channel) (not_held channel)
      (held_inside channel) absent (o.items.one_item_a_pair channel)

  abbrev Another : ℕ → ℕ → Type 0
  Another c n = c ≡ channel → n ≡ timestamp → ⊥

  place_same : (c n : ℕ) → Another c n → place_of more.timestamps (items_in more c) n ≡ place_of d.timestamps (items_in d c) n
  unfolding stored
  place_same c n differ =
      elim (ℕ_discrete c channel) [
        | yes same ↦ ap (λ (its : ℕ). place_of more.timestamps (items_in more its) n) same
            ∙ ap (λ (places : ℕ). place_of more.timestamps places n) items_here
            ∙ old_place d.timestamps o.items.timestamps.sized (free_item d) free timestamp (items_in d channel) (not_held channel) n (differ same)
            ∙ ap (λ (its : ℕ). place_of d.timestamps (items_in d its) n) (sym same)
        | no other ↦ ap (λ (places : ℕ). place_of more.timestamps places n) (items_beside c other)
            ∙ beside_place d.timestamps o.items.timestamps.sized (free_item d) free timestamp (items_in d c) (not_held c) n
      ]

  -- ---- the items

  item_new : item_of more channel timestamp ≡ some ticket
  unfolding stored
  item_new = rw (place_new, lt-ltb (free_item d) item_places free, at_set_same item_places d.tickets (free_item d) ticket free o.items.tickets.sized)

  item-same : (c n : ℕ) → Another c n → item_of more c n ≡ item_of d c n
  unfolding stored
  item-same c n differ =
      rw (place_same c n differ)
      (bool_cases (ltb (place_of d.timestamps (items_in d c) n) item_places)
      (λ q. let h = found-holds d.timestamps (items_in d c) n (ltb-true _ item_places q) in
      rw (
        q,
        at_set_other item_places d.tickets (free_item d) ticket (place_of d.timestamps (items_in d c) n)
            (λ same. true_not_false h.there (ap (has (items_in d c)) same ∙ not_held c)),
      ))
      (λ q. rw q))

  -- ---- the states

  module _ (k : ℕ) (reads : is_input d k ≡ true) where
    abbrev row : Row
    row = connection_at d k

    state_at_lem : (n : ℕ) → state more.timestamps (connection_at more k) n ≡ state_of row n (place_of more.timestamps (items_in more (leads_to d k)) n)
    unfolding state stored
    state_at_lem n = same_facts row (connection_at more k) n _ refl (λ _. refl) (λ _. refl)

    state_new : leads_to d k ≡ channel → state more.timestamps (connection_at more k) timestamp ≡ noticed (state d.timestamps row timestamp)
    unfolding state
    state_new leads =
        let seen = o.seen k (in_use-has d.inputs k connection_places reads) in
        state_at_lem timestamp
        ∙ ap (state_of row timestamp) (ap (λ (c : ℕ). place_of more.timestamps (items_in more c) timestamp) leads ∙ place_new)
        ∙ noticed-at row timestamp (free_item d) (place_of d.timestamps row.items timestamp) free (rw leads absent)
        (not_then (seen.opened (free_item d)) (not_held (leads_to d k))) (not_then (seen.consumed (free_item d)) (not_held (leads_to d k)))

    state-same : (n : ℕ) → Another (leads_to d k) n → state more.timestamps (connection_at more k) n ≡ state d.timestamps row n
    unfolding state
    state-same n differ = state_at_lem n ∙ ap (state_of row n) (place_same (leads_to d k) n differ)

    input_noticing : input_of more.timestamps (owner_of d k) (leads_to d k) (connection_at more k)
        ≡ noticing channel timestamp (input_of d.timestamps (owner_of d k) (leads_to d k) row)
    unfolding stored
    input_noticing =
        elim (ℕ_discrete (leads_to d k) channel) [
          | yes same ↦ rw (eq-eqb (leads_to d k) channel same) (input_seen (λ n. elim (ℕ_discrete n timestamp) [
            | yes now ↦ rw (now, eq-eqb timestamp timestamp refl) (state_new same)
            | no apart ↦ rw (ne_eqb n timestamp apart) (state-same n (λ _ now. apart now))
          ]))
          | no other ↦ rw (ne_eqb (leads_to d k) channel other) (input_seen (λ n. state-same n (λ same _. other same)))
        ]

  -- ---- the view

  stored-item : (c n : ℕ) → item_of more c n ≡ (with_item (view_of d) channel timestamp ticket).item c n
  unfolding view_of
  stored-item c n =
      elim (ℕ_discrete c channel) [
        | yes same ↦ rw (eq-eqb c channel same) (elim (ℕ_discrete n timestamp) [
          | yes now ↦ rw (same, now, eq-eqb timestamp timestamp refl) item_new
          | no apart ↦ rw (ne_eqb n timestamp apart) (item-same c n (λ _ now. apart now))
        ])
        | no other ↦ rw (ne_eqb c channel other) (item-same c n (λ same _. other same))
      ]

  pub view_stored : view_of more ≡ with_item (view_of d) channel timestamp ticket
  unfolding view_of stored
  view_stored =
      view_ext (λ t. refl) (λ c. refl)
      (inputs_changed d d.marks d.opened d.consumed more.present more.held more.timestamps more.tickets _ input_noticing)
      stored-item
