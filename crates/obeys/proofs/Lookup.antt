-- What the view of a desk says, from its columns and words: by the cases that the view is defined by, read in both directions. Assumes nothing.
use Rattle.obeys.proofs.Basis.{◌∙◌, ◌≡◌, ap, sym, Bool, false, true, ◌⊎◌, inl, inr, ⊎_elim, Option·none-ne-some, Option·some-injective, none, some, ◌≤◌, ℕ, arith, ltb, le-ltb, lt-ltb, ltb-true, is_pending, place_of, state}
use Rattle.obeys.proofs.Basis.{Desk, attached, connection_at, is_connection, is_input, is_living, is_output, items_in, leads_to, owned_by, owns, ticket_at, time_of, connection_places, item_places, Connection, input, input_from, output, output_to, owner, state_on}
use Rattle.obeys.proofs.Basis.{unused, DeskInOrder, owner_of, view_of, true_not_false, bool_cases, not_then, Holds, found-holds, holds-place, lowest-with, lowest-with-has, in_use_lem, in_use-has, in_use-left, in_use_one, in_use_right, used_inside}

-- ---- threads

module _ (d : Desk) (thread : ℕ) where
  pub lives_view : is_living d thread ≡ true → (view_of d).thread thread ≡ some (time_of d thread)
  unfolding view_of
  lives_view e = rw e

  pub dead_view : is_living d thread ≡ false → (view_of d).thread thread ≡ none
  unfolding view_of
  dead_view e = rw e

  pub view_lives : (time : ℕ) → (view_of d).thread thread ≡ some time → (is_living d thread ≡ true) × (time_of d thread ≡ time)
  view_lives time seen =
      bool_cases (is_living d thread)
      (λ e. (e, Option·some-injective _ time (sym (lives_view e) ∙ seen)))
      (λ e. absurd (Option·none-ne-some time (sym (dead_view e) ∙ seen)))

-- ---- what a connection's number stands for

module _ (d : Desk) (connection : ℕ) where
  pub input_attached : is_input d connection ≡ true → is_connection d connection ≡ true
  input_attached = in_use-left d.inputs d.outputs connection connection_places (omega arith)

  pub output_attached : is_output d connection ≡ true → is_connection d connection ≡ true
  output_attached = in_use_right d.inputs d.outputs connection connection_places (omega arith)

  pub input_view : is_input d connection ≡ true
      → (view_of d).connection connection
      ≡ input (owner_of d connection) (leads_to d connection) (connection_at d connection).mark (state d.timestamps (connection_at d connection))
  unfolding view_of
  input_view e = rw e

  writes_view : is_input d connection ≡ false → is_output d connection ≡ true → (view_of d).connection connection ≡ output (owner_of d connection) (leads_to d connection)
  unfolding view_of
  writes_view reads_not e = rw (reads_not, e)

  pub neither_view : is_input d connection ≡ false → is_output d connection ≡ false → (view_of d).connection connection ≡ unused
  unfolding view_of
  neither_view reads_not writes_not = rw (reads_not, writes_not)

  pub unused_view : is_connection d connection ≡ false → (view_of d).connection connection ≡ unused
  unused_view free = neither_view (not_then input_attached free) (not_then output_attached free)

  -- what reads nothing: no input
  other_view : is_input d connection ≡ false
      → ((view_of d).connection connection ≡ unused) ⊎ ((view_of d).connection connection ≡ output (owner_of d connection) (leads_to d connection))
  other_view e = bool_cases (is_output d connection) (λ writes. inr (writes_view e writes)) (λ writes_not. inl (neither_view e writes_not))

  -- by cases
  pub by_input : {P : Type 0} → (is_input d connection ≡ true → P)
      → (((view_of d).connection connection ≡ unused) ⊎ ((view_of d).connection connection ≡ output (owner_of d connection) (leads_to d connection)) → P) → P
  by_input reads other = bool_cases (is_input d connection) reads (λ e. other (other_view e))

  pub no_input_view : is_input d connection ≡ false → input_from ((view_of d).connection connection) ≡ none
  no_input_view e = ⊎_elim (ap input_from) (ap input_from) (other_view e)

  pub no_output_view : is_output d connection ≡ false → output_to ((view_of d).connection connection) ≡ none
  no_output_view e = bool_cases (is_input d connection) (λ reads. ap output_to (input_view reads)) (λ reads_not. ap output_to (neither_view reads_not e))

  -- whatever way it goes, it is its owner's
  pub attached_view : is_connection d connection ≡ true → owner ((view_of d).connection connection) ≡ some (owner_of d connection)
  attached_view used =
      bool_cases (is_input d connection)
      (λ reads. ap owner (input_view reads))
      (λ reads_not. ⊎_elim (λ reads. absurd (true_not_false reads reads_not)) (λ writes. ap owner (writes_view reads_not writes))
      (in_use_one d.inputs d.outputs connection connection_places used))

  pub used_not_free : is_connection d connection ≡ true → (view_of d).connection connection ≡ unused → ⊥
  used_not_free used free = Option·none-ne-some _ (sym (ap owner free) ∙ attached_view used)

  -- ---- states

  pub state_view : (timestamp : ℕ) → is_input d connection ≡ true
      → state_on ((view_of d).connection connection) timestamp ≡ state d.timestamps (connection_at d connection) timestamp
  state_view timestamp reads = ap (λ (c : Connection). state_on c timestamp) (input_view reads)

  -- what is pending is so on an input
  pub pending_reads : (timestamp : ℕ) → is_pending (state_on ((view_of d).connection connection) timestamp) ≡ true → is_input d connection ≡ true
  pending_reads timestamp pending =
      let on : Connection → Bool = λ c. is_pending (state_on c timestamp) in
      by_input (λ reads. reads)
      (⊎_elim (λ e. absurd (true_not_false pending (ap on e))) (λ e. absurd (true_not_false pending (ap on e))))

module _ (d : Desk) (o : DeskInOrder d) (connection : ℕ) where
  -- it goes one way
  pub output_no_input : is_output d connection ≡ true → is_input d connection ≡ false
  output_no_input writes =
      bool_cases (is_input d connection)
      (λ reads. absurd (true_not_false (in_use-has d.outputs connection connection_places writes)
      (o.connections.apart connection (in_use-has d.inputs connection connection_places reads))))
      (λ e. e)

  pub output_view : is_output d connection ≡ true → (view_of d).connection connection ≡ output (owner_of d connection) (leads_to d connection)
  output_view writes = writes_view d connection (output_no_input writes) writes

  -- ---- whose it is

  module _ (thread : ℕ) (its : owns d thread connection ≡ true) where
    pub owned_attached : is_connection d connection ≡ true
    owned_attached =
        in_use_lem (attached d) connection connection_places (used_inside (owned_by d thread) its)
        (o.connections.owned.within thread connection (in_use-has (owned_by d thread) connection connection_places its))

    pub owner_is : owner_of d connection ≡ thread
    unfolding owner_of
    owner_is = lowest-with o.connections.owned thread connection (in_use-has (owned_by d thread) connection connection_places its)

    pub owned_view : owner ((view_of d).connection connection) ≡ some thread
    owned_view = attached_view d connection owned_attached ∙ ap some owner_is

  pub owner_owns : is_connection d connection ≡ true → owns d (owner_of d connection) connection ≡ true
  unfolding owner_of
  owner_owns used =
      in_use_lem (owned_by d (owner_of d connection)) connection connection_places (used_inside (attached d) used)
      (lowest-with-has o.connections.owned connection (in_use-has (attached d) connection connection_places used))

  pub view_owned : (thread : ℕ) → owner ((view_of d).connection connection) ≡ some thread → owns d thread connection ≡ true
  view_owned thread seen =
      bool_cases (is_connection d connection)
      (λ used. ap (λ (t : ℕ). owns d t connection) (sym (Option·some-injective _ thread (sym (attached_view d connection used) ∙ seen))) ∙ owner_owns used)
      (λ free. absurd (Option·none-ne-some thread (ap owner (sym (unused_view d connection free)) ∙ seen)))

-- ---- items

pub item_view : (d : Desk) → DeskInOrder d → (channel : ℕ) {timestamp place : ℕ} → Holds d.timestamps (items_in d channel) timestamp place
    → (view_of d).item channel timestamp ≡ some (ticket_at d place)
unfolding view_of
item_view d o channel {timestamp} {place} h =
    rw (holds-place d.timestamps (items_in d channel) timestamp (o.items.one_item_a_pair channel) h, lt-ltb place item_places h.inside)

module _ (d : Desk) (channel timestamp : ℕ) where
  abbrev found : ℕ
  found = place_of d.timestamps (items_in d channel) timestamp

  pub view_item : (ticket : ℕ) → (view_of d).item channel timestamp ≡ some ticket
      → (place : ℕ) × Holds d.timestamps (items_in d channel) timestamp place × (ticket_at d place ≡ ticket)
  unfolding view_of
  view_item ticket seen =
      bool_cases (ltb found item_places)
      (λ e. (found, found-holds d.timestamps (items_in d channel) timestamp (ltb-true found item_places e), Option·some-injective _ ticket (rw e at seen)))
      (λ e. absurd (Option·none-ne-some ticket (rw e at seen)))

  pub no_item_view : item_places ≤ found → (view_of d).item channel timestamp ≡ none
  unfolding view_of
  no_item_view past = rw (le-ltb found item_places past)
