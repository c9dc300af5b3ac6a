-- The view after a new channel, another virtual time of a thread, and an attach, by what the words and columns then say of each number. Assumes nothing.
use Rattle.obeys.proofs.Basis.{◌<◌, ◌∙◌, ◌≡◌, ◌≢◌, ◌≤◌, Bool, Connection, Desk, DeskInOrder, Elsewhere, Option, ap, arith, at, at_set_other, at_set_same}
use Rattle.obeys.proofs.Basis.{attached, attached_to, channel_places, cond, connection_at, connection_places, eq-eqb, false, first_seen, free_lacks}
use Rattle.obeys.proofs.Basis.{free_channel, free_connection, has, in_use_lem, in_use_elsewhere, in_use, input, is_input, is_output, item_of, leads_to, length}
use Rattle.obeys.proofs.Basis.{lowest-with, ne_eqb, none, number_at, output, owned_by, owner_of, refl, set, some, thread_places, ticket_at, true, used_below}
use Rattle.obeys.proofs.Basis.{view_of, with, with_elsewhere, with-same, with_was, with_channel, with_channels, with_thread, with_threads, word_places, ℕ}
use Rattle.obeys.proofs.Basis.{ℕ_discrete}
use Rattle.words.proofs.Changes.{with-stays}
use Rattle.tables.proofs.At.{at-set-has}
use Rattle.tables.proofs.Shared.{shared_joins}
use Rattle.rules.specs.Rules as Rules
use Rattle.obeys.proofs.Frame.{view_ext}
use Rattle.obeys.proofs.Lookup.{input_view}
use Rattle.obeys.proofs.Order.Connections.{in_word, no_input, owned_in_word, reading_elsewhere, writing_elsewhere}
use Rattle.obeys.proofs.Rows.{row-attached}
use Rattle.obeys.proofs.Shown.{Alike, one_connection, shown}

-- ---- a channel, and a thread

in_use-with : (used p n places : ℕ) → p < places → places ≤ word_places → in_use (with used p) n places ≡ at (λ i. in_use used i places) p true n
in_use-with used p n places inside fits =
    elim (ℕ_discrete n p) [
      | yes same ↦ rw (same, eq-eqb p p refl) (in_use_lem (with used p) p places inside (with-same used (omega arith)))
      | no apart ↦ rw (ne_eqb n p apart) (in_use_elsewhere (with_elsewhere used p) n places fits apart)
    ]

module _ (d : Desk) where
  pub view_channel : free_channel d < channel_places → view_of (with_channels d (with d.channels (free_channel d))) ≡ with_channel (view_of d) (free_channel d)
  unfolding view_of owner_of
  view_channel free = view_ext (λ t. refl) (λ c. in_use-with d.channels (free_channel d) c channel_places free (omega arith)) (λ k. refl) (λ c t. refl)

  -- another virtual time for a thread: a new one, one less, or another time
  pub view_thread : {living : ℕ} (thread time : ℕ) (new : Option ℕ)
      → Elsewhere living d.living thread → thread < thread_places → length d.times ≡ thread_places → cond (has living thread) (some time) none ≡ new
      → view_of (with_threads d living (set d.times thread time)) ≡ with_thread (view_of d) thread new
  unfolding view_of owner_of
  view_thread {living} thread time new else inside sized here = view_ext threads (λ c. refl) (λ k. refl) (λ c t. refl)
    where
      threads : (n : ℕ) → cond (in_use living n thread_places) (some (number_at thread_places (set d.times thread time) n)) none
          ≡ at (λ t. cond (in_use d.living t thread_places) (some (number_at thread_places d.times t)) none) thread new n
      threads n =
          elim (ℕ_discrete n thread) [
            | yes same ↦ rw (same, eq-eqb thread thread refl, used_below living inside, at_set_same thread_places d.times thread time inside sized) here
            | no apart ↦ rw (
              ne_eqb n thread apart,
              in_use_elsewhere else n thread_places (omega arith) apart,
              at_set_other thread_places d.times thread time n apart,
            )
          ]

-- ---- a new connection

module _ (d : Desk) (o : DeskInOrder d) where
  module _ (reads : Bool) (thread channel mark : ℕ) (lives : thread < thread_places) (free : free_connection d < connection_places) where
    abbrev new : ℕ
    new = free_connection d

    abbrev more : Desk
    more = attached_to d reads thread channel mark

    lacks : has (attached d) new ≡ false
    lacks = free_lacks (attached d) (omega arith)

    beside : (k : ℕ) → k ≢ new → Alike d more k
    unfolding attached_to
    beside k apart = record {
      reads = used_still (reading_elsewhere o.connections new free lacks reads);
      writes = used_still (writing_elsewhere o.connections new free lacks reads);
      owner = at-set-has thread_places d.owned thread (with (owned_by d thread) new) lives o.threads.owned.sized k
          (with_was (owned_by d thread) new k apart) (λ its. with-stays (owned_by d thread) new k (owned_in_word o.connections thread k its) its);
      channel = leads;
      timestamps = refl;
      row = rw (leads, at_set_other connection_places d.marks new mark k apart);
    }
      where
        used_still : {word used : ℕ} → Elsewhere word used new → in_use word k connection_places ≡ in_use used k connection_places
        used_still else = in_use_elsewhere else k connection_places (omega arith) apart

        leads : number_at connection_places (set d.leads new channel) k ≡ leads_to d k
        leads = at_set_other connection_places d.leads new channel k apart

    new_owner : owner_of more new ≡ thread
    unfolding owner_of attached_to
    new_owner =
        lowest-with (shared_joins o.connections.owned (in_word o.connections) o.threads.owned.sized thread lives new (omega arith) lacks) thread new
        (ap (λ (word : ℕ). has word new) (at_set_same thread_places d.owned thread (with (owned_by d thread) new) lives o.threads.owned.sized)
        ∙ with-same (owned_by d thread) (omega arith))

    new_channel : leads_to more new ≡ channel
    unfolding attached_to
    new_channel = at_set_same connection_places d.leads new channel free o.connections.leads.sized

    new_mark : (connection_at more new).mark ≡ mark
    unfolding attached_to
    new_mark = at_set_same connection_places d.marks new mark free o.connections.marks.sized

    -- it has no facts
    not_input : has d.inputs new ≡ false
    not_input = no_input o.connections new free lacks

    new_input : is_input more new ≡ true → (view_of more).connection new ≡ input thread channel mark (first_seen ((view_of d).item channel) mark)
    unfolding view_of attached_to
    new_input goes_in =
        input_view more new goes_in
        ∙ row-attached d.timestamps (owner_of more new) (leads_to more new) (connection_at more new)
        (o.connections.opened.free new not_input) (o.connections.consumed.free new not_input) (ticket_at d)
        ∙ (λ i. input (new_owner i) (new_channel i) (new_mark i) (first_seen (item_of d (new_channel i)) (new_mark i)))

    new_output : is_input more new ≡ false → is_output more new ≡ true → (view_of more).connection new ≡ output thread channel
    unfolding view_of
    new_output goes_in goes_out = λ i. shown (goes_in i) (goes_out i) (new_owner i) (new_channel i) more.timestamps (connection_at more new)

    view_attached : (connection : Connection) → (view_of more).connection new ≡ connection → view_of more ≡ Rules.with_connection (view_of d) new connection
    unfolding view_of attached_to
    view_attached connection here = view_ext (λ t. refl) (λ c. refl) (one_connection d more new connection beside here) (λ c t. refl)

  module _ (thread channel mark : ℕ) (lives : thread < thread_places) (free : free_connection d < connection_places) where
    joined : (word : ℕ) → in_use (with word (free_connection d)) (free_connection d) connection_places ≡ true
    joined word = in_use_lem (with word (free_connection d)) (free_connection d) connection_places free (with-same word (omega arith))

    pub view_attached_input : view_of (attached_to d true thread channel mark)
        ≡ Rules.with_connection (view_of d) (free_connection d) (input thread channel mark (first_seen ((view_of d).item channel) mark))
    unfolding attached_to
    view_attached_input =
        view_attached true thread channel mark lives free _
        (new_input true thread channel mark lives free (joined d.inputs))

    pub view_attached_output : view_of (attached_to d false thread channel mark) ≡ Rules.with_connection (view_of d) (free_connection d) (output thread channel)
    unfolding attached_to
    view_attached_output =
        view_attached false thread channel mark lives free _
        (new_output false thread channel mark lives free (used_below d.inputs free ∙ not_input false thread channel mark lives free) (joined d.outputs))
