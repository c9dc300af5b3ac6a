-- The connections stay in order where one is attached, where some of a thread's are freed, and where what they have seen changes: the words of who owns
-- what and of both directions change together, and a column by its own law. Assumes nothing.
use Rattle.obeys.proofs.Basis.{Bool, cond, false, true, List, ◌∙◌, ◌≡◌, ap, refl, subst, sym, ◌<◌, ℕ, ℕ_discrete, arith, length, set, has, either}
use Rattle.obeys.proofs.Basis.{except, with, word_places, Elsewhere, with_was, same_elsewhere, with_elsewhere, except_was, except-kept, either_left}
use Rattle.obeys.proofs.Basis.{either_right, true_not_false, not_then, connection_places, thread_places, Inside, Shared, Tidy, at_set_other, at_set_same}
use Rattle.obeys.proofs.Basis.{tidy_set, cleared, tidy_cleared, ConnectionsInOrder}
use Rattle.words.proofs.Changes.{either-except, either-with-left, either-with_right, one_elsewhere, with_there}
use Rattle.tables.specs.Columns.{at}
use Rattle.tables.proofs.Shared.{shared_joins, shared_leave}
use Rattle.tables.proofs.Tidy.{inside_either, inside_elsewhere, inside_except, tidy_more}
use Rattle.leaving.proofs.Changed.{kept_at}

module _ {channels : ℕ} {owned : List ℕ} {outputs : ℕ} {leads : List ℕ} {inputs : ℕ} {marks opened consumed : List ℕ}
    (o : ConnectionsInOrder channels owned outputs leads inputs marks opened consumed) where
  abbrev attached : ℕ
  attached = either inputs outputs

  attached-inside : Inside connection_places attached
  attached-inside = inside_either inputs o.inputs outputs o.outputs

  pub in_word : Inside word_places attached
  in_word connection there = let below : connection < connection_places = attached-inside connection there in omega arith

  pub owned_in_word : (thread : ℕ) → Inside word_places (at thread_places owned thread)
  owned_in_word thread connection its = in_word connection (o.owned.within thread connection its)

  -- ---- more channels

  pub more-channels : {more : ℕ} → ((channel : ℕ) → has channels channel ≡ true → has more channel ≡ true)
      → ConnectionsInOrder more owned outputs leads inputs marks opened consumed
  more-channels stays = record {
    outputs = o.outputs;
    inputs = o.inputs;
    apart = o.apart;
    owned = o.owned;
    leads = o.leads;
    led = λ connection there. stays _ (o.led connection there);
    marks = o.marks;
    opened = o.opened;
    consumed = o.consumed;
  }

  -- ---- other marks and facts

  pub other-seen : {newMarks newOpened newConsumed : List ℕ}
      → Tidy connection_places inputs newMarks → Tidy connection_places inputs newOpened → Tidy connection_places inputs newConsumed
      → ConnectionsInOrder channels owned outputs leads inputs newMarks newOpened newConsumed
  other-seen tidy-marks tidy-opened tidy-consumed = record {
    outputs = o.outputs;
    inputs = o.inputs;
    apart = o.apart;
    owned = o.owned;
    leads = o.leads;
    led = o.led;
    marks = tidy-marks;
    opened = tidy-opened;
    consumed = tidy-consumed;
  }

  -- ---- a new connection of a thread, in a free place

  module _ (free : ℕ) (fits : free < connection_places) (lacks : has attached free ≡ false) where
    pub no_input : has inputs free ≡ false
    no_input = not_then (either_left inputs outputs free (omega arith)) lacks

    no_output : has outputs free ≡ false
    no_output = not_then (either_right inputs outputs free (omega arith)) lacks

    module _ (reads : Bool) where
      abbrev reading : ℕ
      reading = cond reads (with inputs free) inputs

      abbrev writing : ℕ
      writing = cond reads outputs (with outputs free)

      pub reading_elsewhere : Elsewhere reading inputs free
      reading_elsewhere = one_elsewhere reads (with_elsewhere inputs free) (same_elsewhere inputs free)

      pub writing_elsewhere : Elsewhere writing outputs free
      writing_elsewhere = one_elsewhere reads (same_elsewhere outputs free) (with_elsewhere outputs free)

      one_more : either reading writing ≡ with attached free
      one_more =
          elim reads as (λ (b : Bool). either (cond b (with inputs free) inputs) (cond b outputs (with outputs free)) ≡ with attached free)
          [ true ↦ either-with-left inputs outputs free | false ↦ either-with_right inputs outputs free ]

      one_way : has reading free ≡ true → has writing free ≡ false
      one_way =
          elim reads as (λ (b : Bool). has (cond b (with inputs free) inputs) free ≡ true → has (cond b outputs (with outputs free)) free ≡ false)
          [ true ↦ (λ there. no_output) | false ↦ (λ there. absurd (true_not_false there no_input)) ]

      no_reader : has reading free ≡ false → reads ≡ false
      no_reader =
          elim reads as (λ (b : Bool). has (cond b (with inputs free) inputs) free ≡ false → b ≡ false)
          [ true ↦ (λ lacking. absurd (with_there inputs {p = free} (omega arith) lacking)) | false ↦ (λ lacking. refl) ]

      still-reads : (connection : ℕ) → connection < connection_places → has inputs connection ≡ true → has reading connection ≡ true
      still-reads connection inside there =
          reading_elsewhere.stays connection (omega arith) (λ same. true_not_false there (ap (has inputs) same ∙ no_input)) there

      led-more : (channel : ℕ) → has channels channel ≡ true → (connection : ℕ) → has (with attached free) connection ≡ true
          → has channels (at connection_places (set leads free channel) connection) ≡ true
      led-more channel exists connection there = elim (ℕ_discrete connection free) [
        | yes same ↦ rw (same, at_set_same connection_places leads free channel fits o.leads.sized) exists
        | no apart ↦ rw (at_set_other connection_places leads free channel connection apart) (o.led connection (with_was attached free connection apart there))
      ]

      pub attached-as : length owned ≡ thread_places → (thread : ℕ) → thread < thread_places
          → (channel : ℕ) → has channels channel ≡ true → (mark : ℕ) → (reads ≡ false → mark ≡ 0)
          → ConnectionsInOrder channels (set owned thread (with (at thread_places owned thread) free)) writing (set leads free channel) reading
          (set marks free mark) opened consumed
      attached-as sized thread below channel exists mark unmarked = record {
        outputs = inside_elsewhere outputs o.outputs writing_elsewhere fits;
        inputs = inside_elsewhere inputs o.inputs reading_elsewhere fits;
        apart = λ connection there. elim (ℕ_discrete connection free) [
          | yes same ↦ rw same (one_way (rw same at there))
          | no apart ↦ not_then (writing_elsewhere.was connection apart)
              (o.apart connection (reading_elsewhere.was connection apart there))
        ];
        owned = subst (Shared thread_places _) (sym one_more) (shared_joins o.owned in_word sized thread below free (omega arith) lacks);
        leads = subst (λ (all : ℕ). Tidy connection_places all (set leads free channel)) (sym one_more)
            (tidy_set o.leads (omega arith) (with_elsewhere attached free) fits channel
            (λ lacking. absurd (with_there attached {p = free} (omega arith) lacking)));
        led = λ connection there. led-more channel exists connection (subst (λ (all : ℕ). has all connection ≡ true) one_more there);
        marks = tidy_set o.marks (omega arith) reading_elsewhere fits mark (λ lacking. unmarked (no_reader lacking));
        opened = tidy_more o.opened still-reads;
        consumed = tidy_more o.consumed still-reads;
      }

  -- ---- some of a thread's connections are freed

  pub freed_of : length owned ≡ thread_places → (thread : ℕ) → thread < thread_places
      → (gone : ℕ) → ((connection : ℕ) → has gone connection ≡ true → has (at thread_places owned thread) connection ≡ true)
      → ConnectionsInOrder channels (set owned thread (except (at thread_places owned thread) gone)) (except outputs gone)
      (cleared connection_places gone leads) (except inputs gone)
      (cleared connection_places gone marks) (cleared connection_places gone opened) (cleared connection_places gone consumed)
  freed_of sized thread below gone its = record {
    outputs = inside_except outputs o.outputs gone;
    inputs = inside_except inputs o.inputs gone;
    apart = λ connection there. not_then (except_was outputs gone connection) (o.apart connection (except_was inputs gone connection there));
    owned = subst (Shared thread_places _) (sym (either-except inputs outputs gone)) (shared_leave o.owned in_word sized thread below gone its);
    leads = subst (λ (all : ℕ). Tidy connection_places all (cleared connection_places gone leads)) (sym (either-except inputs outputs gone))
        (tidy_cleared o.leads gone (omega arith));
    led = λ connection there. still-led connection (subst (λ (all : ℕ). has all connection ≡ true) (either-except inputs outputs gone) there);
    marks = tidy_cleared o.marks gone (omega arith);
    opened = tidy_cleared o.opened gone (omega arith);
    consumed = tidy_cleared o.consumed gone (omega arith);
  }
    where
      still-led : (connection : ℕ) → has (except attached gone) connection ≡ true
          → has channels (at connection_places (cleared connection_places gone leads) connection) ≡ true
      still-led connection stays =
          rw (kept_at connection_places gone leads o.leads.sized connection (except-kept attached gone connection stays))
          (o.led connection (except_was attached gone connection stays))
