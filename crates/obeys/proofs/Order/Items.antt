-- The items stay in order where a channel is new, where one item is put, and where some leave: what lies in each channel and what is present change
-- together, and a column by its own law. Assumes nothing.
use Rattle.obeys.proofs.Basis.{false, true, List, ◌≡◌, subst, sym, ◌<◌, ◌≤◌, ℕ, ℕ_discrete, arith, set, has, except, with, with_was, with_there}
use Rattle.obeys.proofs.Basis.{same_elsewhere, with_elsewhere, except_was, except-kept, true_not_false, not_then, never, channel_places, item_places}
use Rattle.obeys.proofs.Basis.{set_at, Inside, Tidy, place_of, at-set_at_other, at-set_at-same, Distinct, tidy_set, cleared, lessened, lessened-at}
use Rattle.obeys.proofs.Basis.{shared_lessened, tidy_cleared, tidy_lessened, ItemsInOrder}
use Rattle.words.proofs.Changes.{with-stays}
use Rattle.tables.specs.Columns.{at}
use Rattle.tables.proofs.At.{at-set_all, set_inside}
use Rattle.tables.proofs.Shared.{shared_held}
use Rattle.tables.proofs.Stored.{beside_distinct, stored_distinct}
use Rattle.tables.proofs.Tidy.{inside_elsewhere, inside_except, tidy_more}
use Rattle.leaving.proofs.Changed.{kept_at}
use Rattle.leaving.proofs.Stay.{distinct_left}

module _ {channels present : ℕ} {held timestamps tickets : List ℕ} (o : ItemsInOrder channels present held timestamps tickets) where
  -- ---- a new channel, which holds none

  pub channel-added : (free : ℕ) → free < channel_places → ItemsInOrder (with channels free) present held timestamps tickets
  channel-added free fits = record {
    channels = inside_elsewhere channels o.channels (with_elsewhere channels free) fits;
    present = o.present;
    held = tidy_more o.held (λ channel inside. with-stays channels free channel (omega arith));
    lies = o.lies;
    timestamps = o.timestamps;
    tickets = o.tickets;
    stamped = o.stamped;
    one_item_a_pair = o.one_item_a_pair;
  }

  -- ---- a new item in a free place, whose timestamp its channel does not have

  module _ (free : ℕ) (fits : free < item_places) (lacks : has present free ≡ false) (channel : ℕ) (exists : has channels channel ≡ true) (timestamp : ℕ) where
    abbrev heldAfter : List ℕ
    heldAfter = set_at channel_places held channel (with (at channel_places held channel) free)

    below : channel < channel_places
    below = o.channels channel exists

    its-places : (other : ℕ) → Inside item_places (at channel_places held other)
    its-places other place there = o.present place (o.lies.within other place there)

    not_held : (other : ℕ) → has (at channel_places held other) free ≡ false
    not_held other = not_then (o.lies.within other free) lacks

    distinct-after : item_places ≤ place_of timestamps (at channel_places held channel) timestamp
        → (other : ℕ) → Distinct (set timestamps free timestamp) (at channel_places heldAfter other)
    distinct-after new other = elim (ℕ_discrete other channel) [
      | yes same ↦ subst (λ (c : ℕ). Distinct (set timestamps free timestamp) (at channel_places heldAfter c)) (sym same)
          (subst (Distinct (set timestamps free timestamp)) (sym (at-set_at-same channel_places held channel _ below o.held.sized))
          (stored_distinct timestamps o.timestamps.sized free fits timestamp _ (not_held channel) (its-places channel) new (o.one_item_a_pair channel)))
      | no apart ↦ subst (Distinct (set timestamps free timestamp)) (sym (at-set_at_other channel_places held channel _ other apart))
          (beside_distinct timestamps o.timestamps.sized free fits timestamp _ (not_held other) (its-places other) (o.one_item_a_pair other))
    ]

    tidy-stored : {column : List ℕ} → Tidy item_places present column → (number : ℕ) → Tidy item_places (with present free) (set column free number)
    tidy-stored tidy number =
        tidy_set tidy (omega arith) (with_elsewhere present free) fits number (λ lacking. absurd (with_there present {p = free} fits lacking))

    pub item-added : timestamp < never → item_places ≤ place_of timestamps (at channel_places held channel) timestamp → (ticket : ℕ)
        → ItemsInOrder channels (with present free) heldAfter (set timestamps free timestamp) (set tickets free ticket)
    item-added given new ticket = record {
      channels = o.channels;
      present = inside_elsewhere present o.present (with_elsewhere present free) fits;
      held = subst (Tidy channel_places channels) (sym (set_inside channel_places held channel _ below))
          (tidy_set o.held (omega arith) (same_elsewhere channels channel) below _ (λ lacking. absurd (true_not_false exists lacking)));
      lies = shared_held o.lies o.present o.held.sized channel below free fits lacks;
      timestamps = tidy-stored o.timestamps timestamp;
      tickets = tidy-stored o.tickets ticket;
      stamped = at-set_all item_places timestamps free timestamp fits o.timestamps.sized
          (λ place number. has (with present free) place ≡ true → number < never)
          (λ there. given) (λ place apart there. o.stamped place (with_was present free place apart there));
      one_item_a_pair = distinct-after new;
    }

  -- ---- the items of some places leave

  pub items_left : (gone : ℕ)
      → ItemsInOrder channels (except present gone) (lessened channel_places gone held) (cleared item_places gone timestamps) (cleared item_places gone tickets)
  items_left gone = record {
    channels = o.channels;
    present = inside_except present o.present gone;
    held = tidy_lessened o.held gone;
    lies = shared_lessened o.lies o.held.sized gone;
    timestamps = tidy_cleared o.timestamps gone (omega arith);
    tickets = tidy_cleared o.tickets gone (omega arith);
    stamped = λ place there. rw (kept_at item_places gone timestamps o.timestamps.sized place (except-kept present gone place there))
        (o.stamped place (except_was present gone place there));
    one_item_a_pair = λ channel. subst (Distinct (cleared item_places gone timestamps)) (sym (lessened-at channel_places gone held o.held.sized channel))
        (distinct_left timestamps o.timestamps.sized gone _ (o.one_item_a_pair channel));
  }
