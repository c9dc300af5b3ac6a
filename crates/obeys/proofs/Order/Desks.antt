-- A desk in order stays so by each effect: by the law of each kind that it changes, and because each input connection, read across the columns afterwards,
-- is the one that was, or what the effect makes of it. Assumes nothing.
use Rattle.obeys.proofs.Basis.{Bool, false, true, List, ◌≢◌, ◌≡◌, ap, refl, subst, sym, ◌<◌, ◌≤◌, ℕ, ℕ_discrete, arith, set, has, with, with_there}
use Rattle.obeys.proofs.Basis.{same_elsewhere, with_elsewhere, without_elsewhere, except_was, except-kept, free_lacks, true_not_false, never, Row}
use Rattle.obeys.proofs.Basis.{connection_in, connection_places, channel_places, item_places, thread_places, ConnectionInOrder, place_of, at_set_other}
use Rattle.obeys.proofs.Basis.{at_set_same, connection_is, new_in_order, raised_in_order, standing, cleared_in_order, tidy_set, in_use-has, used_inside}
use Rattle.obeys.proofs.Basis.{tidy_lessened, tidy_raised, adopted, attached_to, ended, freed, left, raised_to, stored, swept, free_channel, free_connection}
use Rattle.obeys.proofs.Basis.{free_item, free_thread, leaving, attached, connection_at, is_channel, is_living, items_in, leads_to, owned_by, with_channels}
use Rattle.obeys.proofs.Basis.{with_threads, Desk, DeskInOrder, ThreadsInOrder}
use Rattle.words.proofs.Changes.{except_itself, with-stays}
use Rattle.tables.specs.Columns.{at}
use Rattle.tables.proofs.Stored.{still_held}
use Rattle.tables.proofs.Tidy.{tidy_more}
use Rattle.leaving.proofs.Connections.{connection_kept, connection_left, connection_raised}
use Rattle.obeys.proofs.Order.Threads.{owned-set, time-set}
use Rattle.obeys.proofs.Order.Connections.{attached-as, freed_of, more-channels, no_input, other-seen, reading_elsewhere}
use Rattle.obeys.proofs.Order.Items.{channel-added, item-added, items_left}

module _ {d : Desk} (o : DeskInOrder d) where
  -- ---- channels

  pub channel_in_order : free_channel d < channel_places → DeskInOrder (with_channels d (with d.channels (free_channel d)))
  channel_in_order fits = record {
    threads = o.threads;
    connections = more-channels o.connections (λ channel there. let below : channel < channel_places = o.items.channels channel there in
        with-stays d.channels (free_channel d) channel (omega arith) there);
    items = channel-added o.items (free_channel d) fits;
    seen = o.seen;
  }

  -- ---- threads

  other-threads : {living : ℕ} {times : List ℕ} → ThreadsInOrder living times d.owned → DeskInOrder (with_threads d living times)
  other-threads threads = record { threads = threads; connections = o.connections; items = o.items; seen = o.seen }

  pub adopted_in_order : free_thread d < thread_places → (time : ℕ) → time ≤ never → DeskInOrder (adopted d time)
  unfolding adopted
  adopted_in_order fits time top =
      other-threads
      (time-set o.threads (free_thread d) fits (with_elsewhere d.living (free_thread d))
      (tidy_more o.threads.owned (λ thread inside. with-stays d.living (free_thread d) thread (omega arith))) time top
      (λ dead. absurd (with_there d.living {p = free_thread d} (omega arith) dead)))

  pub time_in_order : (thread : ℕ) → is_living d thread ≡ true → (time : ℕ) → time ≤ never
      → DeskInOrder (with_threads d d.living (set d.times thread time))
  time_in_order thread lives time top =
      other-threads
      (time-set o.threads thread (used_inside d.living lives) (same_elsewhere d.living thread) o.threads.owned time top
      (λ dead. absurd (true_not_false (in_use-has d.living thread thread_places lives) dead)))

  -- ---- a thread's connections

  module _ (thread : ℕ) (lives : is_living d thread ≡ true) where
    below : thread < thread_places
    below = used_inside d.living lives

    living : has d.living thread ≡ true
    living = in_use-has d.living thread thread_places lives

    pub attached_in_order : free_connection d < connection_places → (channel : ℕ) → is_channel d channel ≡ true → (reads : Bool) (mark : ℕ) → mark ≤ never
        → (reads ≡ false → mark ≡ 0) → DeskInOrder (attached_to d reads thread channel mark)
    unfolding attached_to
    attached_in_order fits channel exists reads mark top unmarked = record {
      threads = owned-set o.threads thread below living _;
      connections = attached-as o.connections free fits lacks reads o.threads.owned.sized thread below channel
          (in_use-has d.channels channel channel_places exists) mark unmarked;
      items = o.items;
      seen = λ connection there. elim (ℕ_discrete connection free) [
        | yes same ↦ rw same new
        | no apart ↦ subst ConnectionInOrder (sym (beside connection apart))
            (o.seen connection ((reading_elsewhere o.connections free fits lacks reads).was connection apart there))
      ];
    }
      where
        free : ℕ
        free = free_connection d

        lacks : has (attached d) free ≡ false
        lacks = free_lacks (attached d) (omega arith)

        row : ℕ → Row
        row = connection_in (set d.leads free channel) d.held (set d.marks free mark) d.opened d.consumed

        unseen : has d.inputs free ≡ false
        unseen = no_input o.connections free fits lacks

        new : ConnectionInOrder (row free)
        new =
            new_in_order (row free) (rw (at_set_same connection_places d.marks free mark fits o.connections.marks.sized) top)
            (o.connections.opened.free free unseen) (o.connections.consumed.free free unseen)

        beside : (connection : ℕ) → connection ≢ free → row connection ≡ connection_at d connection
        beside connection apart =
            connection_is (connection_at d connection)
            (ap (at channel_places d.held) (at_set_other connection_places d.leads free channel connection apart))
            (at_set_other connection_places d.marks free mark connection apart) refl refl

    pub freed_in_order : (gone : ℕ) → ((connection : ℕ) → has gone connection ≡ true → has (owned_by d thread) connection ≡ true)
        → DeskInOrder (freed d thread gone)
    unfolding freed
    freed_in_order gone its = record {
      threads = owned-set o.threads thread below living _;
      connections = freed_of o.connections o.threads.owned.sized thread below gone its;
      items = o.items;
      seen = λ connection there. subst ConnectionInOrder
          (sym (connection_kept gone connection (except-kept d.inputs gone connection there) d.leads d.held d.marks d.opened d.consumed
          o.connections.leads.sized o.connections.marks.sized o.connections.opened.sized o.connections.consumed.sized))
          (o.seen connection (except_was d.inputs gone connection there));
    }

    pub ended_in_order : DeskInOrder (ended d thread)
    unfolding ended freed
    ended_in_order =
        let alone = freed_in_order (owned_by d thread) (λ connection its. its) in
        record {
          threads = time-set o.threads thread below (without_elsewhere d.living thread)
              (tidy_set o.threads.owned (omega arith) (without_elsewhere d.living thread) below _ (λ dead. except_itself (owned_by d thread)))
              0 (omega arith) (λ dead. refl);
          connections = alone.connections;
          items = alone.items;
          seen = alone.seen;
        }

  -- ---- items

  pub stored_in_order : free_item d < item_places → (channel : ℕ) → has d.channels channel ≡ true → (timestamp ticket : ℕ) → timestamp < never
      → item_places ≤ place_of d.timestamps (items_in d channel) timestamp → DeskInOrder (stored d channel timestamp ticket)
  unfolding stored
  stored_in_order fits channel exists timestamp ticket given new = record {
    threads = o.threads;
    connections = o.connections;
    items = item-added o.items (free_item d) fits (free_lacks d.present fits) channel exists timestamp given new ticket;
    seen = λ connection there. standing (o.seen connection there) _
        (still_held d.held o.items.held.sized channel (o.items.channels channel exists) (free_item d) (leads_to d connection)
        (λ place there. o.items.present place (o.items.lies.within (leads_to d connection) place there)));
  }

  left_in_order : (gone : ℕ) → DeskInOrder (left d gone)
  unfolding left
  left_in_order gone = record {
    threads = o.threads;
    connections = other-seen o.connections o.connections.marks
        (tidy_lessened o.connections.opened gone) (tidy_lessened o.connections.consumed gone);
    items = items_left o.items gone;
    seen = λ connection there. subst ConnectionInOrder
        (sym (connection_left d.leads d.held d.marks d.opened d.consumed connection
        o.items.held.sized o.connections.opened.sized o.connections.consumed.sized gone))
        (cleared_in_order (o.seen connection there) gone);
  }

  raised-to-in-order : (bound : ℕ) → bound ≤ never → DeskInOrder (raised_to d bound)
  unfolding raised_to
  raised-to-in-order bound top = record {
    threads = o.threads;
    connections = other-seen o.connections
        (tidy_raised o.connections.marks d.inputs bound (λ connection there. there)) o.connections.opened o.connections.consumed;
    items = o.items;
    seen = λ connection there. subst ConnectionInOrder
        (sym (rw there at (connection_raised d.leads d.held d.marks d.opened d.consumed connection
        o.connections.marks.sized d.inputs o.connections.inputs bound)))
        (raised_in_order (o.seen connection there) bound top);
  }

pub swept_in_order : {d : Desk} → DeskInOrder d → (bound : ℕ) → bound ≤ never → DeskInOrder (swept d bound)
unfolding swept
swept_in_order {d} o bound top = raised-to-in-order (left_in_order o (leaving d bound)) bound top
