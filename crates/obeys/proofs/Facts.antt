-- The view after a get, a consume and a raised mark: one input connection has other facts, or another mark, and all else is as it was. Assumes nothing.
use Rattle.obeys.proofs.Basis.{◌<◌, ◌∙◌, ◌≡◌, ◌≢◌, ◌≤◌, Connection, Consumed, Desk, DeskInOrder, Holds, List, Open, Row, ap, at_set_other, at_set_same}
use Rattle.obeys.proofs.Basis.{becomes_open, connection_at, connection_places, consumed_below, consumed_by_name, consumed_row, got_row, is_input, leads_to, max}
use Rattle.obeys.proofs.Basis.{owner_of, raised_mark, raised_row, refl, seen_as, sym, true, used_inside, view_of, with, with_seen, without, ℕ}
use Rattle.rules.specs.Rules as Rules
use Rattle.obeys.proofs.Frame.{view_ext}
use Rattle.obeys.proofs.Lookup.{input_view}
use Rattle.obeys.proofs.Rows.{input_of, row_consumed, row-got, row-raised}
use Rattle.obeys.proofs.Shown.{one_connection}

module _ (d : Desk) (o : DeskInOrder d) (connection : ℕ) (reads : is_input d connection ≡ true) where
  abbrev row : Row
  row = connection_at d connection

  inside : connection < connection_places
  inside = used_inside d.inputs reads

  -- other columns of what the connections have seen, which say the same of every other connection
  view_seen : (marks opened consumed : List ℕ) (new : Row) (turn : Connection → Connection)
      → ((k : ℕ) → k ≢ connection → connection_at (with_seen d marks opened consumed) k ≡ connection_at d k)
      → connection_at (with_seen d marks opened consumed) connection ≡ new
      → input_of d.timestamps (owner_of d connection) (leads_to d connection) new
      ≡ turn (input_of d.timestamps (owner_of d connection) (leads_to d connection) row)
      → view_of (with_seen d marks opened consumed) ≡ Rules.with_connection (view_of d) connection (turn ((view_of d).connection connection))
  unfolding view_of owner_of
  view_seen marks opened consumed new turn others here turned =
      view_ext (λ t. refl) (λ c. refl)
      (one_connection d (with_seen d marks opened consumed) connection _
      (λ k apart. record { reads = refl; writes = refl; owner = λ thread. refl; channel = refl; timestamps = refl; row = others k apart })
      (input_view (with_seen d marks opened consumed) connection reads
      ∙ ap (input_of d.timestamps (owner_of d connection) (leads_to d connection)) here
      ∙ turned
      ∙ sym (ap turn (input_view d connection reads))))
      (λ c t. refl)

  module _ {timestamp place : ℕ} (h : Holds d.timestamps row.items timestamp place) (above : row.mark ≤ timestamp) where
    pub view_got : view_of (becomes_open d connection place)
        ≡ Rules.with_connection (view_of d) connection (seen_as Open timestamp ((view_of d).connection connection))
    unfolding becomes_open got_row
    view_got =
        view_seen d.marks _ d.consumed (got_row row place) (seen_as Open timestamp)
        (λ k apart. rw (at_set_other connection_places d.opened connection (with row.opened place) k apart))
        (rw (at_set_same connection_places d.opened connection (with row.opened place) inside o.connections.opened.sized))
        (row-got d.timestamps (owner_of d connection) (leads_to d connection) row (o.items.one_item_a_pair (leads_to d connection)) h above)

    pub view_consumed : view_of (consumed_by_name d connection place)
        ≡ Rules.with_connection (view_of d) connection (seen_as Consumed timestamp ((view_of d).connection connection))
    unfolding consumed_by_name consumed_row
    view_consumed =
        view_seen d.marks _ _ (consumed_row row place) (seen_as Consumed timestamp)
        (λ k apart. rw (
          at_set_other connection_places d.opened connection (without row.opened place) k apart,
          at_set_other connection_places d.consumed connection (with row.consumed place) k apart,
        ))
        (rw (
          at_set_same connection_places d.opened connection (without row.opened place) inside o.connections.opened.sized,
          at_set_same connection_places d.consumed connection (with row.consumed place) inside o.connections.consumed.sized,
        ))
        (row_consumed d.timestamps (owner_of d connection) (leads_to d connection) row (o.items.one_item_a_pair (leads_to d connection)) h above)

  pub view_raised_mark : (time : ℕ)
      → view_of (raised_mark d connection time) ≡ Rules.with_connection (view_of d) connection (consumed_below time ((view_of d).connection connection))
  unfolding raised_mark raised_row
  view_raised_mark time =
      view_seen _ d.opened d.consumed (raised_row row time) (consumed_below time)
      (λ k apart. rw (at_set_other connection_places d.marks connection (max row.mark time) k apart))
      (rw (at_set_same connection_places d.marks connection (max row.mark time) inside o.connections.marks.sized))
      (row-raised d.timestamps (owner_of d connection) (leads_to d connection) row time)
