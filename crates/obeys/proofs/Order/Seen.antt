-- A desk in order stays so where what one input connection has seen changes: its row becomes what a get, a consume or a raised mark makes of it, which is
-- in order, and the others are as they were. Assumes nothing.
use Rattle.obeys.proofs.Basis.{false, true, List, ◌≢◌, ◌≡◌, refl, subst, sym, ◌<◌, ◌≤◌, max, ℕ, ℕ_discrete, arith, set, has, with, without}
use Rattle.obeys.proofs.Basis.{same_elsewhere, true_not_false, never, Row, consumed_row, got_row, raised_row, connection_in, connection_places}
use Rattle.obeys.proofs.Basis.{ConnectionInOrder, Tidy, at_set_other, at_set_same, connection_is, got_in_order, consumed_in_order, raised_in_order}
use Rattle.obeys.proofs.Basis.{tidy_set, in_use-has, used_inside, becomes_open, consumed_by_name, raised_mark, connection_at, is_input, with_seen, Desk}
use Rattle.obeys.proofs.Basis.{DeskInOrder}
use Rattle.tables.specs.Columns.{at}
use Rattle.tables.proofs.At.{set_back}
use Rattle.obeys.proofs.Order.Connections.{other-seen}

module _ {d : Desk} (o : DeskInOrder d) (connection : ℕ) (reads : is_input d connection ≡ true) where
  inside : connection < connection_places
  inside = used_inside d.inputs reads

  attached-input : has d.inputs connection ≡ true
  attached-input = in_use-has d.inputs connection connection_places reads

  row-set : (mark opened consumed : ℕ)
      → ConnectionInOrder (record { items = (connection_at d connection).items; mark = mark; opened = opened; consumed = consumed })
      → DeskInOrder (with_seen d (set d.marks connection mark) (set d.opened connection opened) (set d.consumed connection consumed))
  row-set mark opened consumed good = record {
    threads = o.threads;
    connections = other-seen o.connections
        (tidy o.connections.marks mark) (tidy o.connections.opened opened) (tidy o.connections.consumed consumed);
    items = o.items;
    seen = λ other there. elim (ℕ_discrete other connection) [
      | yes same ↦ rw same (subst ConnectionInOrder (sym here) good)
      | no apart ↦ subst ConnectionInOrder (sym (beside other apart)) (o.seen other there)
    ];
  }
    where
      tidy : {column : List ℕ} → Tidy connection_places d.inputs column → (number : ℕ) → Tidy connection_places d.inputs (set column connection number)
      tidy old number =
          tidy_set old (omega arith) (same_elsewhere d.inputs connection) inside number (λ lacking. absurd (true_not_false attached-input lacking))

      row : ℕ → Row
      row = connection_in d.leads d.held (set d.marks connection mark) (set d.opened connection opened) (set d.consumed connection consumed)

      here : row connection ≡ record { items = (connection_at d connection).items; mark = mark; opened = opened; consumed = consumed }
      here =
          connection_is (record { items = (connection_at d connection).items; mark = mark; opened = opened; consumed = consumed }) refl
          (at_set_same connection_places d.marks connection mark inside o.connections.marks.sized)
          (at_set_same connection_places d.opened connection opened inside o.connections.opened.sized)
          (at_set_same connection_places d.consumed connection consumed inside o.connections.consumed.sized)

      beside : (other : ℕ) → other ≢ connection → row other ≡ connection_at d other
      beside other apart =
          connection_is (connection_at d other) refl
          (at_set_other connection_places d.marks connection mark other apart)
          (at_set_other connection_places d.opened connection opened other apart)
          (at_set_other connection_places d.consumed connection consumed other apart)

  -- a column that is not changed
  as_it_was : (column : List ℕ) → set column connection (at connection_places column connection) ≡ column
  as_it_was column = set_back connection_places column inside

  -- a get of an item that is there and not consumed
  pub becomes_open_in_order : (place : ℕ) → has (connection_at d connection).items place ≡ true → has (connection_at d connection).consumed place ≡ false
      → DeskInOrder (becomes_open d connection place)
  unfolding becomes_open got_row
  becomes_open_in_order place there kept =
      rw (as_it_was d.marks, as_it_was d.consumed) at
      (row-set (connection_at d connection).mark (with (connection_at d connection).opened place) (connection_at d connection).consumed
      (got_in_order (o.seen connection attached-input) place there kept))

  -- a consume by name
  pub consumed_by_name_in_order : (place : ℕ) → has (connection_at d connection).opened place ≡ true → DeskInOrder (consumed_by_name d connection place)
  unfolding consumed_by_name consumed_row
  consumed_by_name_in_order place fact =
      rw (as_it_was d.marks) at
      (row-set (connection_at d connection).mark (without (connection_at d connection).opened place) (with (connection_at d connection).consumed place)
      (consumed_in_order (o.seen connection attached-input) place fact))

  -- a consume until
  pub raised_mark_in_order : (time : ℕ) → time ≤ never → DeskInOrder (raised_mark d connection time)
  unfolding raised_mark raised_row
  raised_mark_in_order time top =
      rw (as_it_was d.opened, as_it_was d.consumed) at
      (row-set (max (connection_at d connection).mark time) (connection_at d connection).opened (connection_at d connection).consumed
      (raised_in_order (o.seen connection attached-input) time top))
