-- A connection in order stays so by what a call does to it, and by other items where its facts stand: a fact is new only at the place that the call
-- names. Assumes nothing.
use mathlib.Core.Bool.{false, true}
use mathlib.Core.Path.{◌≡◌}
use Prim.Native.Nat.{◌≤◌, ℕ}
use native.Mathlib.Decide.{ℕ_discrete}
use native.Mathlib.Omega.{arith}
use Rattle.words.specs.Words.{has}
use Rattle.words.proofs.Changes.{except_inside, except-kept, except-stays, except_was, with_was, without_apart, without_was}
use Rattle.words.proofs.Digits.{has_none}
use Rattle.words.proofs.YesOrNo.{not_then, true_not_false}
use Rattle.rows.specs.Numbers.{never}
use Rattle.rows.specs.declared.Connection.{Connection}
use Rattle.rows.proofs.Changed.{cleared, consumed_by_name, got, raised}
use Rattle.tables.specs.Order.{ConnectionInOrder}

-- a connection is known by its parts
pub connection_is : (connection : Connection) {items mark opened consumed : ℕ}
    → items ≡ connection.items → mark ≡ connection.mark → opened ≡ connection.opened → consumed ≡ connection.consumed
    → record { items = items; mark = mark; opened = opened; consumed = consumed } ≡ connection
connection_is connection items mark opened consumed = rw (items, mark, opened, consumed)

-- the same facts, of other items
abbrev pub with_items : Connection → ℕ → Connection
with_items c items = record { items = items; mark = c.mark; opened = c.opened; consumed = c.consumed }

-- a new connection, which has no facts
pub new_in_order : (row : Connection) → row.mark ≤ never → row.opened ≡ 0 → row.consumed ≡ 0 → ConnectionInOrder row
new_in_order row top unopened unconsumed = record {
  mark = top;
  opened = λ place fact. absurd (true_not_false fact (rw unopened (has_none place)));
  consumed = λ place fact. absurd (true_not_false fact (rw unconsumed (has_none place)));
  apart = λ place fact. rw unconsumed (has_none place);
}

module _ {row : Connection} (c : ConnectionInOrder row) where
  -- a get of an item that is there and not consumed
  pub got_in_order : (place : ℕ) → has row.items place ≡ true → has row.consumed place ≡ false → ConnectionInOrder (got row place)
  unfolding got
  got_in_order place there kept = record {
    mark = c.mark;
    opened = λ other fact. elim (ℕ_discrete other place) [
      | yes same ↦ rw same there
      | no apart ↦ c.opened other (with_was row.opened place other apart fact)
    ];
    consumed = c.consumed;
    apart = λ other fact. elim (ℕ_discrete other place) [
      | yes same ↦ rw same kept
      | no apart ↦ c.apart other (with_was row.opened place other apart fact)
    ];
  }

  -- a consume by name
  pub consumed_in_order : (place : ℕ) → has row.opened place ≡ true → ConnectionInOrder (consumed_by_name row place)
  unfolding consumed_by_name
  consumed_in_order place open_there = record {
    mark = c.mark;
    opened = λ other fact. c.opened other (without_was row.opened place other fact);
    consumed = λ other fact. elim (ℕ_discrete other place) [
      | yes same ↦ rw same (c.opened place open_there)
      | no apart ↦ c.consumed other (with_was row.consumed place other apart fact)
    ];
    apart = λ other fact. not_then (with_was row.consumed place other (without_apart row.opened place other fact))
        (c.apart other (without_was row.opened place other fact));
  }

  -- a consume until, and a sweep's bound
  pub raised_in_order : (time : ℕ) → time ≤ never → ConnectionInOrder (raised row time)
  unfolding raised
  raised_in_order time top = record { mark = omega (arith, c.mark); opened = c.opened; consumed = c.consumed; apart = c.apart }

  -- other items, among which are all that were
  pub standing : (items : ℕ) → ((place : ℕ) → has row.items place ≡ true → has items place ≡ true) → ConnectionInOrder (with_items row items)
  standing items stays = record {
    mark = c.mark;
    opened = λ place fact. stays place (c.opened place fact);
    consumed = λ place fact. stays place (c.consumed place fact);
    apart = c.apart;
  }

  -- a sweep takes the items of some places, and clears their facts
  pub cleared_in_order : (gone : ℕ) → ConnectionInOrder (cleared row gone)
  unfolding cleared
  cleared_in_order gone = record {
    mark = c.mark;
    opened = λ place fact. except-stays row.items gone place (except_inside row.opened gone place fact)
        (c.opened place (except_was row.opened gone place fact)) (except-kept row.opened gone place fact);
    consumed = λ place fact. except-stays row.items gone place (except_inside row.consumed gone place fact)
        (c.consumed place (except_was row.consumed gone place fact)) (except-kept row.consumed gone place fact);
    apart = λ place fact. not_then (except_was row.consumed gone place) (c.apart place (except_was row.opened gone place fact));
  }
