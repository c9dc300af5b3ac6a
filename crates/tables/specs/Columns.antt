-- Document 01, "Numbers": a column has one number for each place of a table, and a word says which of these places are used. Assumes nothing.
use Rattle.std.specs.Prelude.{Bool, cond, ◌&&◌, List, ℕ, ltb, get_or, set}
use Rattle.words.specs.Words.{has}
use Rattle.rows.specs.declared.Connection.{Connection}
use Rattle.tables.specs.declared.columns.Seen.{Seen}
pub use Rattle.rows.specs.Numbers.{thread_places, channel_places, connection_places, item_places}

-- what stands in a place of a column of so many places; a number past them reads as the zero
unfoldable pub reads : {A : Type 0} → A → ℕ → List A → ℕ → A
reads zero places column place = cond (ltb place places) (get_or column place zero) zero

-- of numbers and of words the zero is 0
abbrev pub at : ℕ → List ℕ → ℕ → ℕ
at = reads 0

-- the column with another number in a place; a number past them names no place
unfoldable pub set_at : ℕ → List ℕ → ℕ → ℕ → List ℕ
set_at places column place number = cond (ltb place places) (set column place number) column

-- the place is one of the table's, and used
unfoldable pub in_use : ℕ → ℕ → ℕ → Bool
in_use used place places = ltb place places && has used place

-- a connection, read across its columns: the items are those of the channel that it leads to
abbrev pub connection_in : (leads held marks opened consumed : List ℕ) → ℕ → Connection
connection_in leads held marks opened consumed connection = record {
  items = at channel_places held (at connection_places leads connection);
  mark = at connection_places marks connection;
  opened = at connection_places opened connection;
  consumed = at connection_places consumed connection;
}

-- the same, of the columns that are lent together
abbrev pub connection_of : Seen → ℕ → Connection
connection_of seen connection = connection_in seen.leads.now seen.held.now seen.marks.now seen.opened.now seen.consumed.now connection
