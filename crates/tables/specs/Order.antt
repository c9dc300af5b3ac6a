-- What is in order in the columns: sizes, free places, what words share, and what a connection's facts say of the items. Assumes nothing.
use Rattle.std.specs.Prelude.{◌≡◌, true, false, List, ℕ, ◌≤◌, ◌<◌, length}
use Rattle.words.specs.Words.{has}
use Rattle.rows.specs.declared.Connection.{Connection}
use Rattle.rows.specs.Numbers.{never}
use Rattle.tables.specs.Columns.{at}

-- a word names no place past so many
abbrev pub Inside : ℕ → ℕ → Type 0
Inside places used = (place : ℕ) → has used place ≡ true → place < places

-- a column: it has its number of places, and "A free place holds zeros only."
pub record Tidy (places used : ℕ) (column : List ℕ) : Type 0 where
  pub sized : length column ≡ places
  pub free : (place : ℕ) → has used place ≡ false → at places column place ≡ 0

-- the words of a column share out the places of one word: each place of it stands in just one of them, and nothing else does
pub record Shared (places : ℕ) (column : List ℕ) (all : ℕ) : Type 0 where
  pub owner : (place : ℕ) → has all place ≡ true → (which : ℕ) × (which < places) × (has (at places column which) place ≡ true)
  pub within : (which place : ℕ) → has (at places column which) place ≡ true → has all place ≡ true
  pub alone : (which other place : ℕ) → has (at places column which) place ≡ true → has (at places column other) place ≡ true → which ≡ other

-- an input connection: its facts stand only where an item of its channel lies, never open and consumed together
pub record ConnectionInOrder (connection : Connection) : Type 0 where
  pub mark : connection.mark ≤ never
  pub opened : (place : ℕ) → has connection.opened place ≡ true → has connection.items place ≡ true
  pub consumed : (place : ℕ) → has connection.consumed place ≡ true → has connection.items place ≡ true
  pub apart : (place : ℕ) → has connection.opened place ≡ true → has connection.consumed place ≡ false
