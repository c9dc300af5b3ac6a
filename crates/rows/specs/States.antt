-- Document 01, "What a connection has seen": the four states of a timestamp on an input connection. Assumes nothing.
use Rattle.std.specs.Prelude.{Bool, true, false, cond, ℕ, leb, ltb, Option, Some, None}
use Rattle.rows.specs.declared.Connection.{Connection}
use Rattle.rows.specs.Numbers.{item_places}
use Rattle.calls.specs.declared.State.{State}
use Rattle.calls.specs.declared.State.TheVariants.{Absent, Unseen, Open, Consumed}
use Rattle.words.specs.Words.{has}

-- "otherwise UNSEEN, OPEN or CONSUMED, as it was got and consumed by name": by the two facts open and consumed. A consume by name clears open, so that
-- no run leaves both; on a desk with both the item is OPEN.
abbrev pub by_name : Bool → Bool → State
by_name true consumed = Open
by_name false true = Consumed
by_name false false = Unseen

-- "For a timestamp on it: CONSUMED if below the mark; otherwise ABSENT if the channel has no such item; otherwise UNSEEN, OPEN or CONSUMED,
-- as it was got and consumed by name." The place is that of the channel's item with the timestamp; a place past the last says that the channel has none.
unfoldable pub state_of : Connection → ℕ → ℕ → State
state_of connection timestamp place =
    cond (ltb timestamp connection.mark) Consumed
    (cond (leb item_places place) Absent
    (by_name (has connection.opened place) (has connection.consumed place)))

-- the place of the channel's item as the code hands it on: a place, or none; the number of places is none
abbrev pub place_or_none : Option ℕ → ℕ
place_or_none (Some place) = place
place_or_none None = item_places
