-- Document 01, "What a connection has seen". Assumes nothing.
use Rattle.std.specs.Prelude.{Bool, cond, ◌&&◌, List, ℕ, eqb, ltb, Option, Some, None}
use Rattle.words.specs.Places.{lowest_of}
use Rattle.words.specs.Words.{has}
use Rattle.rows.specs.declared.Connection.{Connection}
use Rattle.calls.specs.declared.State.{State}
use Rattle.calls.specs.States.{is_unseen, is_open, is_pending}
use Rattle.rows.specs.States.{state_of}
use Rattle.tables.specs.Columns.{at, item_places}

-- an item with the timestamp lies in the place, which is one of these
unfoldable pub is_item : List ℕ → ℕ → ℕ → ℕ → Bool
is_item timestamps places timestamp place = has places place && eqb (at item_places timestamps place) timestamp

-- where among a channel's places the item with the timestamp lies; the number of places where "the channel has no such item"
unfoldable pub place_of : List ℕ → ℕ → ℕ → ℕ
place_of timestamps places timestamp = lowest_of (is_item timestamps places timestamp) item_places

-- the same as the code hands it on: the place, or nothing
abbrev pub place_if_any : ℕ → Option ℕ
place_if_any place = cond (ltb place item_places) (Some place) None

-- "For a timestamp on it": the state of a timestamp on a connection
unfoldable pub state : List ℕ → Connection → ℕ → State
state timestamps connection timestamp = state_of connection timestamp (place_of timestamps connection.items timestamp)

-- the state of the timestamp of the item in the place
abbrev pub state_at : List ℕ → Connection → ℕ → State
state_at timestamps connection place = state_of connection (at item_places timestamps place) place

-- an item of the channel lies in the place, and is so
unfoldable pub is_unseen_at : List ℕ → Connection → ℕ → Bool
is_unseen_at timestamps connection place = has connection.items place && is_unseen (state_at timestamps connection place)

unfoldable pub is_open_at : List ℕ → Connection → ℕ → Bool
is_open_at timestamps connection place = has connection.items place && is_open (state_at timestamps connection place)

-- "UNSEEN or OPEN"
unfoldable pub is_pending_at : List ℕ → Connection → ℕ → Bool
is_pending_at timestamps connection place = has connection.items place && is_pending (state_at timestamps connection place)
