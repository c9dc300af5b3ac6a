-- Document 01, "What a connection has seen": the parts of visible time and of the two bounds. Assumes nothing.
use Rattle.std.specs.Prelude.{Bool, ◌&&◌, List, ℕ, min, leb}
use Rattle.words.specs.Places.{each}
use Rattle.words.specs.Words.{has}
use Rattle.rows.specs.declared.Connection.{Connection}
use Rattle.calls.specs.declared.Bound.{Bound}
use Rattle.calls.specs.declared.Bound.TheVariants.{Weak, Strong}
use Rattle.rows.specs.Numbers.{never}
use Rattle.tables.specs.Columns.{at, thread_places, connection_places, item_places}
use Rattle.tables.specs.Seen.{is_open_at, is_pending_at}

-- the smallest of the times of those places below n that count; never where none does
unfoldable pub smallest : ℕ → (ℕ → Bool) → (ℕ → ℕ) → ℕ
smallest n counts time = each n counts (λ i least. min (time i) least) never

-- "all virtual times of living threads"
unfoldable pub least_time : ℕ → List ℕ → ℕ
least_time living times = smallest thread_places (has living) (at thread_places times)

-- the smallest timestamp OPEN on one connection
unfoldable pub open_time : List ℕ → Connection → ℕ
open_time timestamps connection = smallest item_places (is_open_at timestamps connection) (at item_places timestamps)

-- "all timestamps OPEN on its input connections": the word has these
unfoldable pub least_open : ℕ → (ℕ → Connection) → List ℕ → ℕ
least_open readers connections timestamps = smallest connection_places (has readers) (λ k. open_time timestamps (connections k))

-- "Keep time of an input connection: its mark. An item consumed by name does not move it."
abbrev pub keep_time : Connection → ℕ
keep_time connection = connection.mark

-- "all keep times"
unfoldable pub least_keep : ℕ → (ℕ → ℕ) → ℕ
least_keep inputs keep = smallest connection_places (has inputs) keep

-- the smallest timestamp UNSEEN or OPEN on one connection
unfoldable pub pending_time : List ℕ → Connection → ℕ
pending_time timestamps connection = smallest item_places (is_pending_at timestamps connection) (at item_places timestamps)

-- "all timestamps of present items that are UNSEEN or OPEN on some input connection". "An item in a channel without input connections has none."
unfoldable pub least_awaited : ℕ → (ℕ → Connection) → List ℕ → ℕ
least_awaited inputs connections timestamps = smallest connection_places (has inputs) (λ k. pending_time timestamps (connections k))

-- what each bound is taken over beside the virtual times
abbrev pub least_for : Bound → ℕ → (ℕ → Connection) → List ℕ → ℕ
least_for Weak inputs connections timestamps = least_keep inputs (λ k. keep_time (connections k))
least_for Strong inputs connections timestamps = least_awaited inputs connections timestamps

-- the smallest of the timestamps in some places that are not below a mark: by which the code comes to the two above
unfoldable pub least_from : List ℕ → ℕ → ℕ → ℕ
least_from timestamps places mark =
    smallest item_places (λ p. has places p && leb mark (at item_places timestamps p)) (at item_places timestamps)

-- the smallest of the times that stand in the places of a word below n: what the code of the virtual times and of the keep times shares
unfoldable pub least_among : ℕ → ℕ → (ℕ → ℕ) → ℕ
least_among n word time = smallest n (has word) time
