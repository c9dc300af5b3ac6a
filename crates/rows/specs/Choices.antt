-- Which of several items a search takes. Assumes nothing.
use Rattle.std.specs.Prelude.{Bool, true, false, cond, ℕ, ltb, Option, Some, None}
use Rattle.rows.specs.declared.Found.{Found}
use Rattle.rows.specs.Numbers.{item_places}
use Rattle.calls.specs.declared.Which.{Which}
use Rattle.calls.specs.declared.Which.TheVariants.{Earliest, Latest, Named}

-- "Which is earliest, latest or one named timestamp": whether a get takes the first timestamp rather than the second
abbrev pub taken_before : Which → ℕ → ℕ → Bool
taken_before Earliest timestamp other = ltb timestamp other
taken_before Latest timestamp other = ltb other timestamp
taken_before (Named named) timestamp other = false

-- a place with the timestamp of the item in it
abbrev pub found_at : ℕ → ℕ → Found
found_at place timestamp = record { place = place; timestamp = timestamp }

-- one more item is looked at: it is taken where nothing was found yet, or where it is better than what was found
abbrev pub preferred : (ℕ → ℕ → Bool) → Option Found → ℕ → ℕ → Option Found
preferred better (Some other) place timestamp = cond (better timestamp other.timestamp) (Some (found_at place timestamp)) (Some other)
preferred better None place timestamp = Some (found_at place timestamp)

abbrev pub is_found : Option Found → Bool
is_found (Some found) = true
is_found None = false

-- the place of what was found; for nothing the number of places, which is none
abbrev pub place_found : Option Found → ℕ
place_found (Some found) = found.place
place_found None = item_places

-- the timestamp of what was found; 0 for nothing
abbrev pub timestamp_found : Option Found → ℕ
timestamp_found (Some found) = found.timestamp
timestamp_found None = 0
