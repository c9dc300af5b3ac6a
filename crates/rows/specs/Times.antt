-- The smallest of some times, one after the other. Assumes nothing.
use Rattle.std.specs.Prelude.{Bool, cond, ℕ, min}

-- the smaller of the two where the first one counts
unfoldable pub least_if : Bool → ℕ → ℕ → ℕ
least_if counts time least = cond counts (min time least) least
