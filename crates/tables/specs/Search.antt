-- Document 01, "Which is earliest, latest or one named timestamp, among UNSEEN items only." Assumes nothing.
use Rattle.std.specs.Prelude.{Bool, true, ◌&&◌, List, ℕ, eqb, leb, Option, None}
use Rattle.words.specs.Places.{each}
use Rattle.words.specs.Words.{has}
use Rattle.rows.specs.declared.Connection.{Connection}
use Rattle.rows.specs.declared.Found.{Found}
use Rattle.calls.specs.declared.Which.{Which}
use Rattle.calls.specs.declared.Which.TheVariants.{Earliest, Latest, Named}
use Rattle.rows.specs.Choices.{taken_before, preferred}
use Rattle.tables.specs.Columns.{at, item_places}
use Rattle.tables.specs.Seen.{is_unseen_at}

-- the best of the timestamps in the places that pass the test, the lowest place among equals
unfoldable pub chosen : List ℕ → (ℕ → ℕ → Bool) → (ℕ → Bool) → Option Found
chosen timestamps better test = each item_places test (λ p found. preferred better found p (at item_places timestamps p)) None

-- the timestamp is the named one, where one is named
abbrev pub is_wanted : Which → ℕ → Bool
is_wanted Earliest timestamp = true
is_wanted Latest timestamp = true
is_wanted (Named named) timestamp = eqb timestamp named

-- what a get through the connection finds
unfoldable pub sought : List ℕ → Connection → Which → Option Found
sought timestamps connection which =
    chosen timestamps (taken_before which) (λ p. is_unseen_at timestamps connection p && is_wanted which (at item_places timestamps p))

-- what is taken of the timestamps in some places that are not below a mark: by which the code comes to what a get finds
unfoldable pub chosen_from : List ℕ → ℕ → ℕ → Which → Option Found
chosen_from timestamps places mark which =
    chosen timestamps (taken_before which)
    (λ p. has places p && (leb mark (at item_places timestamps p) && is_wanted which (at item_places timestamps p)))
