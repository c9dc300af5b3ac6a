use mathlib.Core.Bool.{Bool}
use mathlib.Core.List.{List}
use mathlib.Core.Path.{◌≡◌}
use Prim.Native.Nat.{ℕ}
use lib.Dec.{eqb}
use Rattle.words.proofs.Search.{lowest_in}
use Rattle.tables.specs.Columns.{at, item_places}
use Rattle.tables.specs.Seen.{place_of}
use Rattle.tables.proofs.search.place_of.Given as goal

-- what the loop tests in a place
abbrev pub is_it : List ℕ → ℕ → ℕ → Bool
is_it timestamps timestamp p = eqb (at item_places timestamps p) timestamp

abbrev pub invariant-loop-place : goal.invariant-loop-place
invariant-loop-place l =
    let walk = l.place-iterator in
    (walk.end ≡ item_places) × (lowest_in walk.rest (is_it l.timestamps l.timestamp) ≡ place_of l.timestamps l.places l.timestamp)
