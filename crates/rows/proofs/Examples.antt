-- What a get takes, of two items, by computing the definitions. Assumes nothing.
use mathlib.Core.Path.{◌≡◌, refl}
use Rattle.calls.specs.declared.Which.{Which}
use Rattle.calls.specs.declared.Which.TheVariants.{Earliest, Latest}
use Rattle.std.proofs.Common.{Option, Some, None}
use Rattle.rows.specs.declared.Found.{Found}
use Rattle.rows.specs.Choices.{taken_before, preferred, found_at}

-- item 5 lies in place 0 and item 6 in place 1: "Which is earliest, latest or one named timestamp": a get of the earliest takes 5, a get of the latest 6,
-- whichever it meets first
abbrev upwards : Which → Option Found
upwards which = preferred (taken_before which) (preferred (taken_before which) None 0 5) 1 6

abbrev downwards : Which → Option Found
downwards which = preferred (taken_before which) (preferred (taken_before which) None 1 6) 0 5

pub earliest_of_two : (upwards Earliest ≡ Some (found_at 0 5)) × (downwards Earliest ≡ Some (found_at 0 5))
earliest_of_two = (refl, refl)

pub latest_of_two : (upwards Latest ≡ Some (found_at 1 6)) × (downwards Latest ≡ Some (found_at 1 6))
latest_of_two = (refl, refl)
