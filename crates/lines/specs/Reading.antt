-- Serves the contracts of the private functions alone; nothing of document 01 is said here. Assumes nothing.
use Rattle.std.specs.Prelude.{List, ℕ, ◌+◌, ◌≤◌, length, get_or, map}
use Rattle.calls.specs.Calls.{Number}

-- the limits of some numbers, from the largest that each may be
abbrev pub limits_from : List ℕ → List ℕ
limits_from largest = map (λ number. number + 1) largest

-- a line has at most so many numbers
abbrev pub most_numbers : ℕ
most_numbers = 4

-- the first three numbers of a line are 32-bit, whatever the letter: only the fourth can be a ticket
abbrev pub FirstThreeNumbers : List ℕ → Type 0
FirstThreeNumbers numbers = Number (get_or numbers 0 0) × Number (get_or numbers 1 0) × Number (get_or numbers 2 0)

-- these are no more than a line has
abbrev pub WithinLine : List ℕ → Type 0
WithinLine largest = (length largest ≤ most_numbers) × FirstThreeNumbers largest
