-- How the code comes to an answer: check by check, each of which refuses or lets on. Serves the contracts of the functions that do so; nothing of
-- document 01 is said here. Assumes nothing.
use Rattle.std.specs.Prelude.{Bool, true, false, ◌≡◌, cond, ⊤, Result, Ok, Err}
use Rattle.rows.specs.declared.Refusal.{Refusal}
use Rattle.rows.specs.Answers.{Check, refused_by}

-- one check: its refusal where it fails
abbrev pub needed : Bool → Refusal → Result ⊤ Refusal
needed holds refusal = cond holds (Ok tt) (Err refusal)

-- what a check came to: it holds, or it fails and refuses as it says
abbrev pub Checked : Check → Result ⊤ Refusal → Type 0
Checked check (Ok on) = check.holds ≡ true
Checked check (Err refusal) = (check.holds ≡ false) × (refused_by refusal ≡ check.refused)
