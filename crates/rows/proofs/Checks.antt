-- A chain of checks: what is known where all hold, and what is answered where one holds and where it fails. Assumes nothing.
use mathlib.Core.Path.{◌≡◌, refl, sym}
use mathlib.Core.Bool.{Bool, true, false, not, ◌&&◌}
use mathlib.Core.List.{List, [], ◌∷◌}
use Prim.Native.Nat.{ℕ}
use lib.Dec.{eqb}
use borrow.Author.Tests.{not-true}
use Rattle.std.proofs.Common.{Result}
use Rattle.std.specs.Bool.{⊤}
use Rattle.rows.specs.declared.Refusal.{Refusal}
use Rattle.rows.specs.declared.Told.{Told}
use Rattle.rows.specs.Answers.{accepted, Check, passes, decided, refused_by}
use Rattle.rows.specs.Checks.{Checked, needed}
use Rattle.rows.proofs.Laws.{and_left, and_right, bool_cases}

-- ---- what is known where all hold

-- every check holds, one fact a check
abbrev pub Pass : List Check → Type 0
Pass [] = Unit {0}
Pass (c ∷ checks) = (c.holds ≡ true) × Pass checks

abbrev either : Bool → Type 0 → Type 0 → Type 0
either true here later = here
either false here later = later

-- the fact of the check whose refusal has this code; nothing where there is none
abbrev pub Held : List Check → ℕ → Type 0
Held [] code = Unit {0}
Held (c ∷ checks) code = either (eqb c.refused.code code) (c.holds ≡ true) (Held checks code)

by_code : {A B : Type 0} (same : Bool) → A → B → either same A B
by_code true here later = here
by_code false here later = later

pub passed : (checks : List Check) → passes checks ≡ true → Pass checks
unfolding passes
passed [] all = tt
passed (c ∷ checks) all = (and_left c.holds (passes checks) all, passed checks (and_right c.holds (passes checks) all))

pub held_by : (checks : List Check) → Pass checks → (code : ℕ) → Held checks code
held_by [] pass code = tt
held_by (c ∷ checks) pass code = by_code (eqb c.refused.code code) pass.0 (held_by checks pass.1 code)

pub pass_decided : (checks : List Check) (told : Told) → Pass checks → decided checks told ≡ accepted told
unfolding decided
pass_decided [] told pass = refl
pass_decided (c ∷ checks) told pass = rw pass.0 (pass_decided checks told pass.1)

-- ---- what the code's check says of one of 01's, by what the code tests and by its refusal

pub checked : (c : Check) (refusal : Refusal) {test : Bool} {came : Result ⊤ Refusal} → came ≡ needed test refusal → test ≡ c.holds
    → refused_by refusal ≡ c.refused
    → Checked c came
checked c refusal {test} {came} is same refuses = rw is (go test same)
  where
    go : (b : Bool) → b ≡ c.holds → Checked c (needed b refusal)
    go true holds = sym holds
    go false fails = (sym fails, refuses)

-- ---- codes

-- the check does not refuse with 0, which would look accepted
abbrev coded_one : Check → Bool
coded_one c = not (eqb c.refused.code 0)

abbrev pub coded : List Check → Bool
coded [] = true
coded (c ∷ checks) = coded_one c && coded checks

-- the code of the answer is 0 where all hold, and nowhere else
pub decided_zero : (checks : List Check) (told : Told) → coded checks ≡ true → eqb (decided checks told).code 0 ≡ passes checks
unfolding decided passes
decided_zero [] told codes = refl
decided_zero (c ∷ checks) told codes =
    bool_cases c.holds
    (λ holds. rw holds (decided_zero checks told (and_right (coded_one c) _ codes)))
    (λ fails. rw fails (not-true (eqb c.refused.code 0) (and_left (coded_one c) _ codes)))
