-- What is known of a call that nothing refuses: each refusal of its row is not the case, and is found there by its code, so that a refusal put between two
-- others leaves the rest where they were. Assumes nothing.
use Rattle.rules.proofs.Basis.{Bool, true, false, List, [], ◌∷◌, ℕ, eqb, Call}
use Rattle.rules.specs.Rules.{View, Refusal, rule, Not, NoneOf}

abbrev either : Bool → Type 0 → Type 0 → Type 0
either true here later = here
either false here later = later

-- the refusal with this code is not the case; nothing where there is none
abbrev ClearOf : List Refusal → ℕ → Type 0
ClearOf [] code = Unit {0}
ClearOf (first ∷ later) code = either (eqb first.code code) (Not first) (ClearOf later code)

by_code : {A B : Type 0} (same : Bool) → A → B → either same A B
by_code true here later = here
by_code false here later = later

clear_of : (refusals : List Refusal) → NoneOf refusals → (code : ℕ) → ClearOf refusals code
clear_of [] none code = tt
clear_of (first ∷ later) none code = by_code (eqb first.code code) none.0 (clear_of later none.1 code)

abbrev pub Clear : View → Call → Type 0
Clear v call = (code : ℕ) → ClearOf (rule v call).refusals code

pub cleared : (v : View) (call : Call) → NoneOf (rule v call).refusals → Clear v call
cleared v call = clear_of (rule v call).refusals
