-- The outcome of a call, check by check: the first that fails refuses it, and where all hold it is accepted. Assumes nothing.
use mathlib.Core.Path.{◌≡◌, sym, ◌∙◌}
use mathlib.Core.Bool.{true}
use mathlib.Core.List.{List, [], ◌∷◌}
use Prim.Native.Nat.{ℕ}
use Rattle.std.proofs.Common.{Result, Ok, Err}
use Rattle.std.specs.Result.{IsErrAnd}
use Rattle.std.proofs.lemmas.Result.{err_from_is_err_and}
use Rattle.rows.specs.Checks.{Checked}
use Rattle.rows.proofs.Checks.{Held, Pass, held_by, passed}
use Rattle.rows.specs.declared.Answer.{Answer}
use Rattle.rows.specs.declared.Refusal.{Refusal}
use Rattle.rows.specs.declared.Told.{Told}
use Rattle.rows.specs.Answers.{Check, answered, accepted, passes, decided}
use Rattle.calls.specs.Calls.{Call}
use Rattle.desk.specs.declared.Desk.{Desk}
use Rattle.desk.specs.declared.Next.{Next}
use Rattle.desk.specs.Calls.{came_to, checks, outcome}

-- ---- what is known of an accepted call

-- all checks of the call hold; `held` reads each fact by the code of its refusal
pub record Passed (d : Desk) (call : Call) : Type 0 where
  pub all : Pass (checks d call)
  pub held : (code : ℕ) → Held (checks d call) code

pub passing : (d : Desk) (call : Call) → passes (checks d call) ≡ true → Passed d call
passing d call all = record { all = passed (checks d call) all; held = held_by (checks d call) (passed (checks d call) all) }

-- ---- a check after the other

-- it holds, and the others decide
pub on : (d : Desk) (c : Check) (others : List Check) (says : Told) (next : Desk) {x : Next} → c.holds ≡ true → x ≡ outcome d others says next
    → x ≡ outcome d (c ∷ others) says next
unfolding outcome decided passes
on d c others says next holds later = later ∙ rw holds

-- it fails, and refuses
pub out : (d : Desk) (c : Check) (others : List Check) (says : Told) (next : Desk) (came : Result Told Refusal) (refusal : Refusal) → IsErrAnd came (λ given. given ≡ refusal)
    → Checked c (Err refusal)
    → came_to came d ≡ outcome d (c ∷ others) says next
unfolding outcome decided passes
out d c others says next came refusal is fails = let given = err_from_is_err_and came is in rw (given.1, given.2, fails.0, sym fails.1)

-- no check is left: what is told, and the desk then
pub done : (d : Desk) (says : Told) (next : Desk) {told : Told} {last : Desk} → told ≡ says → last ≡ next → came_to (Ok told) last ≡ outcome d [] says next
unfolding outcome decided passes
done d says next told_is next_is = rw (told_is, next_is)

-- ---- the same of a question

pub on_asking : (c : Check) (others : List Check) (says : Told) {x : Answer} → c.holds ≡ true → x ≡ decided others says → x ≡ decided (c ∷ others) says
unfolding decided
on_asking c others says holds later = later ∙ rw holds

pub out_asking : (c : Check) (others : List Check) (says : Told) (came : Result Told Refusal) (refusal : Refusal) → IsErrAnd came (λ given. given ≡ refusal)
    → Checked c (Err refusal)
    → answered came ≡ decided (c ∷ others) says
unfolding decided
out_asking c others says came refusal is fails = let given = err_from_is_err_and came is in rw (given.1, given.2, fails.0, sym fails.1)

pub done_asking : (says : Told) {x : Answer} → x ≡ accepted says → x ≡ decided [] says
unfolding decided
done_asking says tells = tells
