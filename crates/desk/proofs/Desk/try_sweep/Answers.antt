-- One check decides, 12, whose refusal tells the number of items to hand back; where it holds, the columns are those that the items below the bound have
-- left, with the marks raised. Assumes nothing.
use mathlib.Core.Path.{◌≡◌, ap, ap₂, ◌∙◌}
use mathlib.Core.Bool.{false}
use mathlib.Core.List.{List}
use Prim.Native.Nat.{ℕ}
use lib.Dec.{leb}
use lib.ListN.{length}
use Rattle.words.specs.Words.{count}
use Rattle.rows.specs.declared.Refusal.TheVariants.{SliceTooShort}
use Rattle.rows.specs.Answers.{answer, tells}
use Rattle.rows.specs.Checks.{Checked, needed}
use Rattle.rows.proofs.Checks.{checked}
use Rattle.leaving.specs.Leaving.{handed_back, items_below}
use Rattle.std.proofs.Common.{Result}
use Rattle.std.specs.Bool.{⊤}
use Rattle.rows.specs.declared.Refusal.{Refusal}
use Rattle.desk.specs.declared.Desk.{Desk}
use Rattle.desk.specs.Calls.{checks, effect, leaving, slice_after, slice_long, step, told}
use Rattle.desk.proofs.Outcome.{done, on, out}
use Rattle.desk.proofs.Stores.{swept_is}
use Rattle.desk.proofs.Desk.try_sweep.Goals as goal

-- what leaves, by the bound that was read; and its number
leaves : (d : Desk) {bound at_bound gone : ℕ} → bound ≡ at_bound → gone ≡ items_below d.timestamps d.present bound → gone ≡ leaving d at_bound
leaves d is taken = taken ∙ ap (leaving d) is

-- the check, by the number that was counted
long : (d : Desk) (bound : ℕ) (slice : List ℕ) {number : ℕ} {came : Result ⊤ Refusal} → number ≡ count (leaving d bound)
    → came ≡ needed (leb number (length slice)) (SliceTooShort number)
    → Checked (slice_long d bound slice) came
long d bound slice {number} counted came =
    checked (slice_long d bound slice) (SliceTooShort number) came (ap (λ (n : ℕ). leb n (length slice)) counted) (ap (λ (n : ℕ). answer 12 n 0) counted)

-- a slice that is too short is left as it was
short : (d : Desk) (bound : ℕ) (slice : List ℕ) → leb (count (leaving d bound)) (length slice) ≡ false
    → slice ≡ handed_back d.timestamps d.tickets d.held (leaving d bound) slice
unfolding handed_back
short d bound slice fails = rw fails

pub returns-in_err-needs : goal.returns-in_err-needs
unfolding step checks slice_after
returns-in_err-needs c =
    let d = c.args.self.now in
    let slice = c.args.slice.now in
    let gone = leaves d c.bound-bound.ensures c.items_below-gone.ensures in
    let fails = long d _ slice (c.count-number.ensures ∙ ap count gone) c.in_err-needs.ensures in (
      out _ _ _ _ _ _ _ c.from_residual.ensures.1 fails,
      short d _ slice fails.0,
    )

pub returns : goal.returns
unfolding step checks told effect slice_after
returns c =
    let d = c.args.self.now in
    let slice = c.args.slice.now in
    let gone = leaves d c.bound-bound.ensures c.items_below-gone.ensures in
    let number = c.count-number.ensures ∙ ap count gone in (
      on _ _ _ _ _ (long d _ slice number c.in_ok-needs.ensures)
          (done _ _ _ (ap₂ tells number c.bound-bound.ensures) (swept_is d c.bound-bound.ensures gone c.let_leave.ensures c.raise_marks.ensures)),
      c.hand_back.ensures ∙ ap (λ (places : ℕ). handed_back d.timestamps d.tickets d.held places slice) gone,
    )
