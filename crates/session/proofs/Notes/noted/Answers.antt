-- By whether the line says a call, and whether a line before it was unreadable. Assumes nothing.
use Rattle.std.proofs.Common.{◌≡◌, Bool, true, false, ℕ, List, Option, Some, None, cond, eqb, refl, sym, ap, ◌∙◌, is_some}
use borrow.Author.Tests.{eq-eqb, ne_eqb, eqb-true}
use Rattle.calls.specs.declared.Call.{Call}
use Rattle.session.specs.declared.Notes.{Notes}
use Rattle.session.specs.Notes.{counted_to, first_unreadable, notes, noted_by}
use Rattle.lines.specs.Faults.{fault_number, fault_of}
use Rattle.session.proofs.Notes.noted.Goals as goal
use Rattle.session.proofs.Notes.noted.Goals.{then-self-eq0, else-self-eq0}

readable : (n : Notes) (said : Option Call) (line : List ℕ) → true ≡ is_some said → noted_by n said line ≡ notes (counted_to n.lines 1) n.unreadable n.first
unfolding noted_by
readable n (Some call) line e = refl
readable n None line e = cc

unreadable : (n : Notes) (said : Option Call) (line : List ℕ) (none : Bool) → false ≡ is_some said → eqb n.unreadable 0 ≡ none
    → noted_by n said line
    ≡ notes (counted_to n.lines 1) (counted_to n.unreadable 1) (cond none (Some (first_unreadable (counted_to n.lines 1) (fault_number (fault_of line)))) n.first)
unfolding noted_by
unreadable n (Some call) line none e test = cc
unreadable n None line true e test = rw (test, eqb-true n.unreadable 0 test)
unreadable n None line false e test = rw test

pub returns-then-is_some : goal.returns-then-is_some
returns-then-is_some c = sym (readable c.args.self c.args.said c.args.line.now c.if-is_some.ensures ∙ ap (λ (lines : ℕ). notes lines c.args.self.unreadable c.args.self.first) (sym c.counted-lines.ensures))

pub returns : goal.returns
returns c =
    elim c.if-self-eq0.branch [
      | then-self-eq0 w ↦ rw (w.first-is, w.from.ensures, w.fault.ensures, c.counted-lines.ensures, c.counted.ensures) (sym (unreadable c.args.self c.args.said c.args.line.now true c.if-is_some.ensures (eq-eqb _ _ w.if-self-eq0.true)))
      | else-self-eq0 w ↦ rw (w.first-is, c.counted-lines.ensures, c.counted.ensures) (sym (unreadable c.args.self c.args.said c.args.line.now false c.if-is_some.ensures (ne_eqb _ _ w.if-self-eq0.false)))
    ]
