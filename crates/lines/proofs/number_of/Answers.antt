-- The field says a number if every byte is a digit, and none if one is no digit or is a digit too many. Assumes nothing.
use Rattle.std.proofs.Common.{sym, ◌∙◌, arith}
use borrow.Author.Tests.{eqb-false}
use Rattle.lines.proofs.Numbers.{from_zero, met_all, met_digit, met_lower, met_higher, met_too_large}
use Rattle.lines.proofs.number_of.Goals as goal

pub returns-in_default : goal.returns-in_default
returns-in_default c =
    sym (from_zero _ c.args.field.now (omega arith) ∙ c.loop-byte.invariant.same ∙ met_lower _ _ _ _ c.loop-byte-test.true (omega arith))

pub returns-in_default-2 : goal.returns-in_default-2
returns-in_default-2 c =
    sym (from_zero _ c.args.field.now (omega arith) ∙ c.loop-byte.invariant.same ∙ met_higher _ _ _ _ c.loop-byte-test.true (omega arith))

pub returns-then-value-largest : goal.returns-then-value-largest
returns-then-value-largest c =
    sym (from_zero _ c.args.field.now (omega arith) ∙ c.loop-byte.invariant.same ∙ met_too_large _ _ _ _ c.loop-byte-test.true (omega arith) (omega arith) (omega arith))

pub returns-then-digit-largest : goal.returns-then-digit-largest
returns-then-digit-largest c =
    sym (from_zero _ c.args.field.now (omega arith) ∙ c.loop-byte.invariant.same ∙ met_too_large _ _ _ _ c.loop-byte-test.true (omega arith) (omega arith) (omega arith))

pub loop-byte-preserved : goal.loop-byte-preserved
loop-byte-preserved c =
    record {
      small = omega arith;
      same = rw c.from-digit.ensures (c.loop-byte.invariant.same ∙ met_digit _ _ _ _ c.loop-byte-test.true (omega arith) (omega arith));
    }

pub returns : goal.returns
returns c =
    let filled = eqb-false _ _ (sym c.is_empty.ensures ∙ c.if-is_empty.false) in
    sym (from_zero _ c.args.field.now (omega (arith, filled)) ∙ c.loop-byte.invariant.same ∙ met_all _ _ _ _ c.loop-byte-test.false c.loop-byte.invariant.small)
