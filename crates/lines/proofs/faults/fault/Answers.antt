-- Each reason is the first in the order of the definition. Assumes nothing.
use Rattle.std.proofs.Common.{sym, ◌∙◌, arith}
use Rattle.lines.specs.Faults.{begins_with_byte_order_mark}
use Rattle.lines.proofs.Order.{last_is, no_last, empty, too_long, mark, carriage_return, tab, space-at-end, of_fields}
use Rattle.lines.proofs.faults.fault.Goals as goal

pub returns-in_default : goal.returns-in_default
returns-in_default c = sym (empty _ (no_last c.args.line.now c.in_default.ensures.value))

pub returns-then-line-gt-LONGEST_LINE : goal.returns-then-line-gt-LONGEST_LINE
returns-then-line-gt-LONGEST_LINE c =
    let last = last_is c.args.line.now c.in-Some.last.now c.in-Some.ensures.value in sym (too_long _ (omega arith) (omega arith))

pub returns-then-starts_with : goal.returns-then-starts_with
unfolding begins_with_byte_order_mark
returns-then-starts_with c =
    let last = last_is c.args.line.now c.in-Some.last.now c.in-Some.ensures.value in
    sym (mark _ (omega arith) (omega arith) (sym c.starts_with.ensures.value ∙ c.if-starts_with.true))

pub returns-then-has_return : goal.returns-then-has_return
unfolding begins_with_byte_order_mark
returns-then-has_return c =
    let last = last_is c.args.line.now c.in-Some.last.now c.in-Some.ensures.value in
    sym (carriage_return _ (omega arith) (omega arith) (sym c.starts_with.ensures.value ∙ c.if-starts_with.false) (omega arith))

pub returns-then-has_tab : goal.returns-then-has_tab
unfolding begins_with_byte_order_mark
returns-then-has_tab c =
    let last = last_is c.args.line.now c.in-Some.last.now c.in-Some.ensures.value in
    sym (tab _ (omega arith) (omega arith) (sym c.starts_with.ensures.value ∙ c.if-starts_with.false) (omega arith) (omega arith))

pub returns-then-last-eq32 : goal.returns-then-last-eq32
unfolding begins_with_byte_order_mark
returns-then-last-eq32 c =
    let last = last_is c.args.line.now c.in-Some.last.now c.in-Some.ensures.value in
    sym (space-at-end _ (omega arith) (omega arith) (sym c.starts_with.ensures.value ∙ c.if-starts_with.false) (omega arith) (omega arith) (last.1 ∙ c.if-last-eq32.true))

pub returns : goal.returns
unfolding begins_with_byte_order_mark
returns c =
    let last = last_is c.args.line.now c.in-Some.last.now c.in-Some.ensures.value in
    c.fault_of_fields.ensures
    ∙ sym (of_fields _ (omega arith) (omega arith) (sym c.starts_with.ensures.value ∙ c.if-starts_with.false) (omega arith) (omega arith) (λ e. c.if-last-eq32.false (sym last.1 ∙ e)))
