-- Each reason is the first in the order of the definition; one space stands before each field behind the letter. Assumes nothing.
use Rattle.std.proofs.Common.{sym, ◌∙◌}
use borrow.Author.Tests.{eq-eqb, ne_eqb}
use Rattle.lines.proofs.Bytes.{spaces_tell}
use Rattle.lines.proofs.Order.{no_letter, no_number, wrong_count, too_large}
use Rattle.lines.proofs.faults.fault_of_fields.Goals as goal

pub returns-then-not-begins_with_letter : goal.returns-then-not-begins_with_letter
returns-then-not-begins_with_letter c = sym (no_letter _ (sym c.begins_with_letter.ensures ∙ c.if-not-begins_with_letter.true))

pub returns-then-not-all_numbers : goal.returns-then-not-all_numbers
returns-then-not-all_numbers c =
    sym
    (no_number _ (sym c.begins_with_letter.ensures ∙ c.if-not-begins_with_letter.false) (sym c.all_numbers.ensures ∙ c.if-not-all_numbers.true))

pub returns-then-count_of-largest_of : goal.returns-then-count_of-largest_of
returns-then-count_of-largest_of c =
    let count = spaces_tell _ _ c.count_of.ensures c.largest_of.ensures.0 in
    sym
    (wrong_count _ (sym c.begins_with_letter.ensures ∙ c.if-not-begins_with_letter.false)
    (sym c.all_numbers.ensures ∙ c.if-not-all_numbers.false)
    (count ∙ ne_eqb _ _ c.if-count_of-largest_of.true))

pub returns : goal.returns
returns c =
    let count = spaces_tell _ _ c.count_of.ensures c.largest_of.ensures.0 in
    sym
    (too_large _ (sym c.begins_with_letter.ensures ∙ c.if-not-begins_with_letter.false)
    (sym c.all_numbers.ensures ∙ c.if-not-all_numbers.false)
    (count ∙ eq-eqb _ _ c.if-count_of-largest_of.false))
