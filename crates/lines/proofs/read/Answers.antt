-- The fields are taken one after the other, as many as the letter has numbers, and none is left. Assumes nothing.
use Rattle.std.proofs.Common.{◌≡◌, ◌∷◌, get_or, drop, sym, ap, ◌∙◌, arith, rules, tests}
use Rattle.lines.specs.Lines.{fields_of, form_of, line_with, numbers_of, read_line}
use Rattle.lines.specs.Reading.{limits_from}
use Rattle.lines.proofs.Fields.{left, all_left, none_left, one_left, some_left, no_more_left, one_byte}
use Rattle.lines.proofs.Behind.{none_passed, ends_early, no_number, one_passed, goes_on, line_read}
use Rattle.lines.proofs.Letters.{too_long, no_letter, by_letter}
use Rattle.lines.proofs.read.Goals as goal
use Rattle.lines.proofs.read.Goals.{In_ok-next, After-largest_of-largest-items}

pub returns-then-line-gt-LONGEST_LINE : goal.returns-then-line-gt-LONGEST_LINE
returns-then-line-gt-LONGEST_LINE c = sym (too_long c.args.line.now (omega arith))

-- the fields of the line are the first, which was taken, and those that are left
parted : (c : In_ok-next) → fields_of c.args.line.now ≡ c.in_ok-next.field-0.now ∷ left c.next.new.self
parted c =
    sym (all_left c.split-fields.result c.args.line.now c.split-fields.ensures.rest c.split-fields.ensures.done)
    ∙ one_left _ c.split-fields.result c.next.new.self c.in_ok-next.field-0 (λ byte apart f k. search (rules, tests)) c.in_ok-next.ensures.steps

pub returns-in_default : goal.returns-in_default
returns-in_default c = sym (no_letter c.args.line.now (omega arith) _ (parted (goal.at.returns-in_default c).In_ok-next) (λ e. omega arith))

pub returns-in_default-2 : goal.returns-in_default-2
returns-in_default-2 c = sym (no_letter c.args.line.now (omega arith) _ (parted (goal.at.returns-in_default-2 c).In_ok-next) (λ e. omega arith))

-- the line says what its letter says with those that are left
told : (c : After-largest_of-largest-items)
    → read_line c.args.line.now
    ≡ line_with (form_of (get_or c.in_ok-next.field-0.now 0 0)) (numbers_of (limits_from c.largest_of-largest-items.result.now) (drop 1 (fields_of c.args.line.now)))
told c =
    by_letter c.args.line.now (omega arith) c.in_ok-next.field-0.now (get_or c.in_ok-next.field-0.now 0 0) c.largest_of-largest-items.result.now
    (parted (goal.at.loop-place-init c).In_ok-next)
    (one_byte c.in_ok-next.field-0.now c.in-len1.len_at_least c.in-len1.len_below)
    c.largest_of-largest-items.ensures.0

pub loop-place-init : goal.loop-place-init
loop-place-init c =
    let behind : left c.next.new.self ≡ drop 1 (fields_of c.args.line.now) = sym (ap (drop 1) (parted (goal.at.loop-place-init c).In_ok-next)) in
    rw behind (none_passed c.largest_of-largest-items.result.now (drop 1 (fields_of c.args.line.now)))

pub returns-in_err-field : goal.returns-in_err-field
returns-in_err-field c =
    let none = none_left c.loop-place.fields c.in_err-field.ensures.steps.0 in
    c.from_residual-in_err-field.ensures ∙
    sym (told (goal.at.returns-in_err-field c).After-largest_of-largest-items ∙ ap (line_with (form_of (get_or c.in_ok-next.field-0.now 0 0))) (ends_early c.loop-place.invariant c.loop-place-test.true none))

pub returns-in_err-numbers : goal.returns-in_err-numbers
returns-in_err-numbers c =
    let first = one_left _ c.loop-place.fields c.next-in-loop-place.new.self c.in_ok-field.field (λ byte apart f k. search (rules, tests)) c.in_ok-field.ensures.steps in
    c.from_residual-in_err-numbers.ensures ∙
    sym (told (goal.at.returns-in_err-numbers c).After-largest_of-largest-items ∙ ap (line_with (form_of (get_or c.in_ok-next.field-0.now 0 0))) (no_number c.loop-place.invariant c.loop-place-test.true first (sym c.number_of.ensures ∙ c.in_err-numbers.was)))

pub loop-place-preserved : goal.loop-place-preserved
loop-place-preserved c =
    let first = one_left _ c.loop-place.fields c.next-in-loop-place.new.self c.in_ok-field.field (λ byte apart f k. search (rules, tests)) c.in_ok-field.ensures.steps in
    one_passed c.loop-place.invariant c.loop-place-test.true first (sym c.number_of.ensures ∙ c.in_ok-numbers.was) (omega arith)

pub returns-then-is_some : goal.returns-then-is_some
returns-then-is_some c =
    let more = some_left _ c.loop-place.fields c.next-2.new.self c.next-2.result (λ byte apart f k. search (rules, tests)) c.next-2.ensures.steps c.if-is_some.ensures in
    sym (told (goal.at.returns-then-is_some c).After-largest_of-largest-items ∙ ap (line_with (form_of (get_or c.in_ok-next.field-0.now 0 0))) (goes_on c.loop-place.invariant c.loop-place-test.false more.1))

pub called-requires : goal.called-requires
called-requires c =
    let small = c.loop-place.invariant.small in
    omega (arith, small 0, small 1, small 2)

pub returns : goal.returns
returns c =
    let none = no_more_left _ c.loop-place.fields c.next-2.new.self c.next-2.result c.next-2.ensures.steps c.if-is_some.ensures in
    c.called.ensures
    ∙ sym (line_read c.loop-place.invariant c.loop-place-test.false (form_of (get_or c.in_ok-next.field-0.now 0 0)) none)
    ∙ sym (told (goal.at.returns c).After-largest_of-largest-items)
