-- The first field is a letter alone, or is none. Assumes nothing.
use Rattle.std.proofs.Common.{◌≡◌, ◌∷◌, get_or, sym, ap, ◌∙◌, arith, rules, tests}
use Rattle.lines.specs.Lines.{fields_of}
use Rattle.lines.specs.Faults.{begins_with_letter}
use Rattle.lines.proofs.Fields.{left, all_left, one_left, one_byte}
use Rattle.lines.proofs.Bytes.{letter_told, letter_first, other_first}
use Rattle.lines.proofs.faults.begins_with_letter.Goals as goal
use Rattle.lines.proofs.faults.begins_with_letter.Goals.{In-Some}

parted : (c : In-Some) → fields_of c.args.line.now ≡ c.in-Some.field.now ∷ left c.next.new.self
parted c =
    sym (all_left c.split.result c.args.line.now c.split.ensures.rest c.split.ensures.done)
    ∙ one_left _ c.split.result c.next.new.self c.in-Some.field (λ byte apart f k. search (rules, tests)) c.in-Some.ensures.steps

pub returns-in_default-field : goal.returns-in_default-field
returns-in_default-field c =
    sym (ap begins_with_letter (parted (goal.at.returns-in_default-field c).In-Some) ∙ other_first c.in-Some.field.now (left c.next.new.self) (λ e. omega arith))

pub returns-in_default-field-2 : goal.returns-in_default-field-2
returns-in_default-field-2 c =
    sym (ap begins_with_letter (parted (goal.at.returns-in_default-field-2 c).In-Some) ∙ other_first c.in-Some.field.now (left c.next.new.self) (λ e. omega arith))

pub returns : goal.returns
returns c =
    let letter = get_or c.in-Some.field.now 0 0 in
    let alone = one_byte c.in-Some.field.now c.in-len1.len_at_least c.in-len1.len_below in
    c.is_some.ensures
    ∙ sym (letter_told letter c.called.ensures)
    ∙ sym (ap begins_with_letter (parted (goal.at.returns c).In-Some) ∙ letter_first c.in-Some.field.now (left c.next.new.self) letter alone)
