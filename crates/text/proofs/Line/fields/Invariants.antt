-- After each turn the tickets so far stand, a space before each. Assumes nothing.
use Rattle.std.proofs.Common.{take}
use Rattle.text.specs.Text.{fields_text}
use Rattle.text.specs.Writing.{Added}
use Rattle.text.proofs.Line.fields.Given as goal

abbrev pub invariant-loop-ticket : goal.invariant-loop-ticket
invariant-loop-ticket l = Added l.fn.self (fields_text (take l.ticket-index l.tickets)) l.self
