-- A space is one text and the number another, and one text after another is one text. Assumes nothing.
use Rattle.std.proofs.Common.{arith}
use Rattle.text.specs.Text.{field_text, decimal_text}
use Rattle.text.proofs.Stores.{next, room_after}
use Rattle.text.proofs.Line.field.Goals as goal

pub byte-requires : goal.byte-requires
unfolding field_text
byte-requires c = omega arith

pub number-requires : goal.number-requires
unfolding field_text
number-requires c = room_after (decimal_text c.args.number) c.byte.ensures c.requires

pub returns : goal.returns
unfolding field_text
returns c = next c.byte.ensures c.number.ensures
