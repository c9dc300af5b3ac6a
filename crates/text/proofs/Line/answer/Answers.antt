-- The three numbers, the tickets and the newline are written one behind the other, and what each writer promises chains. Assumes nothing.
use Rattle.text.specs.Text.{answer_text}
use Rattle.text.proofs.Stores.{next, room_first, room_after}
use Rattle.text.proofs.Line.answer.Goals as goal

pub number-requires : goal.number-requires
unfolding answer_text
number-requires c = room_first c.args.self.now _ _ (room_first c.args.self.now _ _ (room_first c.args.self.now _ _ (room_first c.args.self.now _ _ c.requires)))

pub field-requires : goal.field-requires
unfolding answer_text
field-requires c = room_after _ c.number.ensures (room_first c.args.self.now _ _ (room_first c.args.self.now _ _ (room_first c.args.self.now _ _ c.requires)))

pub field-requires-2 : goal.field-requires-2
unfolding answer_text
field-requires-2 c = room_after _ (next c.number.ensures c.field.ensures) (room_first c.args.self.now _ _ (room_first c.args.self.now _ _ c.requires))

pub fields-requires : goal.fields-requires
unfolding answer_text
fields-requires c = room_after _ (next (next c.number.ensures c.field.ensures) c.field-2.ensures) (room_first c.args.self.now _ _ c.requires)

pub byte-requires : goal.byte-requires
unfolding answer_text
byte-requires c = room_after _ (next (next (next c.number.ensures c.field.ensures) c.field-2.ensures) c.fields.ensures) c.requires

pub returns : goal.returns
unfolding answer_text
returns c = next (next (next (next c.number.ensures c.field.ensures) c.field-2.ensures) c.fields.ensures) c.byte.ensures
