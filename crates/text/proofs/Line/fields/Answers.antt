-- Each turn writes one more ticket behind those that stand. Assumes nothing.
use Rattle.std.proofs.Common.{arith, slice_index_or}
use Rattle.text.specs.Text.{field_text, fields_text}
use Rattle.text.proofs.Stores.{next, none_added, room_after, field_fits, fields_take}
use Rattle.text.proofs.Line.fields.Goals as goal

pub loop-ticket-init : goal.loop-ticket-init
unfolding fields_text
loop-ticket-init c = none_added c.args.self.now

pub field-requires : goal.field-requires
field-requires c =
    let i = c.loop-ticket.ticket-index in
    room_after (field_text (slice_index_or c.args.tickets.now i 0)) c.loop-ticket.invariant
    (omega (arith, field_fits c.args.tickets.now i c.loop-ticket-test.true))

pub loop-ticket-preserved : goal.loop-ticket-preserved
loop-ticket-preserved c =
    rw (fields_take c.args.tickets.now c.loop-ticket.ticket-index c.loop-ticket-test.true) (next c.loop-ticket.invariant c.field.ensures)
