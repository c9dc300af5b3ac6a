-- Where there is the room for an answer, the line is written and no longer than that, so the rest of the buffer is as it was; elsewhere nothing
-- is. Assumes nothing.
use Rattle.std.proofs.Common.{rules, ◌≡◌, true, length, take, arith, sym}
use Rattle.std.proofs.lemmas.List.{length-take-le}
use Rattle.text.specs.Text.{has_room}
use Rattle.text.proofs.Laws.{answer_fits}
use Rattle.text.proofs.Room.{room_is}
use Rattle.text.proofs.Stores.{wrote_written}
use Rattle.text.proofs.write_answer.Goals as goal

pub slice_bounds-answer-end : goal.slice_bounds-answer-end
slice_bounds-answer-end c =
    let room = room_is c.args.at (length c.args.out.now) c.args.count (length c.args.tickets.now) (cc) in
    sym (length-take-le _ _ room.2)

pub answer-requires : goal.answer-requires
answer-requires c =
    let room = room_is c.args.at (length c.args.out.now) c.args.count (length c.args.tickets.now) (cc) in
    let held = length-take-le c.args.count c.args.tickets.now room.2 in
    omega (arith, answer_fits c.args.answer.code c.args.answer.value c.args.answer.time (take c.args.count c.args.tickets.now))

pub returns : goal.returns
returns c =
    let there : has_room c.args.at (length c.args.out.now) c.args.count (length c.args.tickets.now) ≡ true = (cc) in
    let room = room_is _ _ _ _ there in
    let held = length-take-le c.args.count c.args.tickets.now room.2 in
    let fits = answer_fits c.args.answer.code c.args.answer.value c.args.answer.time (take c.args.count c.args.tickets.now) in
    let written = wrote_written c.answer.ensures.wrote (omega arith) in
    rw there (c.answer.ensures.wrote.place, search (rules, written))
