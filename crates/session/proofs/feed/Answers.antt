-- After some bytes of the part, the reader, the bytes passed and the text in out are those that the definitions say (`Fed`), and a byte more keeps
-- this: it joins the line, or ends it, is answered and leaves the text behind the answer. Assumes nothing.
use mathlib.Core.Path.{◌≡◌, refl, sym, ◌∙◌}
use Prim.Native.Nat.{◌+◌, ◌≤◌}
use native.Mathlib.Omega.{arith}
use borrow.Author.Tests.{eq-eqb, ne_eqb, lt-ltb, le-ltb}
use lib.ListN.{length, length-set}
use lib.Seq.{length-take-le}
use Rattle.text.specs.Text.{answer_room}
use Rattle.session.specs.Stream.{line_kept}
use Rattle.session.proofs.Turning.{Ran, deed_ran, sweep_ran, unreadable_ran, turn-written}
use Rattle.session.proofs.Feeding.{fed_none, fed_joins, fed_ends, fed_length, fed_all, fed_waits, fed_promised, kept_line}
use Rattle.std.proofs.Common.{rules}
use Rattle.session.proofs.feed.Goals as goal
use Rattle.session.proofs.feed.Goals.{Joined-said}
use Rattle.session.proofs.feed.Goals.{
  in-Some-By+in-Channel,
  in-Some-By+in-NewThread,
  in-Some-By+in-AttachInput,
  in-Some-By+in-AttachOutput,
  in-Some-By+in-Detach,
  in-Some-By+in-End,
  in-Some-By+in-Set,
  in-Some-By+in-Put,
  in-Some-By+in-Get,
  in-Some-By+in-Consume,
  in-Some-By+in-ConsumeUntil,
  in-Some-Sweep,
  in-None,
  then-held-lt-LINE_KEPT,
  else-held-lt-LINE_KEPT,
  else-loop-place-test,
  then-loop-place-test+else-byte-ne10+then-out-at-lt-ANSWER_ROOM,
}

pub loop-place-init : goal.loop-place-init
loop-place-init c = (fed_none _ _ _, search rules, refl)

pub loop-place-preserved-then-byte-ne10 : goal.loop-place-preserved-then-byte-ne10
loop-place-preserved-then-byte-ne10 c =
    let looped = c.loop-place in
    let joins = fed_joins _ _ _ _ _ _ _ looped.invariant.0 _ c.loop-place-test.true refl (ne_eqb _ _ c.if-byte-ne10.true) in
    elim c.if-held-lt-LINE_KEPT.branch [
      | then-held-lt-LINE_KEPT w ↦ rw (w.line-is, w.held-is) (rw (lt-ltb _ line_kept w.if-held-lt-LINE_KEPT.true) at joins, simp length-set looped.invariant.1, looped.invariant.2)
      | else-held-lt-LINE_KEPT w ↦
          let full : line_kept ≤ looped.held = omega arith in
          rw (w.line-is, w.held-is) (rw (le-ltb _ line_kept full) at joins, looped.invariant.1, looped.invariant.2)
    ]

-- where the arms meet, each has left what is the line's turn
ran : (c : Joined-said)
    → Ran c.loop-place.next.desk
    c.read-said.result c.match-said.next c.match-said.slice c.match-said.count
ran c =
    elim c.match-said.branch [
      | in-Some-By+in-Channel w ↦ deed_ran w.in-Some-By.is (rw w.in-Some-By.is at w.in-Some-By.field-0-is) w.in-Channel.is (w.next-is ∙ w.channel-next.ensures) w.slice-is w.count-is
      | in-Some-By+in-NewThread w ↦ deed_ran w.in-Some-By.is (rw w.in-Some-By.is at w.in-Some-By.field-0-is) w.in-NewThread.is (w.next-is ∙ w.new_thread-next.ensures) w.slice-is w.count-is
      | in-Some-By+in-AttachInput w ↦ deed_ran w.in-Some-By.is (rw w.in-Some-By.is at w.in-Some-By.field-0-is) w.in-AttachInput.is (w.next-is ∙ w.attach_input-next.ensures) w.slice-is w.count-is
      | in-Some-By+in-AttachOutput w ↦ deed_ran w.in-Some-By.is (rw w.in-Some-By.is at w.in-Some-By.field-0-is) w.in-AttachOutput.is (w.next-is ∙ w.attach_output-next.ensures) w.slice-is w.count-is
      | in-Some-By+in-Detach w ↦ deed_ran w.in-Some-By.is (rw w.in-Some-By.is at w.in-Some-By.field-0-is) w.in-Detach.is (w.next-is ∙ w.detach-next.ensures) w.slice-is w.count-is
      | in-Some-By+in-End w ↦ deed_ran w.in-Some-By.is (rw w.in-Some-By.is at w.in-Some-By.field-0-is) w.in-End.is (w.next-is ∙ w.end-next.ensures) w.slice-is w.count-is
      | in-Some-By+in-Set w ↦ deed_ran w.in-Some-By.is (rw w.in-Some-By.is at w.in-Some-By.field-0-is) w.in-Set.is (w.next-is ∙ w.set-next.ensures) w.slice-is w.count-is
      | in-Some-By+in-Put w ↦ deed_ran w.in-Some-By.is (rw w.in-Some-By.is at w.in-Some-By.field-0-is) w.in-Put.is (w.next-is ∙ w.put-next.ensures) w.slice-is w.count-is
      | in-Some-By+in-Get w ↦ deed_ran w.in-Some-By.is (rw w.in-Some-By.is at w.in-Some-By.field-0-is) w.in-Get.is (w.next-is ∙ w.get-next.ensures) w.slice-is w.count-is
      | in-Some-By+in-Consume w ↦ deed_ran w.in-Some-By.is (rw w.in-Some-By.is at w.in-Some-By.field-0-is) w.in-Consume.is (w.next-is ∙ w.consume-next.ensures) w.slice-is w.count-is
      | in-Some-By+in-ConsumeUntil w ↦ deed_ran w.in-Some-By.is (rw w.in-Some-By.is at w.in-Some-By.field-0-is) w.in-ConsumeUntil.is (w.next-is ∙ w.consume_until-next.ensures) w.slice-is w.count-is
      | in-Some-Sweep w ↦ sweep_ran w.in-Some-Sweep.is (rw w.in-Some-Sweep.is at w.in-Some-Sweep.field-0-is) w.sweep-next.ensures w.sweep-next.auto.slice w.next-is w.slice-is
          (w.count-is ∙ w.swept_count-count.ensures)
      | in-None w ↦ unreadable_ran w.in-None.is w.next-is w.slice-is w.count-is
    ]

pub overflow_sub-out : goal.overflow_sub-out
overflow_sub-out c =
    let fed = c.loop-place.invariant.0 in
    omega (arith, fed_length _ _ _ _ _ _ _ fed, fed.room)

pub slice_bounds-read-end : goal.slice_bounds-read-end
slice_bounds-read-end c = sym (length-take-le _ _ (omega arith))

pub slice_bounds-noted-end : goal.slice_bounds-noted-end
slice_bounds-noted-end c = sym (length-take-le _ _ (omega arith))

pub slice_bounds-write_answer-end : goal.slice_bounds-write_answer-end
slice_bounds-write_answer-end c = sym (ran (goal.at.slice_bounds-write_answer-end c).Joined-said).long

pub loop-place-preserved : goal.loop-place-preserved
loop-place-preserved c =
    let looped = c.loop-place in
    let fits : looped.at + answer_room ≤ length looped.out = omega (arith, c.if-out-at-lt-ANSWER_ROOM.false) in
    let line = kept_line looped.line looped.held _ c.min-kept.ensures looped.invariant.1 in
    let left = ran (goal.at.loop-place-preserved c).Joined-said in
    let turned = turn-written _ _ _ _ _ _ _ _ _ _ c.read-said.ensures left fits c.write_answer-at.ensures in (
      fed_ends _ _ _ _ _ _ _ looped.invariant.0 _ c.loop-place-test.true refl _ _ _ _ _ line
          (eq-eqb _ _ c.if-byte-ne10.false) fits c.write_answer-at.auto.out turned
          (rw c.read-said.ensures at c.noted-notes.ensures),
      looped.invariant.1,
      looped.invariant.2,
    )

pub returns : goal.returns
returns c =
    let looped = c.loop-place in
    let fed = looped.invariant.0 in
    elim c.loop-place-test.branch [
      | else-loop-place-test w ↦
          let end : c.loop-place-test.used ≡ looped.place = omega (arith, w.used-is) in
          rw end (fed_promised _ _ _ _ _ _ _ fed (fed_all _ _ _ _ _ _ _ fed w.loop-place-test.false))
      | then-loop-place-test+else-byte-ne10+then-out-at-lt-ANSWER_ROOM w ↦ rw w.used-is (fed_promised _ _ _ _ _ _ _ fed
          (fed_waits _ _ _ _ _ _ _ fed _ w.loop-place-test.true refl (eq-eqb _ _ w.if-byte-ne10.false) w.if-out-at-lt-ANSWER_ROOM.true))
    ]
