-- A last line that lacks its newline is fed one: the room that is tested first is all that a newline alone waits for. Assumes nothing.
use mathlib.Core.Path.{refl, ap, ◌∙◌}
use Prim.Native.Nat.{◌≤◌}
use native.Mathlib.Omega.{arith}
use borrow.Author.Tests.{lt-ltb, le-ltb, eq-eqb}
use lib.ListN.{length}
use Rattle.text.specs.Text.{answer_room}
use Rattle.session.specs.declared.Reader.{Reader}
use Rattle.session.specs.Stream.{noted_at_end, printed_at_end}
use Rattle.session.proofs.Feeding.{finished, finished_notes}
use Rattle.session.proofs.finish.Goals as goal

pub returns-then-out-lt-ANSWER_ROOM : goal.returns-then-out-lt-ANSWER_ROOM
returns-then-out-lt-ANSWER_ROOM c = rw (lt-ltb _ answer_room c.if-out-lt-ANSWER_ROOM.true) (refl, refl, refl)

pub returns-then-reader-eq0 : goal.returns-then-reader-eq0
unfolding printed_at_end noted_at_end
returns-then-reader-eq0 c =
    let fits : answer_room ≤ length c.args.out.now = omega arith in
    rw (le-ltb _ answer_room fits, eq-eqb _ _ c.if-reader-eq0.true) (refl, refl, refl)

pub returns : goal.returns
returns c =
    let fits : answer_room ≤ length c.args.out.now = omega arith in
    let told = rw (finished c.args.reader _ c.if-reader-eq0.false fits) at c.feed-fed.ensures in
    let noted = ap (λ (r : Reader). r.notes) c.feed-fed.ensures.1 ∙ finished_notes c.args.reader _ c.if-reader-eq0.false fits in
    rw (le-ltb _ answer_room fits) (noted, told.2, told.3)
