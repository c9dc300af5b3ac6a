-- A piece that is fed is not empty and fits what is left (`left_used`); the last piece makes the part whole (`tells_all`).
use borrow.Author.Tests.{eqb-false, eqb-true}
use lib.ListN.{length-drop}
use Rattle.std.proofs.Common.{◌≡◌, length, arith, sym, ◌∙◌, refl}
use Rattle.std.proofs.lemmas.Result.{err_from_is_err_and}
use Rattle.session.proofs.Room.{used_fits}
use Rattle.talk.proofs.Telling.{left_used, tells_all, tells_cut, tells_more, tells_none, tells_some, tells_wrote}
use Rattle.talk.proofs.Writing.{front, left_all}
use Rattle.talk.proofs.Talk.tell.Goals as goal

pub loop-rest-init : goal.loop-rest-init
loop-rest-init g c = (tells_none _ _ _ c.if-prove.false, refl)

pub slice_bounds-rest-count : goal.slice_bounds-rest-count
slice_bounds-rest-count g c = used_fits _ _ _ c.feed-fed.ensures.0

pub slice_bounds-rest-start : goal.slice_bounds-rest-start
slice_bounds-rest-start g c = used_fits _ _ _ c.feed-fed.ensures.0

pub loop-rest-smaller : goal.loop-rest-smaller
loop-rest-smaller g c =
    let some : length c.loop-rest.rest.now ≡ 0 → ⊥ = eqb-false _ 0 (sym c.loop-rest-test.ensures) in
    let used = left_used _ _ _ _ _ _ c.loop-rest.invariant.0 _ _ some c.loop-rest.out.wide c.feed-fed.ensures.0 in
    rw left_all (omega (arith, used.0, used.1, length-drop c.feed-fed.result.used c.loop-rest.rest.now))

pub loop-rest-preserved : goal.loop-rest-preserved
loop-rest-preserved g c =
    let fed = rw (← c.feed-fed.ensures.0) at c.feed-fed.ensures in
    let text = front _ _ _ _ fed.2 fed.3 in
    let write = rw text at c.in_ok-write.ensures.writes in
    let wrote = rw text at c.in_ok-write.ensures.wrote in
    rw left_all (
      tells_more _ _ _ _ _ _ c.loop-rest.invariant.0 _ _ _ write.1 (write.0 ∙ fed.1) write.2 wrote,
      c.in_ok-write.ensures.reader ∙ c.loop-rest.invariant.1,
    )

pub returns-clause-answers : goal.returns-clause-answers
returns-clause-answers g c = tells_all _ _ _ _ _ _ c.loop-rest.invariant.0 (eqb-true _ 0 (sym c.loop-rest-test.ensures))

pub returns-clause-wrote : goal.returns-clause-wrote
returns-clause-wrote g c = tells_wrote _ _ _ _ _ _ c.loop-rest.invariant.0 (eqb-true _ 0 (sym c.loop-rest-test.ensures))

pub returns-in_err-write-clause-answers : goal.returns-in_err-write-clause-answers
returns-in_err-write-clause-answers g c =
    let p = err_from_is_err_and c.from_residual.result c.from_residual.ensures.1 in
    let fed = rw (← c.feed-fed.ensures.0) at c.feed-fed.ensures in
    let write = rw (front _ _ _ _ fed.2 fed.3) at c.in_err-write.ensures.writes in
    rw (p.1, p.2) (
      write.1 ∙ c.loop-rest.invariant.0.bytes,
      write.2,
      tells_cut _ _ _ _ _ _ c.loop-rest.invariant.0 _ c.write.new.self.heard (g.W.Write.contents c.write.new.self.ends.to) write.3,
    )

pub returns-in_err-write-clause-wrote : goal.returns-in_err-write-clause-wrote
returns-in_err-write-clause-wrote g c =
    let p = err_from_is_err_and c.from_residual.result c.from_residual.ensures.1 in
    let fed = rw (← c.feed-fed.ensures.0) at c.feed-fed.ensures in
    let wrote = rw (front _ _ _ _ fed.2 fed.3) at c.in_err-write.ensures.wrote in
    rw p.1 (tells_some _ _ _ _ _ _ c.loop-rest.invariant.0 _ c.write.new.self.heard _ wrote)
