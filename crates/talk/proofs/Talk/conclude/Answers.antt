-- By what the session came to: where its input has ended and all of the last answer was taken, the whole session was told (`spoken`).
use Rattle.std.proofs.Common.{refl, sym, ◌∙◌, inl, inr}
use mathlib.Core.Bool.{false≢true}
use Rattle.std.proofs.lemmas.Result.{err_from_is_err_and}
use Rattle.talk.proofs.Telling.{cut_before_end, end_written, spoken, spoken_cut, spoken_notes}
use Rattle.talk.proofs.Writing.{front}
use Rattle.talk.proofs.Talk.conclude.Goals as goal

pub returns-in_err-heard-clause-concludes : goal.returns-in_err-heard-clause-concludes
returns-in_err-heard-clause-concludes g c =
    let p = err_from_is_err_and c.from_residual.result c.from_residual.ensures.1 in
    rw (p.1, p.2, c.in_err-heard.was) (
      (λ ok. absurd (false≢true ok), refl),
      λ all heard. (heard.0, tt, λ e. cut_before_end all _ (heard.1 (cc e)), λ err other. (heard.2 (λ e. other (cc e))).1),
    )

pub returns-in_err-write-clause-concludes : goal.returns-in_err-write-clause-concludes
returns-in_err-write-clause-concludes g c =
    let p = err_from_is_err_and c.from_residual-in_err-write.result c.from_residual-in_err-write.ensures.1 in
    let finished = c.finish-finished.ensures in
    let write = rw (front _ _ _ _ finished.1 finished.2 ∙ end_written _ _ c.args.out.now.wide) at c.in_err-write.ensures.writes in
    rw (p.1, p.2, write.2, c.in_ok-heard.was) (
      (λ ok. inr refl, tt),
      λ all heard. (let told = heard.2 (λ e. cc) in
          (heard.0 ∙ sym write.1, tt, λ e. spoken_cut all _ _ _ told.0 told.1 write.3, λ err other. absurd (other refl))),
    )

pub returns-clause-concludes : goal.returns-clause-concludes
returns-clause-concludes g c =
    let finished = c.finish-finished.ensures in
    let write = rw (front _ _ _ _ finished.1 finished.2 ∙ end_written _ _ c.args.out.now.wide) at c.in_ok-write.ensures.writes in
    rw c.in_ok-heard.was (
      (λ ok. inl refl, tt),
      λ all heard. (let told = heard.2 (λ e. cc) in (
        heard.0 ∙ sym write.1,
        (spoken all _ _ _ told.0 told.1 write.2, spoken_notes all _ _ 0 told.0 told.1 _ _ c.args.out.now.wide finished.0),
        λ e. absurd (cc e),
        λ e. absurd (false≢true e),
      )),
    )
