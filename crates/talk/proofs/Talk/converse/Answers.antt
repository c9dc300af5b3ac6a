-- What a read has brought is heard, and with it all that was read before (`heard_more`).
use Rattle.std.proofs.Common.{[], refl, ap, ◌∙◌, arith, Ok}
use mathlib.Core.Bool.{false≢true}
use Rattle.std.proofs.lemmas.Result.{err_from_is_err_and}
use Rattle.std.proofs.KnownBytes.{Appends-nil, Consumes-nil}
use Rattle.session.specs.Stream.{printed_for}
use Rattle.talk.proofs.Telling.{failed_whole, failed_writing, heard_more, less_to_count, none_all}
use Rattle.talk.proofs.Talk.converse.Goals as goal

pub loop-goes_on-init : goal.loop-goes_on-init
unfolding printed_for
loop-goes_on-init g c = (refl, ([], rw c.requires.begins none_all, Consumes-nil _, Appends-nil _))

pub loop-goes_on-smaller : goal.loop-goes_on-smaller
loop-goes_on-smaller g c = rw c.if-not-goes_on.false at (less_to_count _ _ _ _ _ c.in_ok-goes_on.ensures.hears)

pub loop-goes_on-preserved : goal.loop-goes_on-preserved
loop-goes_on-preserved g c =
    let at = c.loop-goes_on.invariant in
    let hear = c.in_ok-goes_on.ensures in
    let writes = rw c.read_part-got.ensures.writer at hear.wrote in
    let heard = heard_more _ _ _ _ _ at.1.0 at.1.1 _ _ _ _ _ _ at.1.2 c.read_part-got.ensures.bytes at.1.3 writes hear.hears in (
      c.read_part-got.ensures.same ∙ at.0,
      rw hear.reader (
        heard.0,
        (heard.1.0.0, (heard.1.0.2 (λ e. cc)).0, (heard.1.0.2 (λ e. cc)).1),
        heard.1.1 (λ e. cc),
        heard.1.3.1 (λ e. cc),
      ),
    )

pub returns-then-not-goes_on : goal.returns-then-not-goes_on
returns-then-not-goes_on g c =
    let at = c.loop-goes_on.invariant in
    let hear = c.in_ok-goes_on.ensures in
    let writes = rw c.read_part-got.ensures.writer at hear.wrote in
    let heard = heard_more _ _ _ _ _ at.1.0 at.1.1 _ _ _ _ _ _ at.1.2 c.read_part-got.ensures.bytes at.1.3 writes hear.hears in
    rw hear.reader (
      heard.0,
      (heard.1.0.0, λ e. absurd (cc e), λ e. heard.1.0.2 (λ e. cc)),
      (λ counted. heard.1.1 (λ e. cc), λ some ok. heard.1.2 (omega (arith, some, c.read_part-got.ensures.same, at.0)) (ap Ok c.if-not-goes_on.true)),
      (λ e. absurd (cc e), λ e. heard.1.3.1 (λ e. cc)),
    )

pub returns-in_err-goes_on : goal.returns-in_err-goes_on
returns-in_err-goes_on g c =
    let p = err_from_is_err_and c.from_residual.result c.from_residual.ensures.1 in
    let at = c.loop-goes_on.invariant in
    let hear = c.in_err-goes_on.ensures in
    let writes = rw c.read_part-got.ensures.writer at hear.wrote in
    let heard = heard_more _ _ _ _ _ at.1.0 at.1.1 _ _ _ _ _ _ at.1.2 c.read_part-got.ensures.bytes at.1.3 writes hear.hears in
    rw (p.1, p.2, hear.reader) (
      heard.0,
      failed_whole _ _ _ heard.1.0,
      (λ counted. heard.1.1 (λ e. counted (cc e)), λ some ok. absurd (false≢true ok)),
      failed_writing _ _ _ _ heard.1.3,
    )
