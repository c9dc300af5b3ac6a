-- By what the read has answered, arm for arm; a part that came is told, and the session goes on where it was told as whole.
use Rattle.std.proofs.Common.{◌≡◌, ◌+◌, ◌<◌, arith, length, min, refl, sym, ◌∙◌, inl, inr}
use borrow.Author.Tests.{eq-eqb, eqb-false, eqb-true, lt-ltb, ne_eqb}
use Rattle.std.proofs.lemmas.Result.{err_from_is_err_and}
use Rattle.session.specs.Notes.{largest_count}
use Rattle.talk.specs.Talk.{Hears}
use Rattle.talk.proofs.Telling.{hears_part}
use Rattle.talk.proofs.Talk.hear.Goals as goal

pub returns-in-Ok-eq0-clause-hears : goal.returns-in-Ok-eq0-clause-hears
unfolding Hears
returns-in-Ok-eq0-clause-hears g c =
    let none : c.in-Ok-eq0.field-0 ≡ 0 = cc (c.in-Ok-eq0.field-0-is, c.in-Ok-eq0.field-0-test) in
    rw (c.in-Ok-eq0.is, eq-eqb _ 0 none) (refl, refl)

pub returns-in_default-clause-hears : goal.returns-in_default-clause-hears
unfolding Hears
returns-in_default-clause-hears g c =
    let read : c.in-Ok.read ≡ 0 → ⊥ = rw c.in-Ok.is at c.in-Ok.read-test.1 in
    let none : length c.args.input.now ≡ 0 = eqb-true _ 0 (sym c.is_empty.ensures ∙ c.if-not-is_empty.false) in
    rw (c.in-Ok.is, ne_eqb _ 0 read, eq-eqb (min c.in-Ok.read (length c.args.input.now)) 0 (omega (arith, none))) (refl, refl)

pub returns-in_default-2-clause-hears : goal.returns-in_default-2-clause-hears
unfolding Hears
returns-in_default-2-clause-hears g c = rw c.in_default.is (refl, refl)

pub returns-in_err-self-clause-hears : goal.returns-in_err-self-clause-hears
unfolding Hears
returns-in_err-self-clause-hears g c =
    let p = err_from_is_err_and c.from_residual.result c.from_residual.ensures.1 in
    let read : c.in-Ok.read ≡ 0 → ⊥ = rw c.in-Ok.is at c.in-Ok.read-test.1 in
    let room : length c.args.input.now ≡ 0 → ⊥ = eqb-false _ 0 (sym c.is_empty.ensures ∙ c.if-not-is_empty.true) in
    let some : c.min-count.result ≡ 0 → ⊥ = omega (arith, read, room, c.min-count.ensures) in
    let why = rw c.in_err-self.ensures.ok_part at c.in_err-self.ensures.value in
    let over = rw c.in_err-self.ensures.ok_part at c.checked_add-bytes.ensures in
    let uncounted : largest_count < c.args.self.now.heard.bytes + c.min-count.result = omega (arith, over) in
    rw (c.in-Ok.is, ← c.min-count.ensures, ne_eqb _ 0 read, ne_eqb _ 0 some, lt-ltb largest_count _ uncounted) (cc (p.1, p.2, why), refl)

pub returns-in_err-tell-clause-hears : goal.returns-in_err-tell-clause-hears
returns-in_err-tell-clause-hears g c =
    let p = err_from_is_err_and c.from_residual-in_err-tell.result c.from_residual-in_err-tell.ensures.1 in
    let read = rw c.in-Ok.is at c.in-Ok.read-test.1 in
    let room = eqb-false _ 0 (sym c.is_empty.ensures ∙ c.if-not-is_empty.true) in
    let sum = rw c.in_ok-self.ensures.ok_part at c.checked_add-bytes.ensures in
    let told = c.in_err-tell.ensures.answers in
    hears_part _ _ _ _ _ c.in-Ok.read _ c.in-Ok.is read room c.min-count.ensures (omega (arith, sum.0)) (omega (arith, told.0, sum.1)) (inr (cc (p.1, p.2, told.1), told.2))

pub returns-clause-hears : goal.returns-clause-hears
returns-clause-hears g c =
    let read = rw c.in-Ok.is at c.in-Ok.read-test.1 in
    let room = eqb-false _ 0 (sym c.is_empty.ensures ∙ c.if-not-is_empty.true) in
    let sum = rw c.in_ok-self.ensures.ok_part at c.checked_add-bytes.ensures in
    let told = c.in_ok-tell.ensures.answers in
    hears_part _ _ _ _ _ c.in-Ok.read _ c.in-Ok.is read room c.min-count.ensures (omega (arith, sum.0)) (omega (arith, told.0, sum.1)) (inl (refl, told.1, told.2))
