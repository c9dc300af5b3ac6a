-- The library's test of a digit is the definition's. Assumes nothing.
use Rattle.std.proofs.Common.{◌≡◌, Bool, List, [], ◌∷◌, ℕ, length, not, ◌&&◌, refl, sym, ap, ◌∙◌, rules, tests}
use borrow.Author.Tests.{eqb-false}
use Rattle.std.specs.Char.{is_ascii_digit}
use Rattle.std.specs.List.{list_all}
use Rattle.std.proofs.lemmas.Iterator.{YieldsList-from_slice}
use Rattle.std.proofs.lemmas.Iterator.Search.{all_from_yields_List}
use Rattle.lines.specs.Lines.{is_empty, all_digits}
use Rattle.lines.proofs.faults.is_number.Goals as goal

digits_alike : (field : List ℕ) → list_all is_ascii_digit field ≡ all_digits field
unfolding all_digits
digits_alike [] = refl
digits_alike (byte ∷ bytes) = ap (λ (others : Bool). is_ascii_digit byte && others) (digits_alike bytes)

filled : (field : List ℕ) → (length field ≡ 0 → ⊥) → all_digits field ≡ (not (is_empty field) && all_digits field)
filled [] some = absurd (some refl)
filled (byte ∷ bytes) some = refl

pub returns-then-not-is_empty : goal.returns-then-not-is_empty
returns-then-not-is_empty c =
    all_from_yields_List is_ascii_digit _ _ _ c.all.ensures.ran (YieldsList-from_slice c.args.field.now (cc)) (λ x b q k. search (rules, tests))
    ∙ digits_alike c.args.field.now
    ∙ filled c.args.field.now (eqb-false _ _ (sym c.if-not-is_empty.ensures))
