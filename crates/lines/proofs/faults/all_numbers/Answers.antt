-- The library skips the first of the fields and asks it of each of the others. Assumes nothing.
use Rattle.std.proofs.Common.{◌≡◌, rules, tests, eqb, not, ◌&&◌, drop, Bool, List, [], ◌∷◌, ℕ, refl, ap, ◌∙◌}
use Rattle.std.proofs.lemmas.Iterator.Adapters.{YieldsList-from_skip}
use Rattle.std.proofs.lemmas.Iterator.Consumers.{YieldsList-at}
use Rattle.std.proofs.lemmas.Iterator.Search.{all_from_yields_List}
use Rattle.std.proofs.lemmas.Iterator.Splits.{YieldsList-from_slice_split}
use mathlib.Core.Bool.{and_assoc}
use Rattle.std.specs.List.{list_all}
use Rattle.lines.specs.Lines.{space, fields_of, is_empty, all_digits}
use Rattle.lines.specs.Faults.{all_numbers}
use Rattle.lines.proofs.Fields.{fields_split}
use Rattle.lines.proofs.faults.all_numbers.Goals as goal

numbers_alike : (fields : List (List ℕ)) → list_all (λ field. not (is_empty field) && all_digits field) fields ≡ all_numbers fields
unfolding all_numbers
numbers_alike [] = refl
numbers_alike (field ∷ fields) =
    ap (λ (others : Bool). (not (is_empty field) && all_digits field) && others) (numbers_alike fields)
    ∙ and_assoc (not (is_empty field)) (all_digits field) (all_numbers fields)

pub returns : goal.returns
returns c =
    all_from_yields_List (λ field. not (is_empty field) && all_digits field) _ _ _ c.all.ensures.ran
    (YieldsList-from_skip 1
    (YieldsList-at c.skip.ensures.source
    (YieldsList-from_slice_split _ (λ byte. eqb byte space) c.args.line.now c.split.ensures.rest c.split.ensures.done c.split.ensures.closure (λ x b q k. search (rules, tests))))
    c.skip.ensures.count)
    (λ x b q k. search (rules, tests))
    ∙ ap (λ (fields : List (List ℕ)). list_all (λ field. not (is_empty field) && all_digits field) (drop 1 fields)) (fields_split c.args.line.now)
    ∙ numbers_alike (drop 1 (fields_of c.args.line.now))
