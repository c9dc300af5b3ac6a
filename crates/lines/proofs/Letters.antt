-- The letter of a line, and the form that it has. Assumes nothing.
use Rattle.std.proofs.Common.{◌≡◌, ◌≤◌, ◌<◌, ℕ, List, [], ◌∷◌, length, drop, None, refl, ap, ◌∙◌}
use borrow.Author.Tests.{le-leb, lt-leb}
use Rattle.lines.specs.Reading.{limits_from}
use Rattle.lines.specs.Lines.{fields_of, numbers_of, form_of, line_with, line_of, longest_line, read_line}

module _ (line : List ℕ) where
  pub too_long : longest_line < length line → read_line line ≡ None
  unfolding read_line
  too_long long = simp (lt-leb (length line) longest_line long)

  module _ (short : length line ≤ longest_line) where
    pub by_fields : {fields : List (List ℕ)} → fields_of line ≡ fields → read_line line ≡ line_of fields
    unfolding read_line
    by_fields e = simp (le-leb (length line) longest_line short) (ap line_of e)

    -- the first field is no byte alone
    pub no_letter : (field : List ℕ) {more : List (List ℕ)} → fields_of line ≡ field ∷ more → (length field ≡ 1 → ⊥) → read_line line ≡ None
    unfolding line_of
    no_letter [] e other = by_fields e
    no_letter (letter ∷ []) e other = absurd (other refl)
    no_letter (letter ∷ (byte ∷ bytes)) e other = by_fields e

    -- the first field is a letter alone, and what the line says is what the letter says with the fields behind it
    pub by_letter : (field : List ℕ) (letter : ℕ) (largest : List ℕ) {more : List (List ℕ)}
        → fields_of line ≡ field ∷ more
        → field ≡ letter ∷ []
        → limits_from largest ≡ (form_of letter).limits
        → read_line line ≡ line_with (form_of letter) (numbers_of (limits_from largest) (drop 1 (fields_of line)))
    unfolding line_of
    by_letter field letter largest {more} e alone limits =
        by_fields (e ∙ ap (λ (first : List ℕ). first ∷ more) alone) ∙ rw (e, limits)
