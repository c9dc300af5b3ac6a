-- A column stays tidy with another number in one place: it is used, or becomes so, or becomes free and then holds 0; and with more places used, where
-- none of them is past it. Assumes nothing.
use mathlib.Core.Bool.{false, true}
use mathlib.Core.List.{List}
use mathlib.Core.Logic.{⊎_elim}
use mathlib.Core.Path.{◌∙◌, ◌≡◌}
use Prim.Native.Nat.{◌<◌, ◌≤◌, ℕ}
use native.Mathlib.Decide.{dec_lt, ℕ_discrete}
use native.Mathlib.Omega.{arith}
use lib.ListN.{length-replicate, length-set, replicate, set}
use Rattle.words.specs.Words.{either, except, has, word_places}
use Rattle.words.proofs.Changes.{Elsewhere, either_one, except_was}
use Rattle.words.proofs.YesOrNo.{bool_cases, not_then}
use Rattle.tables.specs.Columns.{at}
use Rattle.tables.specs.Order.{Inside, Tidy}
use Rattle.tables.proofs.At.{at-past, at_set_other, at_set_same, at-zeros}

-- ---- a word that names no place past so many

module _ {places : ℕ} (used : ℕ) (inside : Inside places used) where
  pub inside_elsewhere : {word p : ℕ} → Elsewhere word used p → p < places → Inside places word
  inside_elsewhere {p = p} else below place there = elim (ℕ_discrete place p) [
    | yes same ↦ rw same below
    | no apart ↦ inside place (else.was place apart there)
  ]

  pub inside_except : (gone : ℕ) → Inside places (except used gone)
  inside_except gone place there = inside place (except_was used gone place there)

  pub inside_either : (other : ℕ) → Inside places other → Inside places (either used other)
  inside_either other also place there = ⊎_elim (inside place) (also place) (either_one used other place there)

-- ---- a tidy column

pub tidy_zeros : (places used : ℕ) → Tidy places used (replicate places 0)
tidy_zeros places used = record { sized = length-replicate places 0; free = λ place unused. at-zeros places places place }

module _ {places used : ℕ} {column : List ℕ} (tidy : Tidy places used column) where
  -- what holds of 0 and of all used places holds of every place
  pub tidy_all : (P : ℕ → Type 0) → P 0 → ((place : ℕ) → has used place ≡ true → P (at places column place)) → (place : ℕ) → P (at places column place)
  tidy_all P none all place = bool_cases (has used place) (all place) (λ unused. rw (tidy.free place unused) none)

  -- more places used
  pub tidy_more : {more : ℕ} → ((place : ℕ) → place < places → has used place ≡ true → has more place ≡ true) → Tidy places more column
  tidy_more stays = record {
    sized = tidy.sized;
    free = λ place unused. elim (dec_lt place places) [
      | yes inside ↦ tidy.free place (not_then (stays place inside) unused)
      | no past ↦ at-past places column (omega arith)
    ];
  }

  pub tidy_set : places ≤ word_places → {word p : ℕ} → Elsewhere word used p → p < places → (number : ℕ) → (has word p ≡ false → number ≡ 0)
      → Tidy places word (set column p number)
  tidy_set fits {word} {p} else below number freed = record {
    sized = length-set column p number ∙ tidy.sized;
    free = λ place unused. elim (ℕ_discrete place p) [
      | yes same ↦ rw (same, at_set_same places column p number below tidy.sized) (freed (rw same at unused))
      | no apart ↦ at_set_other places column p number place apart ∙ elim (dec_lt place places) [
        | yes inside ↦ tidy.free place (not_then (else.stays place (omega arith) apart) unused)
        | no past ↦ at-past places column (omega arith)
      ]
    ];
  }
