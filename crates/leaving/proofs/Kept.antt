-- What a change of a column keeps: a free place holds zeros still, where zero stays zero or used places alone are changed; and words that share out the
-- places of one word share out what is left of them. Assumes nothing.
use mathlib.Core.Bool.{Bool, ◌&&◌, false, not, true}
use mathlib.Core.List.{List}
use mathlib.Core.Path.{◌∙◌, ◌≡◌, ap, sym}
use Prim.Native.Nat.{◌<◌, ◌≤◌, max, ℕ}
use native.Mathlib.Decide.{dec_lt}
use native.Mathlib.Omega.{arith}
use lib.ListN.{length}
use lib.Pow.{pow_pos}
use Rattle.words.specs.Words.{except, has, word_places}
use Rattle.words.proofs.Changes.{except-stays}
use Rattle.words.proofs.Laws.{has_none, word_of_is}
use Rattle.words.proofs.YesOrNo.{bool_cases, not_then}
use Rattle.tables.specs.Columns.{at, connection_places}
use Rattle.tables.specs.Order.{Shared, Tidy}
use Rattle.tables.proofs.At.{at-past}
use Rattle.tables.proofs.Shared.{shared_except}
use Rattle.leaving.specs.Leaving.{changed, cleared, lessened, raised}
use Rattle.leaving.proofs.Changed.{changed-at, length-changed, wanted}

-- ---- some places less

except_none : (gone : ℕ) → except 0 gone ≡ 0
unfolding except
except_none gone =
    sym
    (word_of_is (λ place. has 0 place && not (has gone place)) 0 (pow_pos word_places)
    (λ place inside. has_none place ∙ ap (λ (b : Bool). b && not (has gone place)) (sym (has_none place))))

pub lessened-at : (places gone : ℕ) (column : List ℕ) → length column ≡ places → (place : ℕ)
    → at places (lessened places gone column) place ≡ except (at places column place) gone
lessened-at places gone column sized place = elim (dec_lt place places) [
  | yes inside ↦ changed-at places (λ other. true) (λ word. except word gone) column sized place inside
  | no past ↦ at-past places (lessened places gone column) (omega arith)
      ∙ sym (except_none gone)
      ∙ ap (λ (word : ℕ). except word gone) (sym (at-past places column (omega arith)))
]

-- ---- a free place holds zeros only

module _ {places used : ℕ} {column : List ℕ} (tidy : Tidy places used column) where
  tidy_changed : (left : ℕ) (test : ℕ → Bool) (rule : ℕ → ℕ)
      → ((place : ℕ) → place < places → has left place ≡ false → wanted places test rule column place ≡ 0)
      → Tidy places left (changed places test rule column)
  tidy_changed left test rule zeros = record {
    sized = length-changed places test rule column ∙ tidy.sized;
    free = λ place unused. elim (dec_lt place places) [
      | yes inside ↦ changed-at places test rule column tidy.sized place inside ∙ zeros place inside unused
      | no past ↦ at-past places (changed places test rule column) (omega arith)
    ];
  }

  -- some places become free
  pub tidy_cleared : (gone : ℕ) → places ≤ word_places → Tidy places (except used gone) (cleared places gone column)
  tidy_cleared gone fits =
      tidy_changed (except used gone) (has gone) (λ number. 0)
      (λ place inside unused. bool_cases (has gone place)
      (λ left. rw left)
      (λ kept. rw kept (tidy.free place (not_then (λ held. except-stays used gone place (omega arith) held kept) unused))))

  -- zero stays zero
  pub tidy_lessened : (gone : ℕ) → Tidy places used (lessened places gone column)
  tidy_lessened gone =
      tidy_changed used (λ place. true) (λ word. except word gone) (λ place inside unused. rw (tidy.free place unused) (except_none gone))

-- used places alone are changed
pub tidy_raised : {used : ℕ} {marks : List ℕ} → Tidy connection_places used marks → (inputs bound : ℕ)
    → ((connection : ℕ) → has inputs connection ≡ true → has used connection ≡ true) → Tidy connection_places used (raised inputs bound marks)
tidy_raised {used} tidy inputs bound among =
    tidy_changed tidy used (has inputs) (λ mark. max mark bound)
    (λ connection inside unused. rw (not_then (among connection) unused) (tidy.free connection unused))

-- ---- what words share

pub shared_lessened : {places all : ℕ} {column : List ℕ} → Shared places column all → length column ≡ places → (gone : ℕ)
    → Shared places (lessened places gone column) (except all gone)
shared_lessened {places} {column = column} shared sized gone =
    shared_except shared (lessened places gone column) gone (λ which below. lessened-at places gone column sized which)
