-- What stands in a place of a column, before and after another number is written there. Assumes nothing.
use mathlib.Core.Bool.{Bool, cond, true}
use mathlib.Core.List.{List}
use mathlib.Core.Logic.{◌≢◌}
use mathlib.Core.Path.{◌∙◌, ◌≡◌, ap, refl, sym}
use Prim.Native.Nat.{◌<◌, ◌≤◌, suc, zero, ℕ}
use native.Mathlib.Decide.{dec_lt, ℕ_discrete}
use native.Mathlib.Omega.{arith}
use lib.Dec.{ltb}
use lib.ListN.{get_or, length, replicate, set}
use lib.Seq.{get_or-set_other, get_or-set_same, set-get_or}
use borrow.Author.Tests.{le-ltb, lt-ltb}
use Rattle.words.specs.Words.{has}
use Rattle.words.proofs.Digits.{has_none}
use Rattle.words.proofs.YesOrNo.{bool_cases, not_then, true_not_false}
use Rattle.tables.specs.Columns.{at, set_at, reads}

-- ---- what is read

module _ (places : ℕ) (column : List ℕ) where
  pub at_inside : {place : ℕ} → place < places → at places column place ≡ get_or column place 0
  unfolding reads
  at_inside {place} below = ap (λ (b : Bool). cond b (get_or column place 0) 0) (lt-ltb place places below)

  pub at-past : {place : ℕ} → places ≤ place → at places column place ≡ 0
  unfolding reads
  at-past {place} past = ap (λ (b : Bool). cond b (get_or column place 0) 0) (le-ltb place places past)

  -- a word with a place in it stands in one of the column's places
  pub at_has : (which place : ℕ) → has (at places column which) place ≡ true → which < places
  at_has which place there = elim (dec_lt which places) [
    | yes below ↦ below
    | no past ↦ absurd (true_not_false there (rw (at-past {place = which} (omega arith)) (has_none place)))
  ]

all_zeros : (n place : ℕ) → get_or {A = ℕ} (replicate n 0) place 0 ≡ 0
all_zeros zero place = refl
all_zeros (suc n) zero = refl
all_zeros (suc n) (suc place) = all_zeros n place

pub at-zeros : (places n place : ℕ) → at places (replicate n 0) place ≡ 0
unfolding reads
at-zeros places n place = bool_cases (ltb place places) (λ e. rw e (all_zeros n place)) (λ e. rw e)

-- ---- another number in one place

-- the number that stands there changes nothing
pub set_back : (places : ℕ) (column : List ℕ) {place : ℕ} → place < places → set column place (at places column place) ≡ column
set_back places column {place} below = ap (set column place) (at_inside places column below) ∙ set-get_or column place 0

module _ (places : ℕ) (column : List ℕ) (place number : ℕ) where
  pub at_set_same : place < places → length column ≡ places → at places (set column place number) place ≡ number
  at_set_same below sized = at_inside places (set column place number) below ∙ get_or-set_same column place number 0 (omega arith)

  pub at_set_other : (other : ℕ) → other ≢ place → at places (set column place number) other ≡ at places column other
  unfolding reads
  at_set_other other apart = ap (λ (x : ℕ). cond (ltb other places) x 0) (get_or-set_other column place other number 0 apart)

  -- what holds of the new number and of the others holds of all
  pub at-set_all : place < places → length column ≡ places → (P : ℕ → ℕ → Type 0) → P place number
      → ((other : ℕ) → other ≢ place → P other (at places column other))
      → (other : ℕ) → P other (at places (set column place number) other)
  at-set_all below sized P new old other = elim (ℕ_discrete other place) [
    | yes same ↦ rw (same, at_set_same below sized) new
    | no apart ↦ rw (at_set_other other apart) (old other apart)
  ]

  -- a word that has something just where what stood there had it
  pub at-set-has : place < places → length column ≡ places → (it : ℕ)
      → (has number it ≡ true → has (at places column place) it ≡ true) → (has (at places column place) it ≡ true → has number it ≡ true)
      → (other : ℕ) → has (at places (set column place number) other) it ≡ has (at places column other) it
  at-set-has below sized it was stays =
      at-set_all below sized (λ other word. has word it ≡ has (at places column other) it)
      (bool_cases (has (at places column place) it) (λ there. stays there ∙ sym there) (λ lacks. not_then was lacks ∙ sym lacks)) (λ other apart. refl)

  -- a number past the column names no place of it
  pub set_inside : place < places → set_at places column place number ≡ set column place number
  unfolding set_at
  set_inside below = ap (λ (b : Bool). cond b (set column place number) column) (lt-ltb place places below)

  pub set_past : places ≤ place → set_at places column place number ≡ column
  unfolding set_at
  set_past past = ap (λ (b : Bool). cond b (set column place number) column) (le-ltb place places past)

  pub at-set_at-same : place < places → length column ≡ places → at places (set_at places column place number) place ≡ number
  at-set_at-same below sized = ap (λ (rows : List ℕ). at places rows place) (set_inside below) ∙ at_set_same below sized

  pub at-set_at_other : (other : ℕ) → other ≢ place → at places (set_at places column place number) other ≡ at places column other
  unfolding set_at
  at-set_at_other other apart = bool_cases (ltb place places) (λ e. rw e (at_set_other other apart)) (λ e. rw e)
