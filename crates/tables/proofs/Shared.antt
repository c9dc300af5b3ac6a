-- The words of a column share out the places of one word, and still do so after a change that gives every place to one of them, or to none. Assumes
-- nothing.
use mathlib.Core.Bool.{false, true}
use mathlib.Core.List.{List}
use mathlib.Core.Logic.{◌≢◌, ◌⊎◌, inl, inr, ⊎_elim}
use mathlib.Core.Path.{◌∙◌, ◌≡◌, ap, subst, sym}
use Prim.Native.Nat.{◌<◌, ℕ}
use native.Mathlib.Decide.{ℕ_discrete}
use native.Mathlib.Omega.{arith}
use lib.ListN.{length, replicate, set}
use Rattle.words.specs.Places.{lowest_of}
use Rattle.words.specs.Words.{except, has, with, word_places}
use Rattle.words.proofs.Changes.{except_inside, except-kept, except-stays, except_was, with_inside, with-stays, with_was}
use Rattle.words.proofs.Digits.{has_none}
use Rattle.words.proofs.Laws.{lowest_unique, with_other, with-same}
use Rattle.words.proofs.YesOrNo.{bool_cases, not_then, true_not_false}
use Rattle.tables.specs.Columns.{at, set_at}
use Rattle.tables.specs.Order.{Inside, Shared}
use Rattle.tables.proofs.At.{at_has, at_set_other, at_set_same, at-zeros, set_inside}

-- a new desk
pub shared_none : (places : ℕ) → Shared places (replicate places 0) 0
shared_none places = record {
  owner = λ place there. absurd (true_not_false there (has_none place));
  within = λ which place there. absurd (lacking which place there);
  alone = λ which other place there too. absurd (lacking which place there);
}
  where
    lacking : (which place : ℕ) → has (at places (replicate places 0) which) place ≡ true → ⊥
    lacking which place there = true_not_false there (rw (at-zeros places places which) (has_none place))

-- ---- one word changes, and with it the word of all

-- what is in the word is in the whole, and what was in the others is as it was
pub record Changed (old all word whole : ℕ) : Type 0 where
  pub its : (place : ℕ) → has word place ≡ true → has whole place ≡ true
  pub from : (place : ℕ) → has whole place ≡ true → (has word place ≡ true) ⊎ ((has all place ≡ true) × (has old place ≡ false))
  pub others : (place : ℕ) → has all place ≡ true → has old place ≡ false → (has whole place ≡ true) × (has word place ≡ false)

module _ {places : ℕ} {column : List ℕ} {all : ℕ} (shared : Shared places column all) where
  -- a place of one word is in no other
  pub not_beside : (which other place : ℕ) → has (at places column which) place ≡ true → other ≢ which → has (at places column other) place ≡ false
  not_beside which other place there apart =
      bool_cases (has (at places column other) place) (λ too. absurd (apart (shared.alone other which place too there))) (λ lacks. lacks)

  -- so the lowest word that has a place is the one that has it
  abbrev lowest_with : ℕ → ℕ
  lowest_with place = lowest_of (λ which. has (at places column which) place) places

  pub lowest-with : (which place : ℕ) → has (at places column which) place ≡ true → lowest_with place ≡ which
  lowest-with which place there =
      lowest_unique _ (at_has places column which place there) there (λ lower below. not_beside which lower place there (λ same. omega arith))

  pub lowest-with-has : (place : ℕ) → has all place ≡ true → has (at places column (lowest_with place)) place ≡ true
  lowest-with-has place there =
      let (which, below, its) = shared.owner place there in
      ap (λ (n : ℕ). has (at places column n) place) (lowest-with which place its) ∙ its

  module _ (sized : length column ≡ places) (which : ℕ) (below : which < places) {word whole : ℕ} (changed : Changed (at places column which) all word whole) where
    abbrev after : ℕ → ℕ
    after = at places (set column which word)

    here : (place : ℕ) → has (after which) place ≡ true → has word place ≡ true
    here place there = sym (ap (λ (w : ℕ). has w place) (at_set_same places column which word below sized)) ∙ there

    beside : (other place : ℕ) → other ≢ which → has (after other) place ≡ true → has (at places column other) place ≡ true
    beside other place apart there = sym (ap (λ (w : ℕ). has w place) (at_set_other places column which word other apart)) ∙ there

    -- what is in another word is in the whole, and not in this one
    kept : (other place : ℕ) → other ≢ which → has (after other) place ≡ true → (has whole place ≡ true) × (has word place ≡ false)
    kept other place apart there =
        let old = beside other place apart there in
        changed.others place (shared.within other place old) (not_beside other which place old (λ same. apart (sym same)))

    pub shared_set : Shared places (set column which word) whole
    shared_set = record {
      owner = λ place there. ⊎_elim (own place) (λ old. another place old.0 old.1) (changed.from place there);
      within = λ other place there. elim (ℕ_discrete other which) [
        | yes same ↦ changed.its place (here place (rw same at there))
        | no apart ↦ (kept other place apart there).0
      ];
      alone = λ one other place there too. elim (ℕ_discrete one which) [
        | yes same ↦ elim (ℕ_discrete other which) [
          | yes also ↦ same ∙ sym also
          | no apart ↦ absurd (true_not_false (here place (rw same at there)) (kept other place apart too).1)
        ]
        | no apart ↦ elim (ℕ_discrete other which) [
          | yes also ↦ absurd (true_not_false (here place (rw also at too)) (kept one place apart there).1)
          | no too_apart ↦ shared.alone one other place (beside one place apart there) (beside other place too_apart too)
        ]
      ];
    }
      where
        Owned : ℕ → Type 0
        Owned place = (other : ℕ) × (other < places) × (has (after other) place ≡ true)

        own : (place : ℕ) → has word place ≡ true → Owned place
        own place there = (which, below, ap (λ (w : ℕ). has w place) (at_set_same places column which word below sized) ∙ there)

        another : (place : ℕ) → has all place ≡ true → has (at places column which) place ≡ false → Owned place
        another place there lacks =
            let (other, inside, old) = shared.owner place there in
            let apart : other ≢ which = λ same. true_not_false old (ap (λ (k : ℕ). has (at places column k) place) same ∙ lacks) in
            (other, inside, ap (λ (w : ℕ). has w place) (at_set_other places column which word other apart) ∙ old)

  -- ---- some places leave every word that has them

  pub shared_except : (after : List ℕ) (gone : ℕ) → ((which : ℕ) → which < places → at places after which ≡ except (at places column which) gone)
      → Shared places after (except all gone)
  shared_except after gone changed = record {
    owner = λ place there. (let (which, below, old) = shared.owner place (except_was all gone place there) in (
      which,
      below,
      ap (λ (w : ℕ). has w place) (changed which below)
          ∙ except-stays (at places column which) gone place (except_inside all gone place there) old (except-kept all gone place there),
    ));
    within = λ which place there. except-stays all gone place (except_inside _ gone place (left which place there)) (shared.within which place (was which place there))
        (except-kept _ gone place (left which place there));
    alone = λ which other place there too. shared.alone which other place (was which place there) (was other place too);
  }
    where
      left : (which place : ℕ) → has (at places after which) place ≡ true → has (except (at places column which) gone) place ≡ true
      left which place there = sym (ap (λ (w : ℕ). has w place) (changed which (at_has places after which place there))) ∙ there

      was : (which place : ℕ) → has (at places after which) place ≡ true → has (at places column which) place ≡ true
      was which place there = except_was _ gone place (left which place there)

-- ---- the ways in which one word changes

module _ {old all : ℕ} (inside : Inside word_places all) (within : (place : ℕ) → has old place ≡ true → has all place ≡ true) where
  -- a place that is in no word joins one
  pub joins : (place : ℕ) → place < word_places → has all place ≡ false → Changed old all (with old place) (with all place)
  joins place fits lacks = record {
    its = λ other there. elim (ℕ_discrete other place) [
      | yes same ↦ rw same (with-same all fits)
      | no apart ↦ with-stays all place other (with_inside old place other there) (within other (with_was old place other apart there))
    ];
    from = λ other there. elim (ℕ_discrete other place) [
      | yes same ↦ inl (rw same (with-same old fits))
      | no apart ↦ bool_cases (has old other)
          (λ held. inl (with-stays old place other (with_inside all place other there) held))
          (λ free. inr (with_was all place other apart there, free))
    ];
    others = λ other there free. (let apart : other ≢ place = λ same. true_not_false there (rw same lacks) in
        (with-stays all place other (inside other there) there, with_other old (inside other there) apart ∙ free));
  }

  -- some places, all of one word, leave it
  pub leave : (gone : ℕ) → ((place : ℕ) → has gone place ≡ true → has old place ≡ true) → Changed old all (except old gone) (except all gone)
  leave gone its = record {
    its = λ place there. except-stays all gone place (except_inside old gone place there) (within place (except_was old gone place there)) (except-kept old gone place there);
    from = λ place there. bool_cases (has old place)
        (λ held. inl (except-stays old gone place (except_inside all gone place there) held (except-kept all gone place there)))
        (λ free. inr (except_was all gone place there, free));
    others = λ place there free. (
      except-stays all gone place (inside place there) there (not_then (its place) free),
      not_then (except_was old gone place) free,
    );
  }

module _ {places : ℕ} {column : List ℕ} {all : ℕ} (shared : Shared places column all) (inside : Inside word_places all) (sized : length column ≡ places)
    (which : ℕ) (below : which < places) where
  pub shared_joins : (place : ℕ) → place < word_places → has all place ≡ false
      → Shared places (set column which (with (at places column which) place)) (with all place)
  shared_joins place fits lacks = shared_set shared sized which below (joins inside (shared.within which) place fits lacks)

  -- the same, as the code writes it where the number of the word is not known to be one of the column's
  pub shared_held : (place : ℕ) → place < word_places → has all place ≡ false
      → Shared places (set_at places column which (with (at places column which) place)) (with all place)
  shared_held place fits lacks =
      subst (λ (after : List ℕ). Shared places after (with all place)) (sym (set_inside places column which _ below)) (shared_joins place fits lacks)

  pub shared_leave : (gone : ℕ) → ((place : ℕ) → has gone place ≡ true → has (at places column which) place ≡ true)
      → Shared places (set column which (except (at places column which) gone)) (except all gone)
  shared_leave gone its = shared_set shared sized which below (leave inside (shared.within which) gone its)
