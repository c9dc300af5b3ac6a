-- The loops that change a column in its places, each from what stands there: over the places of a word, lowest first, and over all places from 0 up.
-- Both are steps of the fold that defines the changed column. Assumes nothing.
use mathlib.Core.Bool.{true}
use mathlib.Core.List.{List}
use mathlib.Core.Path.{◌∙◌, ◌≡◌, ap, refl, sym}
use Prim.Native.Nat.{◌+◌, ◌<◌, ◌≤◌, zero-le, ℕ}
use native.Mathlib.Nat.{le_antisymm}
use native.Mathlib.Numerals.{add-one}
use native.Mathlib.Omega.{arith}
use lib.ListN.{get_or, set}
use Rattle.words.specs.Places.{each, fold_to}
use Rattle.std.proofs.Common.{Some, None}
use Rattle.words.specs.Words.{has, walks, word_places}
use Rattle.words.specs.declared.PlaceWalk.{PlaceWalk}
use Rattle.words.proofs.Walk.{walk-done, walk_turn}
use Rattle.tables.proofs.At.{at_inside}
use Rattle.leaving.specs.Leaving.{changed, changed_over}
use Rattle.leaving.proofs.Changed.{changing}

module _ (places : ℕ) (rule : ℕ → ℕ) where
  -- what the code writes, by what it read in the place
  by_rule : (column : List ℕ) {place number : ℕ} → place < places → number ≡ rule (get_or column place 0)
      → set column place number ≡ changing places rule place column
  by_rule column {place} inside written = ap (set column place) (written ∙ ap rule (sym (at_inside places column inside)))

  -- ---- over the places of a word

  -- from here on the walk leads to the whole
  pub record Leads (walk : PlaceWalk) (column whole : List ℕ) : Type 0 where
    pub ends : walk.end ≡ places
    pub to : changed places (has walk.rest) rule column ≡ whole

  pub leads_starts : {word : ℕ} (made walk : PlaceWalk) (column : List ℕ) → walk ≡ made → (made.rest ≡ word) × (made.end ≡ places)
      → Leads walk column (changed places (has word) rule column)
  leads_starts made walk column same is = record {
    ends = ap (λ (w : PlaceWalk). w.end) same ∙ is.1;
    to = ap (λ (w : ℕ). changed places (has w) rule column) (ap (λ (w : PlaceWalk). w.rest) same ∙ is.0);
  }

  pub leads_on : (walk after : PlaceWalk) {place number : ℕ} {column whole : List ℕ} → places ≤ word_places → Leads walk column whole
      → walks walk (Some place) after
      → number ≡ rule (get_or column place 0)
      → Leads after (set column place number) whole
  unfolding changed_over
  leads_on walk after {column = column} fits here steps written =
      let inside = steps.1 in
      let turn = walk_turn places (changing places rule) column walk after fits here.ends steps (by_rule column (omega (arith, inside, here.ends)) written) here.to in
      record { ends = turn.0; to = turn.1 }

  pub leads_end : (walk after : PlaceWalk) {column whole : List ℕ} → places ≤ word_places → Leads walk column whole → walks walk None after → column ≡ whole
  unfolding changed_over
  leads_end walk after fits here steps = walk-done places (changing places rule) walk after fits here.ends steps here.to

  -- ---- from 0 up

  -- the places below this one are written
  pub record Reached (place : ℕ) (start column : List ℕ) : Type 0 where
    pub inside : place ≤ places
    pub so_far : column ≡ each place (λ earlier. true) (changing places rule) start

  pub reached_none : (column : List ℕ) → Reached 0 column column
  unfolding each fold_to
  reached_none column = record { inside = zero-le; so_far = refl }

  pub reached_on : {place number : ℕ} {start column : List ℕ} → place < places → Reached place start column → number ≡ rule (get_or column place 0)
      → Reached (place + 1) start (set column place number)
  unfolding each fold_to
  reached_on {place} {column = column} below here written =
      rw add-one (record { inside = below; so_far = by_rule column below written ∙ ap (changing places rule place) here.so_far })

  pub reached-end : {place : ℕ} {start column : List ℕ} → places ≤ place → Reached place start column → column ≡ changed places (λ earlier. true) rule start
  unfolding changed_over
  reached-end {start = start} past here =
      here.so_far ∙ ap (λ (n : ℕ). each n (λ earlier. true) (changing places rule) start) (le_antisymm here.inside past)
