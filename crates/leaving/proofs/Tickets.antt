-- What a sweep hands back, ticket by ticket: writing the first item's ticket, and then those of the rest from the next place on, is writing them all.
-- Assumes nothing.
use mathlib.Core.List.{List, ◌++◌}
use mathlib.Core.Path.{◌∙◌, ◌≡◌, ap, ap₂, refl, sym}
use Prim.Native.Nat.{◌+◌, ◌-◌, ◌<◌, ◌≤◌, suc, zero, ℕ}
use native.Mathlib.Numerals.{add-one}
use native.Mathlib.Omega.{arith}
use lib.ListN.{drop, length, set}
use lib.Seq.{sets, sets-eq}
use borrow.Author.Tests.{le-leb, lt-leb}
use Rattle.words.specs.Words.{count, without}
use Rattle.tables.specs.Columns.{at, item_places}
use Rattle.leaving.specs.Leaving.{first_place, handed_back, tickets_in_line}

module _ (timestamps tickets held : List ℕ) where
  pub length_in_line : (n places : ℕ) → length (tickets_in_line timestamps tickets held n places) ≡ n
  unfolding tickets_in_line
  length_in_line zero places = refl
  length_in_line (suc n) places = ap suc (length_in_line n (without places (first_place timestamps held places)))

  -- the slice once the tickets of the items in the places are written from i up to n
  abbrev pub handed : ℕ → List ℕ → ℕ → ℕ → List ℕ
  handed n slice i places = sets slice i (tickets_in_line timestamps tickets held (n - i) places)

  handed_next : (n i : ℕ) (slice : List ℕ) (places : ℕ) → i < n
      → handed n (set slice i (at item_places tickets (first_place timestamps held places))) (i + 1) (without places (first_place timestamps held places))
      ≡ handed n slice i places
  unfolding tickets_in_line
  handed_next n i slice places inside =
      let more : n - i ≡ suc (n - (i + 1)) = omega arith in
      rw (more, add-one)

  -- one turn: the first item's ticket is written, and on without it
  pub handed-turn : (n i : ℕ) (slice : List ℕ) (places : ℕ) {place ticket left : ℕ} {whole : List ℕ}
      → i < n
      → place ≡ first_place timestamps held places
      → ticket ≡ at item_places tickets place
      → left ≡ without places place
      → handed n slice i places ≡ whole
      → handed n (set slice i ticket) (i + 1) left ≡ whole
  handed-turn n i slice places inside first written rest whole =
      ap₂ (λ (ticket left : ℕ). handed n (set slice i ticket) (i + 1) left) (written ∙ ap (at item_places tickets) first) (rest ∙ ap (without places) first)
      ∙ handed_next n i slice places inside
      ∙ whole

  -- the end: nothing is left to write
  pub handed-done : (n i : ℕ) (slice : List ℕ) (places : ℕ) {whole : List ℕ} → n ≤ i → handed n slice i places ≡ whole → slice ≡ whole
  unfolding tickets_in_line
  handed-done n i slice places past whole =
      let none : n - i ≡ 0 = omega arith in
      sym (ap (λ (m : ℕ). sets slice i (tickets_in_line timestamps tickets held m places)) none) ∙ whole

  -- the whole
  pub handed_back_lem : (gone : ℕ) (slice : List ℕ) {n : ℕ} → n ≡ count gone → n ≤ length slice
      → handed n slice 0 gone ≡ handed_back timestamps tickets held gone slice
  unfolding handed_back
  handed_back_lem gone slice {n} sized fits =
      let all_tickets : List ℕ = tickets_in_line timestamps tickets held n gone in
      let long : length all_tickets ≡ n = length_in_line n gone in
      let all : n - 0 ≡ n = omega arith in
      let end : 0 + length all_tickets ≡ n = omega arith in
      ap (λ (m : ℕ). sets slice 0 (tickets_in_line timestamps tickets held m gone)) all
      ∙ sets-eq all_tickets slice 0 (omega arith)
      ∙ ap (λ (m : ℕ). all_tickets ++ drop m slice) end
      ∙ rw (← sized, le-leb n (length slice) fits)

  -- a slice that is too short
  pub handed_short : (gone : ℕ) (slice : List ℕ) {n : ℕ} → n ≡ count gone → length slice < n → slice ≡ handed_back timestamps tickets held gone slice
  unfolding handed_back
  handed_short gone slice {n} sized short = rw (← sized, lt-leb n (length slice) short)
