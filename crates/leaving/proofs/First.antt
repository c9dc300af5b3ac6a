-- Of the items in some places, if any, one is the first by channel number and then timestamp: the lowest channel that holds one, and the earliest that it
-- holds. Assumes nothing.
use mathlib.Core.Bool.{Bool, not, true}
use mathlib.Core.List.{List}
use mathlib.Core.Logic.{◌≢◌, ◌⊎◌, inl, inr, ⊎_elim}
use mathlib.Core.Path.{◌∙◌, ◌≡◌, ap, refl, subst, sym}
use Prim.Native.Nat.{◌<◌, ◌≤◌, suc, ℕ}
use native.Mathlib.Decide.{dec_lt}
use native.Mathlib.Nat.{eq-or-lt_of_le}
use native.Mathlib.Omega.{arith}
use lib.Pow.{pow_pos}
use borrow.Author.Tests.{eq-eqb, ltb-false, ne_eqb}
use Rattle.words.specs.Words.{both, count, has, lowest, word_places}
use Rattle.words.proofs.Changes.{both_left, both_right, in_both}
use Rattle.words.proofs.Laws.{count_ext, count_none, has_none, lowest-below, lowest-has, lowest-holds, lowest_reach, word_ext, word_of_lt}
use Rattle.words.proofs.YesOrNo.{true_not_false}
use Rattle.calls.specs.declared.Which.TheVariants.{Earliest}
use Rattle.rows.specs.Choices.{found_at, place_found, taken_before}
use Rattle.std.proofs.Common.{Option, Some, None}
use Rattle.rows.specs.declared.Found.{Found}
use Rattle.rows.proofs.Orders.{taken_irreflexive, taken_transitive}
use Rattle.tables.specs.Columns.{at, channel_places, item_places}
use Rattle.tables.specs.Order.{Inside, Shared}
use Rattle.tables.specs.Search.{chosen}
use Rattle.tables.proofs.At.{at_has}
use Rattle.tables.proofs.Chosen.{chosen_is}
use Rattle.tables.proofs.Items.{Distinct}
use Rattle.leaving.specs.Leaving.{first_channel, first_place, holds_one}
use Rattle.leaving.proofs.Places.{lies}

-- ---- a word that counts a place has one

some_place : (word : ℕ) {n : ℕ} → count word ≡ suc n → (place : ℕ) × (place < word_places) × (has word place ≡ true)
unfolding count
some_place word counted = elim (dec_lt (lowest word) word_places) [
  | yes inside ↦ (lowest word, inside, lowest-has word inside)
  | no past ↦ absurd
      (omega (arith, count_none, count_ext (has word) (has 0) word_places (λ place inside. lowest-below word (omega arith) ∙ sym (has_none place))))
]

-- ---- the first channel that holds an item in one of the places

module _ (held : List ℕ) (places : ℕ) where
  holds_one_lem : (channel place : ℕ) → place < word_places → lies held channel place ≡ true → has places place ≡ true → holds_one held places channel ≡ true
  holds_one_lem channel place inside lying among =
      ap not
      (ne_eqb (both (at channel_places held channel) places) 0
      (λ none. true_not_false (in_both (at channel_places held channel) places place inside lying among)
      (ap (λ (word : ℕ). has word place) none ∙ has_none place)))

  lowest-channel : (channel place : ℕ) → place < word_places → lies held channel place ≡ true → has places place ≡ true → first_channel held places ≤ channel
  unfolding first_channel
  lowest-channel channel place inside lying among =
      lowest_reach (holds_one held places) (at_has channel_places held channel place lying) (holds_one_lem channel place inside lying among)

-- ---- the first item

-- by channel number, then timestamp
abbrev pub ComesBefore : (channel timestamp other_channel other : ℕ) → Type 0
ComesBefore channel timestamp other_channel other = (channel < other_channel) ⊎ ((channel ≡ other_channel) × (timestamp < other))

-- it lies in the first channel, in one of the places, and none in the places lies in an earlier channel, or in this one with a smaller timestamp
pub record First (timestamps held : List ℕ) (places : ℕ) : Type 0 where
  pub place : ℕ
  pub inside : place < item_places
  pub among : has places place ≡ true
  pub found : first_place timestamps held places ≡ place
  pub lying : lies held (first_channel held places) place ≡ true
  pub best : (channel other : ℕ) → has places other ≡ true → lies held channel other ≡ true
      → (first_channel held places < channel) ⊎ ((first_channel held places ≡ channel) × (at item_places timestamps place ≤ at item_places timestamps other))

module _ (timestamps held : List ℕ) (places : ℕ) (inside : Inside item_places places) where
  abbrev in_channel : ℕ
  in_channel = at channel_places held (first_channel held places)

  -- what the search among the first channel's items in the places finds
  abbrev counts : ℕ → Bool
  counts = has (both in_channel places)

  abbrev earliest : Option Found
  earliest = chosen timestamps (taken_before Earliest) counts

  -- where no timestamp of the first channel's items is smaller, the place is the first
  none_before : (first : ℕ) → ((other : ℕ) → other < item_places → counts other ≡ true → first ≤ at item_places timestamps other)
      → (channel other : ℕ) → has places other ≡ true → lies held channel other ≡ true
      → (first_channel held places < channel) ⊎ ((first_channel held places ≡ channel) × (first ≤ at item_places timestamps other))
  none_before first least channel other there lying =
      let below = inside other there in
      let here : first_channel held places ≡ channel → counts other ≡ true =
      λ same. in_both in_channel places other below (subst (λ (c : ℕ). lies held c other ≡ true) (sym same) lying) there in
      ⊎_elim (λ same. inr (same, least other below (here same))) inl (eq-or-lt_of_le (lowest-channel held places channel other below lying there))

  first_found : (place timestamp : ℕ) → earliest ≡ Some (found_at place timestamp) → First timestamps held places
  unfolding first_place
  first_found place timestamp found =
      let (below, passes, is, best) = chosen_is timestamps (taken_before Earliest) counts (taken_irreflexive Earliest) (taken_transitive Earliest) _ found in
      let least : (other : ℕ) → other < item_places → counts other ≡ true → timestamp ≤ at item_places timestamps other =
      λ other near passing. ltb-false (at item_places timestamps other) timestamp (best other near passing) in
      record {
        place = place;
        inside = below;
        among = both_right in_channel places place passes;
        found = ap place_found found;
        lying = both_left in_channel places place passes;
        best = rw is at (none_before timestamp least);
      }

  -- a channel that holds an item in one of the places has an earliest
  some_found : holds_one held places (first_channel held places) ≡ true → earliest ≡ None → ⊥
  unfolding both
  some_found holds found =
      let none = chosen_is timestamps (taken_before Earliest) counts (taken_irreflexive Earliest) (taken_transitive Earliest) None found in
      let empty = word_ext (both in_channel places) 0 (word_of_lt _ word_places) (pow_pos word_places) (λ place below. none place below ∙ sym (has_none place)) in
      true_not_false holds (ap not (eq-eqb (both in_channel places) 0 empty))

  pub first_of : {present n : ℕ} → Shared channel_places held present → ((place : ℕ) → has places place ≡ true → has present place ≡ true)
      → count places ≡ suc n → First timestamps held places
  unfolding first_channel
  first_of shared within counted =
      let (place, below, there) = some_place places counted in
      let (channel, exists, lying) = shared.owner place (within place there) in
      go (lowest-holds (holds_one held places) channel_places (omega (arith, lowest-channel held places channel place below lying there))) earliest refl
    where
      go : holds_one held places (first_channel held places) ≡ true → (found : Option Found) → earliest ≡ found → First timestamps held places
      go holds (Some at_first) found = first_found at_first.place at_first.timestamp found
      go holds None found = absurd (some_found holds found)

-- another one comes after it, where the items of a channel have different timestamps
module _ (timestamps held : List ℕ) (places : ℕ) (first : First timestamps held places)
    (distinct : (channel : ℕ) → Distinct timestamps (at channel_places held channel)) where
  pub first_before : (channel other : ℕ) → has places other ≡ true → lies held channel other ≡ true → other ≢ first.place
      → ComesBefore (first_channel held places) (at item_places timestamps first.place) channel (at item_places timestamps other)
  first_before channel other there lying apart = ⊎_elim inl (λ (same, earlier). inr (same, strictly same earlier)) (first.best channel other there lying)
    where
      strictly : first_channel held places ≡ channel → at item_places timestamps first.place ≤ at item_places timestamps other
          → at item_places timestamps first.place < at item_places timestamps other
      strictly same earlier =
          let beside = subst (λ (c : ℕ). lies held c first.place ≡ true) same first.lying in
          ⊎_elim (λ equal. absurd (apart (distinct channel other first.place lying beside (sym equal)))) (λ less. less) (eq-or-lt_of_le earlier)
