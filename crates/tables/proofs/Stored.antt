-- One item more: it lies in the free place, every other timestamp of its channel where it lay, and so do those of the other channels, which do not have
-- that place. Assumes nothing.
use mathlib.Core.Bool.{false, true}
use mathlib.Core.List.{List}
use mathlib.Core.Logic.{◌≢◌}
use mathlib.Core.Path.{◌∙◌, ◌≡◌, ap, sym}
use Prim.Native.Nat.{◌<◌, ◌≤◌, ℕ}
use native.Mathlib.Decide.{ℕ_discrete}
use native.Mathlib.Omega.{arith}
use lib.ListN.{length, set}
use Rattle.words.specs.Words.{has, with}
use Rattle.words.proofs.Changes.{Elsewhere, same_elsewhere, with_elsewhere, with-stays}
use Rattle.words.proofs.Laws.{with-same}
use Rattle.words.proofs.YesOrNo.{true_not_false}
use Rattle.tables.specs.Columns.{at, channel_places, item_places, set_at}
use Rattle.tables.specs.Order.{Inside}
use Rattle.tables.specs.Seen.{place_of}
use Rattle.tables.proofs.At.{at_set_other, at_set_same, at-set_at_other, at-set_at-same}
use Rattle.tables.proofs.Items.{Distinct, Holds, holds-place, same_place}

-- what lay in a channel lies there still, where one of them has another place
pub still_held : (held : List ℕ) → length held ≡ channel_places → (channel : ℕ) → channel < channel_places → (free other : ℕ)
    → Inside item_places (at channel_places held other)
    → (place : ℕ) → has (at channel_places held other) place ≡ true
    → has (at channel_places (set_at channel_places held channel (with (at channel_places held channel) free)) other) place ≡ true
still_held held sized channel below free other inside place there = elim (ℕ_discrete other channel) [
  | yes same ↦ rw (same, at-set_at-same channel_places held channel (with (at channel_places held channel) free) below sized)
      (with-stays (at channel_places held channel) free place (inside place there) (rw same at there))
  | no apart ↦ rw (at-set_at_other channel_places held channel (with (at channel_places held channel) free) other apart) there
]

module _ (timestamps : List ℕ) (sized : length timestamps ≡ item_places) (free : ℕ) (fits : free < item_places) (timestamp : ℕ) where
  abbrev more : List ℕ
  more = set timestamps free timestamp

  new_timestamp : at item_places more free ≡ timestamp
  new_timestamp = at_set_same item_places timestamps free timestamp fits sized

  old_timestamp : (place : ℕ) → place ≢ free → at item_places more place ≡ at item_places timestamps place
  old_timestamp = at_set_other item_places timestamps free timestamp

  -- a channel whose places are the same but perhaps for the free one, which it did not have
  module _ (places : ℕ) (lacks : has places free ≡ false) {word : ℕ} (else : Elsewhere word places free) where
    place-stays : (other : ℕ) → (has word free ≡ true → other ≢ timestamp) → place_of more word other ≡ place_of timestamps places other
    place-stays other differ = same_place timestamps more places word other still before
      where
        still : (place : ℕ) → Holds timestamps places other place → Holds more word other place
        still place h =
            let apart : place ≢ free = λ same. true_not_false h.there (rw same lacks) in
            record { inside = h.inside; there = else.stays place h.inside apart h.there; timestamp_is = old_timestamp place apart ∙ h.timestamp_is }

        before : (place : ℕ) → Holds more word other place → Holds timestamps places other place
        before place h =
            elim (ℕ_discrete place free) [
              | yes same ↦ absurd (differ (rw same at h.there) (sym h.timestamp_is ∙ ap (at item_places more) same ∙ new_timestamp))
              | no apart ↦ record { inside = h.inside; there = else.was place apart h.there; timestamp_is = sym (old_timestamp place apart) ∙ h.timestamp_is }
            ]

    module _ (inside : Inside item_places places) (new : has word free ≡ true → item_places ≤ place_of timestamps places timestamp)
        (distinct : Distinct timestamps places) where
      -- no other place has the new timestamp
      not_twice : (place : ℕ) → place ≢ free → has word place ≡ true → has word free ≡ true → at item_places more place ≡ at item_places more free → ⊥
      not_twice place apart there joined same =
          let h : Holds timestamps places timestamp place = record {
            inside = inside place (else.was place apart there);
            there = else.was place apart there;
            timestamp_is = sym (old_timestamp place apart) ∙ same ∙ new_timestamp;
          } in
          omega (arith, h.inside, new joined, holds-place timestamps places timestamp distinct h)

      distinct_stays : Distinct more word
      distinct_stays place other there too same =
          elim (ℕ_discrete place free) [
            | yes here ↦ elim (ℕ_discrete other free) [
              | yes also ↦ here ∙ sym also
              | no apart ↦ absurd (not_twice other apart too (rw here at there) (sym same ∙ ap (at item_places more) here))
            ]
            | no apart ↦ elim (ℕ_discrete other free) [
              | yes also ↦ absurd (not_twice place apart there (rw also at too) (same ∙ ap (at item_places more) also))
              | no too_apart ↦ distinct place other (else.was place apart there) (else.was other too_apart too)
                  (sym (old_timestamp place apart) ∙ same ∙ old_timestamp other too_apart)
            ]
          ]

  module _ (places : ℕ) (lacks : has places free ≡ false) where
    -- another channel
    pub beside_place : (other : ℕ) → place_of more places other ≡ place_of timestamps places other
    beside_place other = place-stays places lacks (same_elsewhere places free) other (λ there. absurd (true_not_false there lacks))

    pub beside_distinct : Inside item_places places → Distinct timestamps places → Distinct more places
    beside_distinct inside = distinct_stays places lacks (same_elsewhere places free) inside (λ there. absurd (true_not_false there lacks))

    -- the item's own
    pub old_place : (other : ℕ) → other ≢ timestamp → place_of more (with places free) other ≡ place_of timestamps places other
    old_place other differ = place-stays places lacks (with_elsewhere places free) other (λ _. differ)

    module _ (inside : Inside item_places places) (new : item_places ≤ place_of timestamps places timestamp) (distinct : Distinct timestamps places) where
      pub stored_distinct : Distinct more (with places free)
      stored_distinct = distinct_stays places lacks (with_elsewhere places free) inside (λ _. new) distinct

      pub new_place : place_of more (with places free) timestamp ≡ free
      new_place =
          holds-place more (with places free) timestamp stored_distinct
          (record { inside = fits; there = with-same places fits; timestamp_is = new_timestamp })
