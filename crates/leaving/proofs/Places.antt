-- The places of the items of a set of pairs of channel and timestamp: a word has exactly these where it was made by their test, as for the items below a
-- bound, or where it is that of all present items, for all. An item lies in a channel where its place is in the channel's word. Assumes nothing.
use mathlib.Core.Bool.{Bool, true}
use mathlib.Core.List.{List}
use mathlib.Core.Logic.{◌↔◌}
use mathlib.Core.Path.{◌∙◌, ◌≡◌, ap, refl, sym}
use Prim.Native.Nat.{ℕ}
use lib.Dec.{ltb}
use Rattle.words.specs.Words.{has}
use Rattle.words.proofs.Laws.{has-word_of, has-word_of_in}
use Rattle.words.proofs.YesOrNo.{and_both, and_left, and_right, bool_cases, not_then}
use Rattle.tables.specs.Columns.{at, channel_places, item_places}
use Rattle.tables.specs.Order.{Inside, Shared}
use Rattle.leaving.specs.Leaving.{is_below, items_below}

-- the item in the place lies in the channel
abbrev pub lies : List ℕ → ℕ → ℕ → Bool
lies held channel place = has (at channel_places held channel) place

abbrev pub PlacesOf : (timestamps held : List ℕ) → (ℕ → ℕ → Bool) → ℕ → Type 0
PlacesOf timestamps held among places = (place : ℕ) → (has places place ≡ true)
    ↔ ((channel : ℕ) × (lies held channel place ≡ true) × (among channel (at item_places timestamps place) ≡ true))

module _ (timestamps held : List ℕ) {present : ℕ} (shared : Shared channel_places held present) where
  pub below_places : Inside item_places present → (bound : ℕ)
      → PlacesOf timestamps held (λ channel timestamp. ltb timestamp bound) (items_below timestamps present bound)
  unfolding items_below is_below
  below_places inside bound place = (
    λ gone. (let low = and_right (ltb place item_places) _ (sym (has-word_of (is_below timestamps present bound) item_places place) ∙ gone) in
        let (channel, exists, lying) = shared.owner place (and_left (has present place) _ low) in
        (channel, lying, and_right (has present place) _ low)),
    λ (channel, lying, low). (let there = shared.within channel place lying in
        has-word_of_in (is_below timestamps present bound) (inside place there) ∙ and_both there low),
  )

  pub present_places : PlacesOf timestamps held (λ channel timestamp. true) present
  present_places place = (
    λ there. (let (channel, exists, lying) = shared.owner place there in (channel, lying, refl)),
    λ (channel, lying, any). shared.within channel place lying,
  )

  -- the item in a place leaves where its pair is of the set
  pub goes : (pairs : ℕ → ℕ → Bool) (gone : ℕ) → PlacesOf timestamps held pairs gone
      → (channel place : ℕ) → lies held channel place ≡ true → has gone place ≡ pairs channel (at item_places timestamps place)
  goes pairs gone are channel place lying =
      bool_cases (pairs channel (at item_places timestamps place))
      (λ leaves. (are place).1 (channel, lying, leaves) ∙ sym leaves)
      (λ stays. not_then (λ held_too. let (other, also, leaves) = (are place).0 held_too in
      ap (λ (c : ℕ). pairs c (at item_places timestamps place)) (shared.alone channel other place lying also) ∙ leaves) stays ∙ sym stays)
