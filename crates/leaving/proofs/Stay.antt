-- The items of some places leave, and a connection keeps the facts of the others alone: an item that stays is as it was and where it was, so that its state
-- stays too. Of one channel's items those leave whose timestamps are of a set: such a timestamp has no place any more. Assumes nothing.
use mathlib.Core.Bool.{Bool, cond, false, true}
use mathlib.Core.List.{List}
use mathlib.Core.Path.{◌∙◌, ◌≡◌, ap, sym}
use Prim.Native.Nat.{◌<◌, ℕ}
use native.Mathlib.Decide.{dec_lt}
use native.Mathlib.Omega.{arith}
use lib.Dec.{ltb}
use lib.ListN.{length}
use borrow.Author.Tests.{ltb-false, ltb-true}
use Rattle.words.specs.Words.{except, has}
use Rattle.words.proofs.Changes.{except-kept, except-stays, except_was}
use Rattle.words.proofs.YesOrNo.{bool_cases, true_not_false}
use Rattle.calls.specs.declared.State.TheVariants.{Absent, Consumed}
use Rattle.rows.specs.declared.Connection.{Connection}
use Rattle.rows.proofs.Changed as Row
use Rattle.rows.proofs.Changed.{cleared-kept}
use Rattle.rows.proofs.Seen.{state_absent}
use Rattle.tables.specs.Columns.{at, item_places}
use Rattle.tables.specs.Seen.{place_of, state}
use Rattle.tables.proofs.Items.{Distinct, Holds, found-holds, same_place}
use Rattle.leaving.specs.Leaving.{cleared}
use Rattle.leaving.proofs.Changed.{kept_at}

module _ (timestamps : List ℕ) (sized : length timestamps ≡ item_places) (gone : ℕ) where
  abbrev left : List ℕ
  left = cleared item_places gone timestamps

  -- the items that are left are as they were
  left-item : (places place : ℕ) → has (except places gone) place ≡ true → at item_places left place ≡ at item_places timestamps place
  left-item places place held = kept_at item_places gone timestamps sized place (except-kept places gone place held)

  pub distinct_left : (places : ℕ) → Distinct timestamps places → Distinct left (except places gone)
  distinct_left places distinct place other held also same =
      distinct place other (except_was places gone place held) (except_was places gone other also)
      (sym (left-item places place held) ∙ same ∙ left-item places other also)

  -- ---- the items in a channel's places, of which those leave whose timestamps are of a set

  module _ (places : ℕ) (among : ℕ → Bool) (goes : (place : ℕ) → has places place ≡ true → has gone place ≡ among (at item_places timestamps place))
      (timestamp : ℕ) where
    leaves : {place : ℕ} → Holds timestamps places timestamp place → has gone place ≡ among timestamp
    leaves {place} h = goes place h.there ∙ ap among h.timestamp_is

    holds_still : {place : ℕ} → has gone place ≡ false → Holds timestamps places timestamp place → Holds left (except places gone) timestamp place
    holds_still {place} kept h = record {
      inside = h.inside;
      there = except-stays places gone place h.inside h.there kept;
      timestamp_is = kept_at item_places gone timestamps sized place kept ∙ h.timestamp_is;
    }

    held_before : {place : ℕ} → Holds left (except places gone) timestamp place → Holds timestamps places timestamp place
    held_before {place} h = record {
      inside = h.inside;
      there = except_was places gone place h.there;
      timestamp_is = sym (left-item places place h.there) ∙ h.timestamp_is;
    }

    -- a timestamp that is not keeps its place
    pub place-stays : among timestamp ≡ false → place_of left (except places gone) timestamp ≡ place_of timestamps places timestamp
    place-stays stays = same_place timestamps left places (except places gone) timestamp (λ place h. holds_still (leaves h ∙ stays) h) (λ place. held_before)

    -- and what stands in it stays, in any column of the items
    pub item-stays : among timestamp ≡ false → place_of timestamps places timestamp < item_places → (column : List ℕ) → length column ≡ item_places
        → at item_places (cleared item_places gone column) (place_of timestamps places timestamp) ≡ at item_places column (place_of timestamps places timestamp)
    item-stays stays inside column long = kept_at item_places gone column long _ (leaves (found-holds timestamps places timestamp inside) ∙ stays)

    -- a timestamp of the set has none
    pub none_left : among timestamp ≡ true → ltb (place_of left (except places gone) timestamp) item_places ≡ false
    none_left goes_too =
        bool_cases (ltb (place_of left (except places gone) timestamp) item_places)
        (λ q. let h = found-holds left (except places gone) timestamp (ltb-true _ item_places q) in
        absurd (true_not_false (leaves (held_before h) ∙ goes_too) (except-kept places gone _ h.there)))
        (λ q. q)

-- a state stays where its item does, and without one the mark decides
module _ (timestamps : List ℕ) (sized : length timestamps ≡ item_places) (gone : ℕ) (connection : Connection) (among : ℕ → Bool)
    (goes : (place : ℕ) → has connection.items place ≡ true → has gone place ≡ among (at item_places timestamps place)) (timestamp : ℕ) where
  pub state-left : state (cleared item_places gone timestamps) (Row.cleared connection gone) timestamp
      ≡ cond (among timestamp) (cond (ltb timestamp connection.mark) Consumed Absent) (state timestamps connection timestamp)
  unfolding state Row.cleared
  state-left =
      let places : ℕ = connection.items in
      let place : ℕ = place_of timestamps places timestamp in
      let after : Connection = Row.cleared connection gone in
      bool_cases (among timestamp)
      (λ goes_too. rw goes_too (state_absent after timestamp _ (ltb-false _ item_places (none_left timestamps sized gone places among goes timestamp goes_too))))
      (λ stays. rw (stays, place-stays timestamps sized gone places among goes timestamp stays)
      (elim (dec_lt place item_places) [
        | yes inside ↦ (let h = found-holds timestamps places timestamp inside in
            cleared-kept connection timestamp place gone (leaves timestamps sized gone places among goes timestamp h ∙ stays))
        | no past ↦ state_absent after timestamp place (omega arith) ∙ sym (state_absent connection timestamp place (omega arith))
      ]))
