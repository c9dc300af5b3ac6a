-- The earliest of the first channel's items in the places: a search with mark 0, below which no timestamp lies, looks at all of them. Assumes nothing.
use mathlib.Core.Bool.{Bool, ◌&&◌, and-true, true}
use mathlib.Core.List.{List}
use mathlib.Core.Path.{◌∙◌, ◌≡◌, ap, refl}
use Prim.Native.Nat.{zero-le, ℕ}
use borrow.Author.Tests.{le-leb}
use Rattle.std.proofs.Common.{Option, Some, None}
use Rattle.words.specs.Words.{both, has}
use Rattle.words.proofs.Walk.{each_ext}
use Rattle.calls.specs.declared.Which.TheVariants.{Earliest}
use Rattle.rows.specs.declared.Found.{Found}
use Rattle.rows.specs.Choices.{place_found, taken_before}
use Rattle.tables.specs.Columns.{at, channel_places, item_places}
use Rattle.tables.specs.Search.{chosen, chosen_from}
use Rattle.leaving.specs.Leaving.{first_channel, first_place}
use Rattle.leaving.proofs.handed.first_place.Goals as goal

earliest : (timestamps : List ℕ) (places : ℕ) → chosen_from timestamps places 0 Earliest ≡ chosen timestamps (taken_before Earliest) (has places)
unfolding chosen_from chosen
earliest timestamps places =
    each_ext item_places _ _ _ _ (has places)
    (λ place inside. ap (λ (b : Bool). has places place && (b && true)) (le-leb 0 (at item_places timestamps place) zero-le) ∙ and-true (has places place))
    (λ place found inside. refl)

-- from what was read
first_of : (timestamps held : List ℕ) (places : ℕ) {channel items among : ℕ} (found : Option Found) → channel ≡ first_channel held places
    → items ≡ at channel_places held channel
    → among ≡ both items places
    → found ≡ chosen_from timestamps among 0 Earliest
    → place_found found ≡ first_place timestamps held places
unfolding first_place
first_of timestamps held places found first read kept chose =
    ap place_found
    (chose
    ∙ ap (λ (w : ℕ). chosen_from timestamps w 0 Earliest) (kept ∙ ap (λ (w : ℕ). both w places) (read ∙ ap (at channel_places held) first))
    ∙ earliest timestamps (both (at channel_places held (first_channel held places)) places))

pub returns-in_default : goal.returns-in_default
returns-in_default c =
    first_of c.args.timestamps.now c.args.held.now c.args.places None c.first_channel.ensures c.at-items.ensures c.both.ensures c.in_default.ensures

pub returns : goal.returns
returns c =
    first_of c.args.timestamps.now c.args.held.now c.args.places (Some c.in-Some.found) c.first_channel.ensures c.at-items.ensures c.both.ensures
    c.in-Some.ensures
