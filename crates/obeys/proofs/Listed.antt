-- The tickets of the places in a word, one after the other, are those of the present items of a set of pairs in line, where the word has the places of
-- that set: the first of them, and then those of the rest, which are one fewer. So for those below a bound, and for all. Assumes nothing.
use Rattle.obeys.proofs.Basis.{[], ◌↔◌, ◌∈◌, ◌∙◌, ◌∷◌, ◌≡◌, ⊎_elim, Before, Desk, DeskInOrder, InLine, Inside, IsPresent, List, Listed, ap, ap₂, arith}
use Rattle.obeys.proofs.Basis.{count, count-without, has, inl, inr, item_places, leaving, length, refl, subst, suc, sym, ticket_at, tickets, tickets_in_line}
use Rattle.obeys.proofs.Basis.{timestamp_at, true, view_of, without, without_apart, without_other, without_was, zero, ℕ, ℕ_discrete}
use Rattle.leaving.proofs.First.{first_before, first_of}
use Rattle.leaving.proofs.Places.{PlacesOf, below_places, goes, lies, present_places}
use Rattle.leaving.specs.Leaving.{first_channel}
use Rattle.rules.specs.Rules as Rules
use Rattle.rules.specs.Rules.{Pairs}
use Rattle.obeys.proofs.Lookup.{item_view, view_item}

-- the item in a place of a channel, as the rules speak of it
abbrev entry : Desk → (channel place : ℕ) → Rules.Item
entry d channel place = record { channel = channel; timestamp = timestamp_at d place; ticket = ticket_at d place }

-- ---- the items of some places, one after the other

-- the items of n places in line, with exactly their members and tickets
pub record Line (d : Desk) (n places : ℕ) : Type 0 where
  pub items : List Rules.Item
  pub counts : length items ≡ n
  pub hands : tickets items ≡ tickets_in_line d.timestamps d.tickets d.held n places
  pub in_line : InLine items
  pub exactly : (item : Rules.Item)
      → (item ∈ items) ↔ ((channel place : ℕ) × (has places place ≡ true) × (lies d.held channel place ≡ true) × (entry d channel place ≡ item))

module _ (d : Desk) (o : DeskInOrder d) where
  line : (n places : ℕ) → ((place : ℕ) → has places place ≡ true → has d.present place ≡ true) → count places ≡ n → Line d n places
  unfolding tickets_in_line
  line zero places there counted = record {
    items = [];
    counts = refl;
    hands = refl;
    in_line = tt;
    exactly = λ item. (
      λ in_it. absurd in_it,
      λ (channel, place, among, lying, is). absurd (omega (arith, count-without places (o.items.present place (there place among)) among)),
    );
  }
  line (suc n) places there counted =
      let inside : Inside item_places places = λ place among. o.items.present place (there place among) in
      let first = first_of d.timestamps d.held places inside o.items.lies there counted in
      let channel : ℕ = first_channel d.held places in
      let left : ℕ = without places first.place in
      let was : (place : ℕ) → has left place ≡ true → has places place ≡ true = without_was places first.place in
      let rest = line n left (λ place among. there place (was place among)) (omega (arith, count-without places first.inside first.among)) in
      record {
        items = entry d channel first.place ∷ rest.items;
        counts = ap suc rest.counts;
        hands = rw first.found (ap (λ (later : List ℕ). ticket_at d first.place ∷ later) rest.hands);
        in_line = (
          λ item later. (let (its, place, among, lying, is) = (rest.exactly item).0 later in
              let apart = without_apart places first.place place among in
              subst (Before (entry d channel first.place)) {x = entry d its place} is
              (first_before d.timestamps d.held places first o.items.one_item_a_pair its place (was place among) lying apart)),
          rest.in_line,
        );
        exactly = λ item. (
          ⊎_elim (λ same. (channel, first.place, first.among, first.lying, sym same))
              (λ later. let (its, place, among, lying, is) = (rest.exactly item).0 later in (its, place, was place among, lying, is)),
          λ (its, place, among, lying, is). elim (ℕ_discrete place first.place) [
            | yes same ↦ inl (sym is ∙ ap₂ (entry d) (o.items.lies.alone its channel place lying (ap (lies d.held channel) same ∙ first.lying)) same)
            | no apart ↦ inr ((rest.exactly item).1 (its, place, without_other places (inside place among) apart ∙ among, lying, is))
          ],
        );
      }

  -- ---- the present items of a set of pairs, where a word has their places

  module _ (among : Pairs) (places : ℕ) (are : PlacesOf d.timestamps d.held among places) where
    those : Line d (count places) places
    those = line (count places) places (λ place held. let (channel, lying, chosen) = (are place).0 held in o.items.lies.within channel place lying) refl

    those_listed : Listed (view_of d) among those.items
    those_listed = record {
      in_line = those.in_line;
      exactly = λ item. (
        λ in_it. (let (channel, place, held, lying, is) = (those.exactly item).0 in_it in
            let chosen = sym (goes d.timestamps d.held o.items.lies among places are channel place lying) ∙ held in
            let inside = o.items.present place (o.items.lies.within channel place lying) in
            subst (λ (l : Rules.Item). IsPresent (view_of d) l × (among l.channel l.timestamp ≡ true)) is
            (item_view d o channel {place = place} (record { inside = inside; there = lying; timestamp_is = refl }), chosen)),
        λ (seen, chosen). (let (place, h, ticket) = view_item d item.channel item.timestamp item.ticket seen in
            (those.exactly item).1 (
              item.channel,
              place,
              (are place).1 (item.channel, h.there, ap (among item.channel) h.timestamp_is ∙ chosen),
              h.there,
              λ i. record { channel = item.channel; timestamp = h.timestamp_is i; ticket = ticket i },
            )),
      );
    }

  -- ---- those below a bound, and all

  pub below : (bound : ℕ) → Line d (count (leaving d bound)) (leaving d bound)
  below bound = those (Rules.below bound) (leaving d bound) (below_places d.timestamps d.held o.items.lies o.items.present bound)

  pub listed : (bound : ℕ) → Listed (view_of d) (Rules.below bound) (below bound).items
  unfolding below
  listed bound = those_listed (Rules.below bound) (leaving d bound) (below_places d.timestamps d.held o.items.lies o.items.present bound)

  pub present : Line d (count d.present) d.present
  present = those Rules.everything d.present (present_places d.timestamps d.held o.items.lies)

  pub present_listed : Listed (view_of d) Rules.everything present.items
  unfolding present
  present_listed = those_listed Rules.everything d.present (present_places d.timestamps d.held o.items.lies)
