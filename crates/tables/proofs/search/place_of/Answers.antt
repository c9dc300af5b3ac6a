-- The walk goes over the places of the word, lowest first, and leaves out each that does not hold the timestamp: so what is still to be found stays the
-- same, until a place holds it or none is left. Assumes nothing.
use mathlib.Core.Path.{◌≡◌, refl, sym, ap, ◌∙◌}
use Prim.Native.Nat.{ℕ, ◌<◌, ◌≤◌}
use native.Mathlib.Omega.{arith}
use borrow.Author.Tests.{eq-eqb, lt-ltb, ne_eqb}
use Rattle.std.proofs.Common.{Option, Some, None}
use Rattle.words.specs.declared.PlaceWalk.{PlaceWalk}
use Rattle.words.proofs.Search.{lowest_in, search_here, search_turn, search_done}
use Rattle.tables.specs.Columns.{item_places}
use Rattle.tables.specs.Seen.{is_item, place_if_any, place_of}
use Rattle.tables.proofs.search.place_of.Invariants.{is_it}
use Rattle.tables.proofs.search.place_of.Goals as goal

some_place : {place : ℕ} {found : ℕ} → place ≡ found → place < item_places → ◌≡◌ {A = Option ℕ} (Some place) (place_if_any found)
some_place {place} same inside = rw (sym same, lt-ltb place item_places inside)

no_place : {found : ℕ} → item_places ≡ found → ◌≡◌ {A = Option ℕ} None (place_if_any found)
no_place same = rw (sym same)

pub loop-place-init : goal.loop-place-init
unfolding place_of is_item
loop-place-init c =
    let word = ap (λ (w : PlaceWalk). w.rest) c.into_iter-place-iterator.ensures.into_iter_gives ∙ c.places-place-items.ensures.0 in (
      ap (λ (w : PlaceWalk). w.end) c.into_iter-place-iterator.ensures.into_iter_gives ∙ c.places-place-items.ensures.1,
      ap (λ (w : ℕ). lowest_in w (is_it c.args.timestamps.now c.args.timestamp)) word,
    )

pub returns-then-at-timestamp : goal.returns-then-at-timestamp
returns-then-at-timestamp c =
    let here = c.loop-place in
    let its = eq-eqb _ _ (sym c.at.ensures ∙ c.if-at-timestamp.true) in
    let inside : c.in-Some.place < item_places = omega (arith, c.in-Some.ensures.steps.1, here.invariant.0) in
    some_place (search_here _ here.place-iterator.rest inside c.in-Some.ensures.steps.0 its here.invariant.1) inside

pub loop-place-preserved : goal.loop-place-preserved
loop-place-preserved c =
    let here = c.loop-place in
    let another = ne_eqb _ _ (λ same. c.if-at-timestamp.false (c.at.ensures ∙ same)) in (
      ap (λ (w : PlaceWalk). w.end) c.in-Some.ensures.steps.2 ∙ here.invariant.0,
      search_turn _ here.place-iterator.rest another (ap (λ (w : PlaceWalk). w.rest) c.in-Some.ensures.steps.2) here.invariant.1,
    )

pub returns : goal.returns
returns c =
    let here = c.loop-place in
    let past : item_places ≤ _ = omega (arith, c.in-None.ensures.steps.0, here.invariant.0) in
    no_place (search_done _ here.place-iterator.rest past refl here.invariant.1)
