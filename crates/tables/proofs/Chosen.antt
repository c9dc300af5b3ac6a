-- What the searches find: the best timestamp of those that pass a test, and so the item that a get takes. After each place the one found is the best so
-- far, as "better" is an order. Assumes nothing.
use mathlib.Core.Bool.{Bool, ◌&&◌, and-false, cond, false, not, true}
use mathlib.Core.List.{List}
use mathlib.Core.Path.{◌∙◌, ◌≡◌, ap, refl, subst, sym}
use Prim.Native.Nat.{◌<◌, suc, ℕ}
use native.Mathlib.Nat.{le_refl, not-suc-le-zero}
use native.Mathlib.Omega.{arith}
use lib.Dec.{leb}
use Rattle.words.specs.Words.{except, has}
use Rattle.words.proofs.Laws.{except-at}
use Rattle.words.proofs.Walk.{and_this, each_ext, each_keeps}
use Rattle.words.proofs.YesOrNo.{and_both, and_left, and_right, not_then, true_not_false}
use Rattle.calls.specs.declared.Which.{Which}
use Rattle.std.proofs.Common.{Option, Some, None}
use Rattle.rows.specs.Choices.{found_at, preferred, taken_before}
use Rattle.rows.specs.declared.Connection.{Connection}
use Rattle.rows.specs.declared.Found.{Found}
use Rattle.rows.proofs.Orders.{taken_irreflexive, taken_transitive}
use Rattle.rows.proofs.Seen.{unseen_is}
use Rattle.tables.specs.Columns.{at, item_places}
use Rattle.tables.specs.Search.{chosen, chosen_from, is_wanted, sought}
use Rattle.tables.specs.Seen.{is_unseen_at}

-- ---- the best timestamp of those that pass a test, where "better" is an order

module _ (timestamps : List ℕ) (better : ℕ → ℕ → Bool) (test : ℕ → Bool) (irreflexive : (timestamp : ℕ) → better timestamp timestamp ≡ false)
    (transitive : (first second third : ℕ) → better first second ≡ true → better second third ≡ true → better first third ≡ true) where
  abbrev NoBetter : ℕ → ℕ → Type 0
  NoBetter timestamp other = test other ≡ true → better (at item_places timestamps other) timestamp ≡ false

  -- once the places below n are looked at: what was found stands in one that passes, and none that passes is better; nothing was found where none
  -- passes
  abbrev Best : ℕ → Option Found → Type 0
  Best n (Some found) =
      (found.place < n)
      × (test found.place ≡ true)
      × (found.timestamp ≡ at item_places timestamps found.place)
      × ((other : ℕ) → other < n → NoBetter found.timestamp other)
  Best n None = (other : ℕ) → other < n → test other ≡ false

  best_taken : (n : ℕ) (found : Option Found) → test n ≡ true → Best n found → Best (suc n) (preferred better found n (at item_places timestamps n))
  best_taken n (Some before) passes (below, its, is, best) = go (better winner before.timestamp) refl
    where
      winner : ℕ
      winner = at item_places timestamps n

      go : (wins : Bool) → better winner before.timestamp ≡ wins → Best (suc n) (cond wins (Some (found_at n winner)) (Some before))
      go true e = (
        le_refl (suc n),
        passes,
        refl,
        and_this (NoBetter winner) (λ _. irreflexive winner)
            (λ other below holds. not_then (λ beaten. transitive _ _ _ beaten e) (best other below holds)),
      )
      go false e = (omega arith, its, is, and_this (NoBetter before.timestamp) (λ _. e) best)
  best_taken n None passes none = (
    le_refl (suc n),
    passes,
    refl,
    and_this (NoBetter (at item_places timestamps n)) (λ _. irreflexive _)
        (λ other below holds. absurd (true_not_false holds (none other below))),
  )

  best_kept : (n : ℕ) (found : Option Found) → test n ≡ false → Best n found → Best (suc n) found
  best_kept n (Some before) fails (below, its, is, best) =
      (omega arith, its, is, and_this (NoBetter before.timestamp) (λ holds. absurd (true_not_false holds fails)) best)
  best_kept n None fails none = and_this (λ other. test other ≡ false) fails none

  pub chosen_is : (found : Option Found) → chosen timestamps better test ≡ found → Best item_places found
  unfolding chosen
  chosen_is found e = subst (Best item_places) e (each_keeps Best test _ None (λ other below. absurd (not-suc-le-zero below)) best_taken best_kept item_places)

-- ---- what a get finds

module _ (timestamps : List ℕ) (connection : Connection) (which : Which) where
  -- the parts of "UNSEEN and wanted", in the order of the definition and in that of the code
  regroup : (held above unopened unconsumed wanted : Bool)
      → (((held && unopened) && unconsumed) && (above && wanted)) ≡ ((held && (above && (unopened && unconsumed))) && wanted)
  regroup false above unopened unconsumed wanted = refl
  regroup true false unopened unconsumed wanted = and-false (unopened && unconsumed)
  regroup true true unopened unconsumed wanted = refl

  -- the code searches the places that can be UNSEEN
  pub sought_from : chosen_from timestamps (except (except connection.items connection.opened) connection.consumed) connection.mark which
      ≡ sought timestamps connection which
  unfolding chosen_from sought chosen is_unseen_at
  sought_from = each_ext item_places _ _ None _ _ same (λ p found inside. refl)
    where
      same : (p : ℕ) → p < item_places
          → (has (except (except connection.items connection.opened) connection.consumed) p
          && (leb connection.mark (at item_places timestamps p) && is_wanted which (at item_places timestamps p)))
          ≡ (is_unseen_at timestamps connection p && is_wanted which (at item_places timestamps p))
      same p inside =
          let timestamp : ℕ = at item_places timestamps p in
          let held : Bool = has connection.items p in
          let unconsumed : Bool = not (has connection.consumed p) in
          let wanted : Bool = is_wanted which timestamp in
          ap (λ (b : Bool). b && (leb connection.mark timestamp && wanted))
          (except-at _ connection.consumed inside ∙ ap (λ (b : Bool). b && unconsumed) (except-at connection.items connection.opened inside))
          ∙ regroup held (leb connection.mark timestamp) (not (has connection.opened p)) unconsumed wanted
          ∙ ap (λ (b : Bool). (held && b) && wanted) (sym (unseen_is connection timestamp p inside))

  -- an UNSEEN item that fits, and none is taken before it
  pub record Sought (place timestamp : ℕ) : Type 0 where
    pub inside : place < item_places
    pub is : timestamp ≡ at item_places timestamps place
    pub unseen : is_unseen_at timestamps connection place ≡ true
    pub wanted : is_wanted which timestamp ≡ true
    pub best : (other : ℕ) → other < item_places → is_unseen_at timestamps connection other ≡ true → is_wanted which (at item_places timestamps other) ≡ true
        → taken_before which (at item_places timestamps other) timestamp ≡ false

  abbrev fits : ℕ → Bool
  fits place = is_unseen_at timestamps connection place && is_wanted which (at item_places timestamps place)

  pub sought-found : (place timestamp : ℕ) → sought timestamps connection which ≡ Some (found_at place timestamp) → Sought place timestamp
  unfolding sought
  sought-found place timestamp found =
      let (inside, passes, is, best) = chosen_is timestamps (taken_before which) fits (taken_irreflexive which) (taken_transitive which) (Some (found_at place timestamp)) found in
      record {
        inside = inside;
        is = is;
        unseen = and_left (is_unseen_at timestamps connection place) _ passes;
        wanted = ap (is_wanted which) is ∙ and_right (is_unseen_at timestamps connection place) _ passes;
        best = λ other below unseen wanted. best other below (and_both unseen wanted);
      }

  -- where an item that fits is UNSEEN, something is found
  pub sought_some : (place : ℕ) → place < item_places → is_unseen_at timestamps connection place ≡ true → is_wanted which (at item_places timestamps place) ≡ true
      → sought timestamps connection which ≡ None → ⊥
  unfolding sought
  sought_some place below unseen wanted none =
      true_not_false (and_both unseen wanted)
      (chosen_is timestamps (taken_before which) fits (taken_irreflexive which) (taken_transitive which) None none place below)
