-- What a get, a consume, a raised mark and a sweep make of a connection, and what that does to the states: each changes the facts of its own places
-- alone, or the mark. Assumes nothing.
use mathlib.Core.Bool.{and-true, cond, false}
use mathlib.Core.Logic.{◌≢◌}
use mathlib.Core.Path.{◌∙◌, ◌≡◌, refl}
use Prim.Native.Nat.{◌<◌, ◌≤◌, max, ℕ}
use native.Mathlib.Decide.{dec_lt}
use native.Mathlib.Omega.{arith}
use lib.Dec.{leb, ltb}
use borrow.Author.Tests.{le-leb, le-ltb, leb-false, lt-ltb}
use Rattle.words.specs.Words.{except, has, with, without}
use Rattle.words.proofs.Laws.{except-at, with_other, with-same, without_other, without-same}
use Rattle.words.proofs.YesOrNo.{bool_cases}
use Rattle.calls.specs.declared.State.TheVariants.{Consumed, Open}
use Rattle.rows.specs.Numbers.{item_places}
use Rattle.rows.specs.States.{state_of}
use Rattle.rows.specs.declared.Connection.{Connection}
use Rattle.rows.proofs.Seen.{state_present}

-- ---- document 01, "What a connection has seen": what sets and clears the two facts of a place, and what moves the mark

abbrev pub with_facts : Connection → ℕ → ℕ → Connection
with_facts c opened consumed = record { items = c.items; mark = c.mark; opened = opened; consumed = consumed }

-- "a get sets open"
unfoldable pub got : Connection → ℕ → Connection
got c place = with_facts c (with c.opened place) c.consumed

-- "a consume by name clears open and sets consumed, and nothing else sets either"
unfoldable pub consumed_by_name : Connection → ℕ → Connection
consumed_by_name c place = with_facts c (without c.opened place) (with c.consumed place)

-- "When an item leaves the desk, both are cleared for its place on every connection."
unfoldable pub cleared : Connection → ℕ → Connection
cleared c gone = record {
  items = except c.items gone;
  mark = c.mark;
  opened = except c.opened gone;
  consumed = except c.consumed gone;
}

-- "A raised mark leaves them as they are."
unfoldable pub raised : Connection → ℕ → Connection
raised c time = record { items = c.items; mark = max c.mark time; opened = c.opened; consumed = c.consumed }

-- ---- the states after it

-- a connection with the same mark, and the same facts at the place
pub same_facts : (c other : Connection) (s p : ℕ) → other.mark ≡ c.mark
    → (p < item_places → has other.opened p ≡ has c.opened p) → (p < item_places → has other.consumed p ≡ has c.consumed p)
    → state_of other s p ≡ state_of c s p
unfolding state_of
same_facts c other s p same_mark same_opened same_consumed =
    bool_cases (leb item_places p)
    (λ past. rw (same_mark, past))
    (λ e. let inside : p < item_places = leb-false item_places p e in rw (same_mark, same_opened inside, same_consumed inside))

module _ (c : Connection) (s p : ℕ) where
  -- a get, at its place and beside it
  pub got_here : p < item_places → c.mark ≤ s → state_of (got c p) s p ≡ Open
  unfolding got
  got_here inside above = state_present (got c p) s p inside ∙ rw (le-leb c.mark s above, with-same c.opened inside)

  pub got_beside : (place : ℕ) → p ≢ place → state_of (got c place) s p ≡ state_of c s p
  unfolding got
  got_beside place apart = same_facts c (got c place) s p refl (λ inside. with_other c.opened inside apart) (λ inside. refl)

  -- a consume by name
  pub consumed_here : p < item_places → c.mark ≤ s → state_of (consumed_by_name c p) s p ≡ Consumed
  unfolding consumed_by_name
  consumed_here inside above =
      state_present (consumed_by_name c p) s p inside ∙ rw (le-leb c.mark s above, without-same c.opened p, with-same c.consumed inside)

  pub consumed_beside : (place : ℕ) → p ≢ place → state_of (consumed_by_name c place) s p ≡ state_of c s p
  unfolding consumed_by_name
  consumed_beside place apart =
      same_facts c (consumed_by_name c place) s p refl (λ inside. without_other c.opened inside apart) (λ inside. with_other c.consumed inside apart)

  -- the items of some places leave, but not this one
  pub cleared-kept : (gone : ℕ) → has gone p ≡ false → state_of (cleared c gone) s p ≡ state_of c s p
  unfolding cleared
  cleared-kept gone stays = same_facts c (cleared c gone) s p refl (kept c.opened) (kept c.consumed)
    where
      kept : (w : ℕ) → p < item_places → has (except w gone) p ≡ has w p
      kept w inside = except-at w gone inside ∙ rw stays (and-true (has w p))

  -- a raised mark: below the time all is CONSUMED, and from it on nothing changes
  pub raised_as : (time : ℕ) → state_of (raised c time) s p ≡ cond (ltb s time) Consumed (state_of c s p)
  unfolding raised state_of
  raised_as time = ltb-max s c.mark time Consumed _
    where
      ltb-max : {A : Type 0} (n mark time : ℕ) (x y : A) → cond (ltb n (max mark time)) x y ≡ cond (ltb n time) x (cond (ltb n mark) x y)
      ltb-max n mark time x y =
          elim (dec_lt n time) [
            | yes below ↦ rw (lt-ltb n time below, lt-ltb n (max mark time) (omega arith))
            | no above ↦ elim (dec_lt n mark) [
              | yes below ↦ rw (le-ltb n time (omega arith), lt-ltb n mark below, lt-ltb n (max mark time) (omega arith))
              | no past ↦ rw (le-ltb n time (omega arith), le-ltb n mark (omega arith), le-ltb n (max mark time) (omega arith))
            ]
          ]
