-- The parts of visible time and of the two bounds, as loops over the places of a word: a test of the definition is that the place is in the word, and
-- what the loop tests besides. Assumes nothing.
use mathlib.Core.Bool.{Bool, ◌&&◌, ◌||◌, and_comm, and-false, and-true, cond, false, not, true}
use mathlib.Core.List.{List}
use mathlib.Core.Path.{◌∙◌, ◌≡◌, ap, refl, sym}
use Prim.Native.Nat.{◌<◌, ◌≤◌, min, suc, zero, ℕ}
use native.Mathlib.Nat.{le_refl, min-eq_left}
use native.Mathlib.Omega.{arith}
use lib.Dec.{leb}
use borrow.Author.Tests.{le-leb, leb-true, lt-leb}
use Rattle.words.specs.Places.{each, fold_to}
use Rattle.words.specs.Words.{both, except, has}
use Rattle.words.proofs.Laws.{both_at, except-at}
use Rattle.words.proofs.Walk.{each_and, each_ext}
use Rattle.words.proofs.YesOrNo.{and_right}
use Rattle.rows.specs.Numbers.{never}
use Rattle.rows.specs.declared.Connection.{Connection}
use Rattle.rows.proofs.Seen.{open_is, pending_is}
use Rattle.tables.specs.Columns.{at, item_places}
use Rattle.tables.specs.Seen.{is_open_at, is_pending_at}
use Rattle.tables.specs.Times.{least_from, open_time, pending_time, smallest}

-- ---- the smallest of some times

-- one turn of a loop that looks for it
abbrev pub lowered : (ℕ → ℕ) → ℕ → ℕ → ℕ
lowered time i least = min (time i) least

-- the smaller of the least so far and of a time that was read
pub lowers : (time : ℕ → ℕ) (i least : ℕ) {read x : ℕ} → x ≡ min least read → read ≡ time i → x ≡ lowered time i least
lowers time i least made is = omega (arith, made, is)

-- a loop that starts at a time finds the smaller of that time and of what it finds from never on
pub smallest_from : (n : ℕ) (counts : ℕ → Bool) (time : ℕ → ℕ) (start : ℕ) → start ≤ never
    → each n counts (lowered time) start ≡ min start (smallest n counts time)
unfolding smallest each fold_to
smallest_from zero counts time start fits = sym (min-eq_left fits)
smallest_from (suc n) counts time start fits = go (counts n) _ (smallest_from n counts time start fits)
  where
    go : (t : Bool) {x : ℕ} (y : ℕ) → x ≡ min start y → cond t (min (time n) x) x ≡ min start (cond t (min (time n) y) y)
    go true y e = omega arith
    go false y e = e

pub smallest_top : (n : ℕ) (counts : ℕ → Bool) (time : ℕ → ℕ) → smallest n counts time ≤ never
unfolding smallest
smallest_top n counts time = omega (arith, smallest_from n counts time never (le_refl never))

-- times of which the same count
smallest_of : (n : ℕ) {counts passes : ℕ → Bool} (time : ℕ → ℕ) → ((i : ℕ) → i < n → counts i ≡ passes i) → smallest n counts time ≡ smallest n passes time
unfolding smallest
smallest_of n time same = each_ext n _ _ never _ _ same (λ i least inside. refl)

-- a time that is at most every one that counts is at most the smallest
smallest_above : (n : ℕ) (counts : ℕ → Bool) (time : ℕ → ℕ) (least : ℕ) → least ≤ never → ((i : ℕ) → counts i ≡ true → least ≤ time i)
    → least ≤ smallest n counts time
unfolding smallest each fold_to
smallest_above zero counts time least fits above = fits
smallest_above (suc n) counts time least fits above = go (counts n) (above n) (smallest_above n counts time least fits above)
  where
    go : (t : Bool) {y : ℕ} → (t ≡ true → least ≤ time n) → least ≤ y → least ≤ cond t (min (time n) y) y
    go true here rest = let lower : least ≤ time n = here refl in omega arith
    go false here rest = rest

-- ---- the timestamps in some places that are not below a mark

module _ (timestamps : List ℕ) where
  -- one turn of the loop
  abbrev pub from_step : ℕ → ℕ → ℕ → ℕ
  from_step mark p least = cond (leb mark (at item_places timestamps p)) (min (at item_places timestamps p) least) least

  -- a step takes the timestamp that it read where the mark is not above it, and passes it over where it is
  pub from_takes : (mark p least : ℕ) {read x : ℕ} → read ≡ at item_places timestamps p → mark ≤ read → x ≡ min least read → x ≡ from_step mark p least
  from_takes mark p least is above made =
      let made_of : _ ≡ min (at item_places timestamps p) least = omega (arith, is, made) in
      made_of
      ∙ sym (ap (λ (t : Bool). cond t (min (at item_places timestamps p) least) least) (le-leb mark (at item_places timestamps p) (rw is at above)))

  pub from_passes : (mark p least : ℕ) {read : ℕ} → read ≡ at item_places timestamps p → read < mark → least ≡ from_step mark p least
  from_passes mark p least is below =
      sym (ap (λ (t : Bool). cond t (min (at item_places timestamps p) least) least) (lt-leb mark (at item_places timestamps p) (rw is at below)))

  pub least_from_is : (places mark time : ℕ) → time ≤ never
      → each item_places (has places) (from_step mark) time ≡ min time (least_from timestamps places mark)
  unfolding least_from
  least_from_is places mark time fits =
      sym (each_and item_places _ time _ _ _ (λ p inside. refl)) ∙ smallest_from item_places _ (at item_places timestamps) time fits

  -- where the mark is not below the least, none of them lowers it
  from_above : (places mark least : ℕ) → least ≤ never → least ≤ mark → least ≤ least_from timestamps places mark
  unfolding least_from
  from_above places mark least fits marked =
      smallest_above item_places _ _ least fits
      (λ p counted. let above : mark ≤ at item_places timestamps p = leb-true mark (at item_places timestamps p) (and_right (has places p) _ counted) in
      omega arith)

  -- ---- OPEN timestamps, and those UNSEEN or OPEN

  module _ (connection : Connection) where
    open_split : (held above opened : Bool) → (held && (above && opened)) ≡ ((held && opened) && above)
    open_split true above opened = and_comm above opened
    open_split false above opened = refl

    pub open_time_is : open_time timestamps connection ≡ least_from timestamps (both connection.items connection.opened) connection.mark
    unfolding open_time least_from is_open_at
    open_time_is =
        smallest_of item_places (at item_places timestamps)
        (λ p inside. let above : Bool = leb connection.mark (at item_places timestamps p) in
        ap (λ (t : Bool). has connection.items p && t) (open_is connection (at item_places timestamps p) p inside)
        ∙ open_split (has connection.items p) above (has connection.opened p)
        ∙ ap (λ (t : Bool). t && above) (sym (both_at connection.items connection.opened inside)))

    -- one turn of a loop over connections
    pub open_turn : (least : ℕ) {x : ℕ} → x ≡ min least (least_from timestamps (both connection.items connection.opened) connection.mark)
        → x ≡ min (open_time timestamps connection) least
    open_turn least found = omega (arith, found, open_time_is)

    pending_split : (held above opened consumed : Bool) → (held && (above && (opened || not consumed))) ≡ ((held && not (consumed && not opened)) && above)
    pending_split false above opened consumed = refl
    pending_split true above true true = and-true above
    pending_split true above true false = and-true above
    pending_split true above false true = and-false above
    pending_split true above false false = and-true above

    -- the places that are UNSEEN or OPEN where they are not below the mark
    abbrev pub awaited_places : ℕ
    awaited_places = except connection.items (except connection.consumed connection.opened)

    pub pending_time_is : pending_time timestamps connection ≡ least_from timestamps awaited_places connection.mark
    unfolding pending_time least_from is_pending_at
    pending_time_is =
        smallest_of item_places (at item_places timestamps)
        (λ p inside. let above : Bool = leb connection.mark (at item_places timestamps p) in
        let held : Bool = has connection.items p in
        ap (λ (t : Bool). held && t) (pending_is connection (at item_places timestamps p) p inside)
        ∙ pending_split held above (has connection.opened p) (has connection.consumed p)
        ∙ ap (λ (t : Bool). (held && not t) && above) (sym (except-at connection.consumed connection.opened inside))
        ∙ ap (λ (t : Bool). t && above) (sym (except-at connection.items _ inside)))

    -- one turn: the places are looked at where the mark is below the least, and else none of them could lower it
    pub pending_turn : (least : ℕ) {x : ℕ} → x ≡ min least (least_from timestamps awaited_places connection.mark) → x ≡ min (pending_time timestamps connection) least
    pending_turn least found = omega (arith, found, pending_time_is)

    pub pending_past : (least : ℕ) → least ≤ never → least ≤ connection.mark → least ≡ min (pending_time timestamps connection) least
    pending_past least fits marked = omega (arith, pending_time_is, from_above awaited_places connection.mark least fits marked)
