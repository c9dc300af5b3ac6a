-- What the stores of a call come to, over plain names. Assumes nothing.
use mathlib.Core.Path.{◌≡◌, refl, sym, ◌∙◌}
use mathlib.Core.Bool.{Bool, true, false, cond, ◌&&◌, not}
use mathlib.Core.List.{List}
use Prim.Native.Nat.{ℕ, min, ◌≤◌}
use native.Mathlib.Omega.{arith}
use native.Mathlib.Nat.{zero-lt-suc}
use lib.Dec.{leb, ltb}
use lib.ListN.{set}
use borrow.Author.Tests.{le-leb, ltb-false}
use Rattle.std.proofs.Common.{Option, Some, None}
use Rattle.words.specs.Words.{has, with, without, except}
use Rattle.words.specs.Places.{lowest_of}
use Rattle.words.proofs.Laws.{has_none, lowest_le, word_of_is}
use Rattle.calls.specs.declared.Bound.{Bound}
use Rattle.calls.specs.declared.Bound.TheVariants.{Weak, Strong}
use Rattle.calls.specs.States.{is_open}
use Rattle.calls.specs.declared.State.TheVariants.{Absent, Consumed}
use Rattle.rows.specs.declared.Connection.{Connection}
use Rattle.rows.specs.declared.Found.{Found}
use Rattle.rows.specs.States.{by_name, place_or_none, state_of}
use Rattle.tables.specs.Columns.{connection_of, item_places}
use Rattle.tables.specs.Seen.{is_item, place_if_any, place_of}
use Rattle.tables.specs.Times.{least_time, least_for}
use Rattle.tables.specs.declared.columns.Seen.{Seen}
use Rattle.desk.specs.declared.Desk.{Desk}
use Rattle.desk.specs.Desk.{SeenOf, connection_at, owned_by, with_connections, with_seen, with_threads}
use Rattle.desk.specs.Times.{weak_bound, strong_bound}
use Rattle.leaving.specs.Leaving.{raised}
use Rattle.desk.specs.Calls.{attached_to, becomes_open, bound_of, consumed_by_name, ended, free_connection, freed, leaving, left, raised_to, swept, unattached}

-- the bound that a sweep takes
pub bound_is : (d : Desk) (which : Bound)
    → min (least_time d.living d.times) (least_for which d.inputs (connection_at d) d.timestamps) ≡ bound_of d which
unfolding weak_bound strong_bound
bound_is d Weak = refl
bound_is d Strong = refl

-- detach, from what was read
pub freed_is : (d : Desk) (thread : ℕ) {own gone at_gone word : ℕ} {made : Desk} → own ≡ owned_by d thread
    → gone ≡ at_gone
    → word ≡ except own gone
    → made ≡ unattached (with_connections d (set d.owned thread word) d.outputs d.leads d.inputs d.marks d.opened d.consumed) gone
    → ◌≡◌ {A = Desk} made (freed d thread at_gone)
unfolding freed unattached
freed_is d thread owns leaves word_is is = rw (is, word_is, owns, leaves)

-- end: no connection is left to the thread
none_left : (w : ℕ) → except w w ≡ 0
unfolding except
none_left w = sym (word_of_is (λ i. has w i && not (has w i)) 0 (zero-lt-suc _) (λ i k. has_none i ∙ sym (and_not (has w i))))
  where
    and_not : (b : Bool) → (b && not b) ≡ false
    and_not true = refl
    and_not false = refl

pub ended_is : (d : Desk) (thread : ℕ) {gone living : ℕ} {made : Desk} → gone ≡ owned_by d thread
    → made ≡ unattached d gone
    → living ≡ without made.living thread
    → ◌≡◌ {A = Desk} (with_threads (with_connections made (set made.owned thread 0) made.outputs made.leads made.inputs made.marks made.opened made.consumed) living (set made.times thread 0))
    (ended d thread)
unfolding ended freed unattached
ended_is d thread owns is lives = rw (lives, is, owns, none_left (owned_by d thread))

-- attach, from what was read: a word joins where the connection is of its direction
pub attached_is : (d : Desk) (reads : Bool) (thread channel mark : ℕ) {place own joined time inputs outputs : ℕ} → own ≡ owned_by d thread
    → place ≡ free_connection d
    → joined ≡ with own place
    → time ≡ mark
    → inputs ≡ cond reads (with d.inputs place) d.inputs
    → outputs ≡ cond (not reads) (with d.outputs place) d.outputs
    → ◌≡◌ {A = Desk} (with_connections d (set d.owned thread joined) outputs (set d.leads place channel) inputs (set d.marks place time) d.opened d.consumed)
    (attached_to d reads thread channel mark)
unfolding attached_to
attached_is d true thread channel mark owns free joins timed reading writing = rw (joins, timed, reading, writing, owns, free)
attached_is d false thread channel mark owns free joins timed reading writing = rw (joins, timed, reading, writing, owns, free)

-- ---- what was read of a connection

pub row_is : (d : Desk) (connection : ℕ) {seen : Seen} {row : Connection} → SeenOf d seen → row ≡ connection_of seen connection → row ≡ connection_at d connection
row_is d connection seen is = rw (seen.leads, seen.held, seen.marks, seen.opened, seen.consumed) at is

-- the place of an item, as the search hands it on
pub some_place : (place : ℕ) {found : ℕ} → ◌≡◌ {A = Option ℕ} (Some found) (place_if_any place) → found ≡ place
some_place place {found} = go (ltb place item_places)
  where
    go : (inside : Bool) → ◌≡◌ {A = Option ℕ} (Some found) (cond inside (Some place) None) → found ≡ place
    go true same = cc
    go false same = absurd (cc)

-- and as the state is asked with it
pub any_place : (timestamps : List ℕ) (places timestamp : ℕ) → place_or_none (place_if_any (place_of timestamps places timestamp)) ≡ place_of timestamps places timestamp
unfolding place_of
any_place timestamps places timestamp =
    let most : lowest_of (is_item timestamps places timestamp) item_places ≤ item_places = lowest_le _ _ in
    go (lowest_of (is_item timestamps places timestamp) item_places) most (ltb (lowest_of (is_item timestamps places timestamp) item_places) item_places) refl
  where
    go : (place : ℕ) → place ≤ item_places → (inside : Bool) → ltb place item_places ≡ inside → place_or_none (cond inside (Some place) None) ≡ place
    go place most true e = refl
    go place most false e = omega (arith, most, ltb-false place item_places e)

-- where there is none, nothing is OPEN
pub none_open : (row : Connection) (timestamp place : ℕ) → ◌≡◌ {A = Option ℕ} None (place_if_any place) → is_open (state_of row timestamp place) ≡ false
unfolding state_of
none_open row timestamp place = go (ltb place item_places) refl
  where
    past : (below : Bool) → is_open (cond below Consumed Absent) ≡ false
    past true = refl
    past false = refl

    go : (inside : Bool) → ltb place item_places ≡ inside → ◌≡◌ {A = Option ℕ} None (cond inside (Some place) None)
        → is_open
        (cond (ltb timestamp row.mark) Consumed (cond (leb item_places place) Absent (by_name (has row.opened place) (has row.consumed place))))
        ≡ false
    go true e same = absurd (cc)
    go false e same = rw (le-leb item_places place (ltb-false place item_places e)) (past (ltb timestamp row.mark))

-- get, from what was found
pub opens_is : (d : Desk) (connection : ℕ) (found : Found) {at_place : ℕ} {word : ℕ} {row : Connection} → row ≡ connection_at d connection
    → found.place ≡ at_place
    → word ≡ with row.opened found.place
    → ◌≡◌ {A = Desk} (with_seen d d.marks (set d.opened connection word) d.consumed) (becomes_open d connection at_place)
unfolding becomes_open
opens_is d connection found reads is joins = rw (joins, is, reads)

-- consume
pub consumes_is : (d : Desk) (connection : ℕ) {place open_word consumed_word at_place : ℕ} {row : Connection} → row ≡ connection_at d connection
    → place ≡ at_place
    → open_word ≡ without row.opened place
    → consumed_word ≡ with row.consumed place
    → ◌≡◌ {A = Desk} (with_seen d d.marks (set d.opened connection open_word) (set d.consumed connection consumed_word)) (consumed_by_name d connection at_place)
unfolding consumed_by_name
consumes_is d connection reads found leaves joins = rw (leaves, joins, found, reads)

-- a sweep: what it leaves, and then the marks
pub swept_is : (d : Desk) {bound at_bound gone : ℕ} {made : Desk} {marks : List ℕ} → bound ≡ at_bound
    → gone ≡ leaving d at_bound
    → made ≡ left d gone
    → marks ≡ raised made.inputs bound made.marks
    → ◌≡◌ {A = Desk} (with_seen made marks made.opened made.consumed) (swept d at_bound)
unfolding raised_to swept
swept_is d bound_is gone_is is raises = rw (raises, is, gone_is, bound_is)
