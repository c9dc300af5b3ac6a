-- The view of a fresh desk: thread 0 at time 0, and nothing else, as its words have no other place; so a desk starts as the rules say.
-- Assumes nothing.
use Rattle.obeys.proofs.Basis.{◌≡◌, ◌∙◌, ap, refl, subst, sym, and-false, false, none, some, ℕ, ℕ_discrete, arith, ltb, ne_eqb, has, has_from, has_none, lowest_none, is_item, place_of, in_use, fresh, items_in, fresh_view, StartsFresh, view_of}
use Rattle.obeys.proofs.Basis.{none_used, at-zeros, channel_places, connection_places, item_places, thread_places}
use Rattle.rules.specs.Runs.{Start}
use Rattle.obeys.specs.Claims.{DeskStarts}
use Rattle.obeys.specs.Reached.{fresh_desk}
use Rattle.obeys.proofs.Frame.{view_ext}
use Rattle.obeys.proofs.Lookup.{dead_view, lives_view, neither_view}

one_used : (n : ℕ) → (n ≡ 0 → ⊥) → in_use 1 n thread_places ≡ false
unfolding in_use
one_used n apart = rw (has_from 1 1 n (omega arith) (omega arith)) (and-false (ltb n thread_places))

fresh_thread : (t : ℕ) → (view_of fresh).thread t ≡ fresh_view.thread t
unfolding fresh in_use has
fresh_thread t = elim (ℕ_discrete t 0) [
  | yes same ↦ rw same (lives_view fresh 0 refl ∙ ap some (at-zeros thread_places thread_places 0))
  | no apart ↦ rw (ne_eqb t 0 apart) (dead_view fresh t (one_used t apart))
]

no_place : (c n : ℕ) → place_of fresh.timestamps (items_in fresh c) n ≡ item_places
unfolding place_of is_item fresh
no_place c n =
    lowest_none (is_item fresh.timestamps (items_in fresh c) n) item_places (λ p inside. rw (at-zeros channel_places channel_places c, has_none p))

fresh-item : (c n : ℕ) → (view_of fresh).item c n ≡ none
unfolding view_of
fresh-item c n = rw (no_place c n)

fresh-channel : (c : ℕ) → (view_of fresh).channel c ≡ false
unfolding view_of fresh
fresh-channel c = none_used c channel_places

fresh_connection : (k : ℕ) → (view_of fresh).connection k ≡ fresh_view.connection k
unfolding fresh
fresh_connection k = neither_view fresh k (none_used k connection_places) (none_used k connection_places)

pub starts_fresh : StartsFresh
starts_fresh = view_ext fresh_thread fresh-channel fresh_connection fresh-item

pub desk_starts : DeskStarts
desk_starts d fresh_desk = subst Start (sym starts_fresh) Start.fresh
