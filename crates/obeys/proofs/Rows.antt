-- How the view of an input connection looks after a get, a consume, a raised mark and an attach: as the state of each timestamp after them. Assumes
-- nothing.
use Rattle.obeys.proofs.Basis.{◌∙◌, ◌≡◌, ◌≢◌, ◌≤◌, Absent, Connection, Consumed, Distinct, Holds, List, Open, Option, Row, State, ap, arith, by_name}
use Rattle.obeys.proofs.Basis.{cond, consumed_beside, consumed_here, consumed_below, consumed_row, dec_lt, eq-eqb, first_seen, fun_ext, got_beside, got_here}
use Rattle.obeys.proofs.Basis.{got_row, has, has_none, holds-state, input, item_places, le-leb, le-ltb, leb, lt-leb, lt-ltb, ltb, ne_eqb, none}
use Rattle.obeys.proofs.Basis.{place_apart, place_of, raised_as, raised_row, refl, seen_as, some, state, state_of, unseen_if, with, without, ℕ, ℕ_discrete}
use Rattle.rows.proofs.Changed.{with_facts}

-- two inputs that differ in what they have seen
pub input_seen : {thread channel mark : ℕ} {seen other : ℕ → State} → ((n : ℕ) → seen n ≡ other n)
    → input thread channel mark seen ≡ input thread channel mark other
input_seen {thread} {channel} {mark} same = ap (input thread channel mark) (fun_ext same)

-- a thread's input connection to a channel, by its mark and its facts
abbrev pub input_of : List ℕ → (thread channel : ℕ) → Row → Connection
input_of timestamps thread channel row = input thread channel row.mark (state timestamps row)

module _ (timestamps : List ℕ) (thread channel : ℕ) (row : Row) where
  -- ---- one place's facts change

  module _ (distinct : Distinct timestamps row.items) {timestamp place : ℕ} (h : Holds timestamps row.items timestamp place) where
    -- other facts, which say the same of every other place
    seen_changed : (opened consumed : ℕ) → ((n p : ℕ) → p ≢ place → state_of (with_facts row opened consumed) n p ≡ state_of row n p)
        → (s : State) → state_of (with_facts row opened consumed) timestamp place ≡ s
        → input_of timestamps thread channel (with_facts row opened consumed) ≡ seen_as s timestamp (input_of timestamps thread channel row)
    unfolding state
    seen_changed opened consumed beside s here =
        input_seen (λ n. elim (ℕ_discrete n timestamp) [
          | yes same ↦ rw (same, eq-eqb timestamp timestamp refl) (holds-state timestamps (with_facts row opened consumed) distinct timestamp h ∙ here)
          | no apart ↦ rw (ne_eqb n timestamp apart) (beside n (place_of timestamps row.items n) (place_apart timestamps row.items timestamp h n apart))
        ])

    pub row-got : row.mark ≤ timestamp
        → input_of timestamps thread channel (got_row row place) ≡ seen_as Open timestamp (input_of timestamps thread channel row)
    unfolding got_row
    row-got above =
        seen_changed (with row.opened place) row.consumed (λ n p. got_beside row n p place) Open (got_here row timestamp place h.inside above)

    pub row_consumed : row.mark ≤ timestamp
        → input_of timestamps thread channel (consumed_row row place) ≡ seen_as Consumed timestamp (input_of timestamps thread channel row)
    unfolding consumed_row
    row_consumed above =
        seen_changed (without row.opened place) (with row.consumed place) (λ n p. consumed_beside row n p place) Consumed
        (consumed_here row timestamp place h.inside above)

  -- ---- the mark rises

  pub row-raised : (time : ℕ) → input_of timestamps thread channel (raised_row row time) ≡ consumed_below time (input_of timestamps thread channel row)
  unfolding raised_row state
  row-raised time = input_seen (λ n. raised_as row n (place_of timestamps row.items n) time)

  -- ---- a new connection, which has no facts, whatever the tickets in the places are

  abbrev ticket_of : (ℕ → ℕ) → ℕ → Option ℕ
  ticket_of ticket timestamp =
      cond (ltb (place_of timestamps row.items timestamp) item_places) (some (ticket (place_of timestamps row.items timestamp))) none

  pub row-attached : row.opened ≡ 0 → row.consumed ≡ 0 → (ticket : ℕ → ℕ)
      → input_of timestamps thread channel row ≡ input thread channel row.mark (first_seen (ticket_of ticket) row.mark)
  unfolding state state_of
  row-attached unopened unconsumed ticket =
      input_seen (λ n. ap (cond (ltb n row.mark) Consumed) (first (place_of timestamps row.items n)))
    where
      first : (place : ℕ) → cond (leb item_places place) Absent (by_name (has row.opened place) (has row.consumed place))
          ≡ unseen_if (cond (ltb place item_places) (some (ticket place)) none)
      first place =
          elim (dec_lt place item_places) [
            | yes below ↦ rw (lt-ltb place item_places below, lt-leb item_places place below, unopened, unconsumed, has_none place)
            | no past ↦ rw (le-ltb place item_places (omega arith), le-leb item_places place (omega arith))
          ]
