-- What an input connection sees is as 01 says in every view in order, and each change of a connection moves it forward. Assumes nothing.
use Rattle.rules.proofs.Basis.{◌≡◌, refl, sym, subst, inl, inr, ◌≢◌, none, some, Option·some-injective, ℕ, ◌≤◌, arith, le_refl, State, Absent, Unseen, Open, Consumed, state_number, Call, by, sweep, Passable}
use Rattle.rules.specs.Claims.{Forward, Sees, ViewInOrder, EveryInputSees, SeenMovesForward}
use Rattle.rules.specs.Rules.{Connection, unused, output, input, View, input_from, KeepTime, state_on, Outcome, Does}
use Rattle.rules.proofs.Clear.{cleared}
use Rattle.rules.proofs.Connections.{opens, Turned, Turn, ConnectionFitsIn, rests, alike, freed, consumes, writes, comes, reads, moves, turned-raised}
use Rattle.rules.proofs.Leaving.{swept_connection}
use Rattle.rules.proofs.Order.{every_view_in_order}
use Rattle.rules.proofs.Ways.{deed_kind, kind_turned}

fits_sees : (v : View) (k channel mark : ℕ) (c : Connection) → ConnectionFitsIn v k c → input_from c ≡ some channel → KeepTime c mark → Sees (v.item channel) mark (state_on c)
fits_sees v k channel mark unused f from keeps = absurd keeps
fits_sees v k channel mark (output t c) f from keeps = absurd keeps
fits_sees v k channel mark (input t c m s) f from keeps =
    subst (λ (x : ℕ). Sees (v.item x) mark s) (Option·some-injective c channel from) (subst (λ (x : ℕ). Sees (v.item c) x s) (sym keeps) f.4)

pub every_input_sees : EveryInputSees
every_input_sees v run k channel mark = fits_sees v k channel mark (v.connection k) ((every_view_in_order v run).connections k)

-- ---- forward

consumed_last : (s : State) → state_number s ≤ 3
consumed_last Absent = omega arith
consumed_last Unseen = omega arith
consumed_last Open = omega arith
consumed_last Consumed = omega arith

turn_forward : {v : View} {timestamp : ℕ} {old new : State} → Turn v timestamp old new → state_number old ≤ state_number new
turn_forward (rests s) = le_refl (state_number s)
turn_forward opens = omega arith
turn_forward (consumes s) = consumed_last s
turn_forward (comes may) = omega arith

unmoved : (c : Connection) → Forward c c
unmoved unused = record { channel = refl; states = λ t. le_refl _; keeps = λ was is a b. absurd a }
unmoved (output t c) = record { channel = refl; states = λ t. le_refl _; keeps = λ was is a b. absurd a }
unmoved (input t c m s) = record { channel = refl; states = λ n. le_refl _; keeps = λ was is a b. omega arith }

turned_forward : {v : View} {old new : Connection} → Turned v old new → input_from old ≢ none → input_from new ≢ none → Forward old new
turned_forward (alike c) was is = unmoved c
turned_forward (freed c) was is = absurd (is refl)
turned_forward (writes thread channel) was is = absurd (was refl)
turned_forward (reads thread channel mark may) was is = absurd (was refl)
turned_forward (moves thread channel mark later seen now up turns) was is =
    record { channel = refl; states = λ n. turn_forward (turns n); keeps = λ was is a b. omega arith }

-- each connection changes as a connection may: by the way of a deed, or as a sweep raises its mark
does_turned : (v : View) → ViewInOrder v → (call : Call) → Passable call → (out : Outcome) → Does v call out → (k : ℕ) → Turned v (v.connection k) (out.view.connection k)
does_turned v o call fits out (inl (refused, view, lent)) k = subst (λ (w : View). Turned v (v.connection k) (w.connection k)) (sym view) (alike (v.connection k))
does_turned v o (by thread deed) fits out (inr (free, accepts)) k =
    kind_turned v out.view (deed_kind v o thread deed fits (cleared v (by thread deed) free) out accepts) k
does_turned v o (sweep bound slice) fits out (inr (clear, (time, items, is, those, e))) k =
    subst (λ (x : Outcome). Turned v (v.connection k) (x.view.connection k)) (sym e)
    (subst (Turned v (v.connection k)) (sym (swept_connection time (v.connection k))) (turned-raised v time (v.connection k)))

pub seen_moves_forward : SeenMovesForward
seen_moves_forward v run call fits out does k = turned_forward (does_turned v (every_view_in_order v run) call fits out does k)
