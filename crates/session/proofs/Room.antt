-- What a caller of `feed` needs to know of the numbers that it answers. Assumes nothing.
use mathlib.Core.Path.{◌≡◌, ap}
use mathlib.Core.Bool.{Bool, true, false, cond}
use mathlib.Core.List.{List, [], ◌∷◌, ◌++◌}
use Prim.Native.Nat.{ℕ, suc, ◌-◌, ◌≤◌, ◌<◌}
use native.Mathlib.Omega.{arith}
use lib.Dec.{eqb}
use lib.ListN.{length, drop, length-append, length-drop}
use borrow.Author.Tests.{le-ltb}
use Rattle.rows.proofs.Laws.{and_comm}
use Rattle.text.specs.Text.{answer_room, newline}
use Rattle.session.specs.declared.Reader.{Reader}
use Rattle.session.specs.Stream.{used_of, read_byte, printed_by, waits}

-- no more bytes are used than there are
pub used_le : (bytes : List ℕ) (r : Reader) (room : ℕ) → used_of r bytes room ≤ length bytes
unfolding used_of
used_le [] r room = omega arith
used_le (byte ∷ bytes) r room = go (waits byte room) (used_le bytes (read_byte r byte) (room - length (printed_by r byte)))
  where
    go : (waiting : Bool) {used : ℕ} → used ≤ length bytes → cond waiting 0 (suc used) ≤ suc (length bytes)
    go true le = omega arith
    go false le = omega arith

-- with the room for an answer a part that is not empty is not used in vain: a caller who feeds the rest again comes to its end
pub used_some : (byte : ℕ) (bytes : List ℕ) (r : Reader) (room : ℕ) → answer_room ≤ room → 0 < used_of r (byte ∷ bytes) room
unfolding used_of
used_some byte bytes r room enough = rw (le-ltb room answer_room enough, and_comm (eqb byte newline) false) (omega arith)

-- what was written fits where it stands
pub text_fits : (text out after : List ℕ) → after ≡ text ++ drop (length text) out → length after ≡ length out → length text ≤ length out
text_fits text out after stands same = omega (arith, ap length stands, length-append text (drop (length text) out), length-drop (length text) out)

-- the same of the answers of a call
pub used_fits : (bytes : List ℕ) (r : Reader) (room : ℕ) {used : ℕ} → used ≡ used_of r bytes room → used ≤ length bytes
used_fits bytes r room is = omega (arith, used_le bytes r room)

pub written_fits : (text out after : List ℕ) {written : ℕ} → written ≡ length text → after ≡ text ++ drop (length text) out → length after ≡ length out → written ≤ length after
written_fits text out after is stands same = omega (arith, text_fits text out after stands same)
