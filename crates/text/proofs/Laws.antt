-- What a caller of `write_answer` can lean on: how long a line is, and what a buffer holds after one. Assumes nothing.
use Prim.Native.Nat.{ℕ, ◌+◌, ◌*◌, ◌^◌, ◌≤◌, ◌<◌}
use mathlib.Core.Path.{◌≡◌, ap, sym, ◌∙◌}
use mathlib.Core.List.{List, [], ◌∷◌, ◌++◌}
use native.Mathlib.Omega.{arith}
use lib.ListN.{length, take, drop, length-append}
use lib.Seq.{sets, sets-eq, length-sets, length-take-le, take_at}
use Rattle.text.specs.Text.{field_room, field_text, fields_text, answer_text, written, line_room, most_tickets}
use Rattle.text.proofs.Digits.{decimal-length, decimal_some, decimal-below}
use Rattle.text.proofs.Stores.{sets_append}

fields_length : (tickets : List ℕ) → length (fields_text tickets) ≤ field_room * length tickets
unfolding fields_text field_text
fields_length [] = omega arith
fields_length (v ∷ rest) = simp length-append (omega (arith, decimal-length v, fields_length rest))

-- a line has no more bytes than the room for one with so many tickets, whatever its numbers
pub answer_fits : (code value time : ℕ) (tickets : List ℕ) → length (answer_text code value time tickets) ≤ line_room (length tickets)
unfolding answer_text field_text
answer_fits code value time tickets =
    simp length-append
    (omega (arith, decimal-length code, decimal-length value, decimal-length time, fields_length tickets))

-- the longest line is 10 + 21 + 11 + 64 * 21 + 1 bytes: a code and a time have 32 bits and so at most 10 digits
pub answer-length : (code value time : ℕ) (tickets : List ℕ)
    → code < 2 ^ 32
    → time < 2 ^ 32
    → length tickets ≤ most_tickets
    → length (answer_text code value time tickets) ≤ 1387
unfolding answer_text field_text
answer-length code value time tickets small_code small_time few =
    simp length-append
    (omega (arith, decimal-below 10 code (omega arith) (omega arith), decimal-length value, decimal-below 10 time (omega arith) (omega arith), fields_length tickets))

-- a line has bytes, so a caller sees by the place whether one was written
pub answer_some : (code value time : ℕ) (tickets : List ℕ) → 0 < length (answer_text code value time tickets)
unfolding answer_text
answer_some code value time tickets = simp length-append (omega (arith, decimal_some code))

module _ (out : List ℕ) (at : ℕ) (text : List ℕ) (fits : at + length text ≤ length out) where
  pub written-length : length (written out at text) ≡ length out
  unfolding written
  written-length = ap length (sym (sets-eq text out at fits)) ∙ length-sets out at text

  -- up to the place after the text stands what stood before it, and the text
  pub written_front : take (at + length text) (written out at text) ≡ take at out ++ text
  unfolding written
  written_front =
      let front : length (take at out) ≡ at = length-take-le at out (omega arith) in
      take_at (take at out ++ text) (drop (at + length text) out) (at + length text) (simp length-append (omega arith))

-- a text written behind another is one text
pub written_next : (out : List ℕ) (at : ℕ) (text more : List ℕ)
    → at + length text + length more ≤ length out
    → written (written out at text) (at + length text) more ≡ written out at (text ++ more)
unfolding written
written_next out at text more fits =
    let first = sets-eq text out at (omega arith) in
    let second = sets-eq more (sets out at text) (at + length text) (rw length-sets (omega arith)) in
    let both = sets-eq (text ++ more) out at (rw length-append (omega arith)) in
    ap (λ (l : List ℕ). take (at + length text) l ++ more ++ drop (at + length text + length more) l) (sym first)
    ∙ sym second
    ∙ sets_append out at text more
    ∙ both
