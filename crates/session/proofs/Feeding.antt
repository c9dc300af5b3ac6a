-- A part of the input, byte by byte: what is known after some of its bytes, and what one byte more makes of it. Assumes nothing.
use Prim.Native.Nat.{ℕ, suc, ◌+◌, ◌-◌, ◌≤◌, ◌<◌, min}
use mathlib.Core.Path.{◌≡◌, refl, ap, sym, ◌∙◌}
use mathlib.Core.Bool.{Bool, true, false}
use mathlib.Core.List.{List, [], ◌∷◌, ◌++◌, append_assoc, append-nil}
use native.Mathlib.Numerals.{add-one, unary_clauses}
use native.Mathlib.Omega.{arith}
use borrow.Author.Tests.{le-ltb, lt-ltb, ne_eqb, ltb-true, ltb-false}
use lib.Dec.{eqb, ltb}
use lib.ListN.{length, take, drop, get_or, length-append, length-drop, drop_of_length-le, take-append-drop}
use lib.Seq.{drop-cons, take-suc, take_all, take_at, drop-append-add, drop-drop}
use Rattle.text.specs.Text.{answer_room, newline, written}
use Rattle.desk.specs.declared.Desk.{Desk}
use Rattle.session.specs.declared.Notes.{Notes}
use Rattle.session.specs.declared.Reader.{Reader}
use Rattle.session.specs.Turns.{turn, printed}
use Rattle.session.specs.Notes.{noted}
use Rattle.session.specs.Stream.{line_kept, reader, line_so_far, with_byte, read_byte, printed_by, reader_after, printed_for, waits, used_of, printed_at_end, noted_at_end}

-- ---- one part more, and one byte more

-- the reader after two parts is the one that the second part makes of the reader after the first
pub reader-append : (r : Reader) (bytes more : List ℕ) → reader_after r (bytes ++ more) ≡ reader_after (reader_after r bytes) more
unfolding reader_after
reader-append r [] more = refl
reader-append r (byte ∷ bytes) more = reader-append (read_byte r byte) bytes more

-- what two parts print is what the first prints, and then what the second prints for the reader after the first
pub printed-append : (r : Reader) (bytes more : List ℕ)
    → printed_for r (bytes ++ more) ≡ printed_for r bytes ++ printed_for (reader_after r bytes) more
unfolding reader_after printed_for
printed-append r [] more = refl
printed-append r (byte ∷ bytes) more =
    rw (printed-append (read_byte r byte) bytes more) (sym (append_assoc (printed_by r byte) _ _))

-- the reader after one byte more
reader_more : (r : Reader) (bytes : List ℕ) (byte : ℕ) → reader_after r (bytes ++ (byte ∷ [])) ≡ read_byte (reader_after r bytes) byte
unfolding reader_after
reader_more r bytes byte = reader-append r bytes (byte ∷ [])

-- what is printed with one byte more
printed_more : (r : Reader) (bytes : List ℕ) (byte : ℕ)
    → printed_for r (bytes ++ (byte ∷ [])) ≡ printed_for r bytes ++ printed_by (reader_after r bytes) byte
unfolding printed_for
printed_more r bytes byte = printed-append r bytes (byte ∷ []) ∙ rw append-nil

-- a byte that does not wait is used, and the rest of the part has what room its text leaves
used_more : (r : Reader) (byte : ℕ) (bytes : List ℕ) (room : ℕ)
    → waits byte room ≡ false
    → used_of r (byte ∷ bytes) room ≡ suc (used_of (read_byte r byte) bytes (room - length (printed_by r byte)))
unfolding used_of
used_more r byte bytes room goes = rw goes

-- where the next byte waits, none is used
used_waiting : (r : Reader) (byte : ℕ) (bytes : List ℕ) (room : ℕ) → waits byte room ≡ true → used_of r (byte ∷ bytes) room ≡ 0
unfolding used_of
used_waiting r byte bytes room waiting = rw waiting

-- ---- after i bytes of the part, with the text so far in the first `at` places of out

pub record Fed (first : Reader) (part before : List ℕ) (r : Reader) (i at : ℕ) (out : List ℕ) : Type 0 where
  pub used : i + used_of r (drop i part) (length before - at) ≡ used_of first part (length before)
  pub reads : r ≡ reader_after first (take i part)
  pub place : at ≡ length (printed_for first (take i part))
  pub bytes : out ≡ printed_for first (take i part) ++ drop at before
  pub room : at ≤ length before

-- before the first byte
pub fed_none : (first : Reader) (part before : List ℕ) → Fed first part before first 0 0 before
unfolding reader_after printed_for
fed_none first part before = record { used = simp unary_clauses (omega arith); reads = refl; place = refl; bytes = refl; room = omega arith }

module _ (first : Reader) (part before : List ℕ) (r : Reader) (i at : ℕ) (out : List ℕ) (fed : Fed first part before r i at out) where
  -- out has as many places as before
  pub fed_length : length out ≡ length before
  fed_length = ap length fed.bytes ∙ simp (length-append, length-drop) (omega (arith, fed.place, fed.room))

  -- what is printed so far
  abbrev text : List ℕ
  text = printed_for first (take i part)

  -- behind the text so far out is as it was
  rest : (k : ℕ) → drop (at + k) out ≡ drop (at + k) before
  rest k =
      ap (drop (at + k)) fed.bytes
      ∙ ap (λ (n : ℕ). drop (n + k) (text ++ drop at before)) fed.place
      ∙ drop-append-add text (drop at before) k
      ∙ drop-drop k at before

  -- and its first places hold that text
  front : take at out ≡ text
  front = ap (take at) fed.bytes ∙ take_at text (drop at before) at (sym fed.place)

  module _ (byte : ℕ) (more : i < length part) (is : byte ≡ get_or part i 0) where
    -- one byte more that does not wait, with its text written
    fed_byte : (end : ℕ) (after : List ℕ)
        → waits byte (length before - at) ≡ false
        → end ≡ at + length (printed_by r byte)
        → end ≤ length before
        → after ≡ take at out ++ printed_by r byte ++ drop end out
        → Fed first part before (read_byte r byte) (i + 1) end after
    fed_byte end after goes ends fits wrote =
        let parted : drop i part ≡ byte ∷ drop (i + 1) part = rw (add-one, is) (drop-cons part i 0 more) in
        let longer : take (i + 1) part ≡ take i part ++ (byte ∷ []) = rw (add-one, is) (take-suc part i 0 more) in
        let one = used_more r byte (drop (i + 1) part) (length before - at) goes in
        let left : length before - at - length (printed_by r byte) ≡ length before - end = omega arith in
        let told = rw (parted, one, left) at fed.used in
        let now = ap (λ (s : Reader). read_byte s byte) fed.reads in
        let said = ap (λ (s : Reader). printed_for first (take i part) ++ printed_by s byte) fed.reads in
        let text_more : printed_for first (take (i + 1) part) ≡ printed_for first (take i part) ++ printed_by r byte
        = ap (printed_for first) longer ∙ printed_more first (take i part) byte ∙ sym said in
        let behind : drop end out ≡ drop end before = rw ends (rest (length (printed_by r byte))) in
        record {
          used = omega arith;
          reads = now ∙ sym (reader_more first (take i part) byte) ∙ ap (reader_after first) (sym longer);
          place = rw (text_more, length-append) (omega (arith, fed.place));
          bytes = wrote ∙ rw (front, behind, text_more);
          room = fits;
        }

    -- a byte that is no newline joins the line, and out stays
    pub fed_joins : eqb byte newline ≡ false → Fed first part before (with_byte r byte) (i + 1) at out
    unfolding read_byte printed_by
    fed_joins other =
        let none : printed_by r byte ≡ [] = rw other in
        let joins : read_byte r byte ≡ with_byte r byte = rw other in
        let stays : out ≡ take at out ++ printed_by r byte ++ drop at out = rw (none, append-nil) (sym (take-append-drop at out)) in
        let none_long : length (printed_by r byte) ≡ 0 = ap length none in
        rw joins at (fed_byte at out (rw other) (omega arith) fed.room stays)

    -- a newline where the room for an answer is left ends the line: its turn is taken, it is noted, and its answer stands in out
    pub fed_ends : (line : List ℕ) (desk : Desk) (notes : Notes) (end : ℕ) (after : List ℕ)
        → line ≡ line_so_far r
        → eqb byte newline ≡ true
        → at + answer_room ≤ length out
        → length after ≡ length out
        → (desk ≡ (turn r.desk line).desk) × (end ≡ at + length (printed (turn r.desk line))) × (after ≡ written out at (printed (turn r.desk line)))
        → notes ≡ noted r.notes line
        → Fed first part before (reader desk r.line 0 notes) (i + 1) end after
    unfolding read_byte printed_by written
    fed_ends line desk notes end after whole ended fits same turned note =
        let told = rw whole at turned in
        let noting = rw whole at note in
        let enough : answer_room ≤ length before - at = omega (arith, fed_length) in
        let says : printed_by r byte ≡ printed (turn r.desk (line_so_far r)) = rw ended in
        let next : read_byte r byte ≡ reader desk r.line 0 notes = rw (ended, told.0, noting) in
        let ends : end ≡ at + length (printed_by r byte) = rw says told.1 in
        let wrote : after ≡ take at out ++ printed_by r byte ++ drop end out = rw (says, told.1) told.2 in
        let long : length (take at out ++ printed_by r byte ++ drop end out) ≡ length out = sym (ap length wrote) ∙ same in
        let parts = rw (length-append, length-append, front, length-drop) at long in
        let room : end ≤ length before = omega (arith, fed_length, fed.place) in
        rw next at (fed_byte end after (rw (ended, le-ltb _ answer_room enough)) ends room wrote)

  -- after the last byte, all bytes are used
  pub fed_all : length part ≤ i → i ≡ used_of first part (length before)
  unfolding used_of
  fed_all all =
      let none = rw (drop_of_length-le part all) at fed.used in
      omega arith

  -- at a newline where the room for an answer is not left, the bytes before it are used
  pub fed_waits : (byte : ℕ) → i < length part → byte ≡ get_or part i 0 → eqb byte newline ≡ true → length out - at < answer_room → i ≡ used_of first part (length before)
  fed_waits byte more is ended short =
      let scarce : length before - at < answer_room = rw fed_length at short in
      let waiting : waits byte (length before - at) ≡ true = rw (ended, lt-ltb _ answer_room scarce) in
      let parted : drop i part ≡ byte ∷ drop (i + 1) part = rw (add-one, is) (drop-cons part i 0 more) in
      let none = rw (parted, used_waiting r byte (drop (i + 1) part) (length before - at) waiting) at fed.used in
      omega arith

  -- what `feed` promises, once the bytes used are known
  pub fed_promised : i ≡ used_of first part (length before)
      → (i ≡ used_of first part (length before))
      × (r ≡ reader_after first (take (used_of first part (length before)) part))
      × (at ≡ length (printed_for first (take (used_of first part (length before)) part)))
      × (out ≡ printed_for first (take (used_of first part (length before)) part) ++ drop (length (printed_for first (take (used_of first part (length before)) part))) before)
  fed_promised n = rw (← n) (refl, fed.reads, fed.place, rw (← fed.place) fed.bytes)

-- ---- the bytes of a line that are there

-- a line has no more places than are kept, so no more of its bytes are there, whatever number is held
pub kept_line : (line : List ℕ) (held number : ℕ) → number ≡ min held line_kept → length line ≡ line_kept → take number line ≡ take held line
kept_line line held number is long = rw is (by_test (ltb held line_kept) refl)
  where
    by_test : (test : Bool) → ltb held line_kept ≡ test → take (min held line_kept) line ≡ take held line
    by_test true small =
        let least : min held line_kept ≡ held = omega (arith, ltb-true held line_kept small) in
        rw least
    by_test false large =
        let most : min held line_kept ≡ line_kept = omega (arith, ltb-false held line_kept large) in
        rw most (take_all line_kept line (omega arith) ∙ sym (take_all held line (omega (arith, ltb-false held line_kept large))))

-- ---- the end of the input

-- where there is the room for an answer, a newline alone is used, and prints what the end of the input prints for a line that lacks it
pub finished : (r : Reader) (room : ℕ)
    → (r.held ≡ 0 → ⊥)
    → answer_room ≤ room
    → printed_for r (take (used_of r (newline ∷ []) room) (newline ∷ [])) ≡ printed_at_end r
unfolding used_of printed_for printed_by printed_at_end
finished r room some fits = rw (le-ltb room answer_room fits, ne_eqb r.held 0 some) (append-nil _)

-- and leaves what the end of the input notes
pub finished_notes : (r : Reader) (room : ℕ)
    → (r.held ≡ 0 → ⊥)
    → answer_room ≤ room
    → (reader_after r (take (used_of r (newline ∷ []) room) (newline ∷ []))).notes ≡ noted_at_end r
unfolding used_of reader_after read_byte noted_at_end
finished_notes r room some fits = rw (le-ltb room answer_room fits, ne_eqb r.held 0 some)
