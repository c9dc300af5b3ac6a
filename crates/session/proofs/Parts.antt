-- However the input is chopped, the whole output is that of the whole input (`session_in_parts`). Assumes nothing.
use mathlib.Core.Bool.{Bool, true, false, cond}
use mathlib.Core.List.{List, [], ◌∷◌, ◌++◌, append_assoc, append-nil}
use mathlib.Core.Path.{◌≡◌, refl, sym, ap, ◌∙◌}
use Prim.Native.Nat.{ℕ, ◌+◌, ◌≤◌, ◌<◌, min}
use native.Mathlib.Numerals.{add-one}
use native.Mathlib.Omega.{arith}
use borrow.Author.Tests.{lt-ltb, ltb-true, ltb-false, leb-true, leb-false, lt-leb, eq-eqb, ne_eqb}
use lib.Dec.{eqb, leb, ltb}
use lib.ListN.{length, set, take, length-append, length-take, length-set}
use lib.Seq.{take_all, take-append-le, take-suc-set, append_snoc}
use Rattle.std.specs.Prelude.{Option, Some, None}
use Rattle.calls.specs.declared.Call.{Call}
use Rattle.lines.specs.Faults.{fault_of}
use Rattle.lines.specs.Lines.{longest_line, read_line}
use Rattle.text.specs.Text.{newline}
use Rattle.session.specs.declared.Notes.{Notes}
use Rattle.session.specs.declared.Reader.{Reader}
use Rattle.session.specs.Turns.{turn, turn_by, printed}
use Rattle.session.specs.Sessions.{lines_of, answers, session_text}
use Rattle.session.specs.Notes.{noted, noted_by, notes_of}
use Rattle.session.proofs.Feeding.{reader-append, printed-append}
use Rattle.session.specs.Stream.{line_kept, reader, line_so_far, start, with_byte, read_byte, printed_by, reader_after, printed_for, printed_at_end, noted_at_end, together, printed_in_parts, SessionInParts, NotesOfSession}

-- ---- what is kept of a line is enough

pub read_front : (line : List ℕ) → read_line (take line_kept line) ≡ read_line line
unfolding read_line
read_front line = by_length (leb (length line) longest_line) refl
  where
    by_length : (short : Bool) → leb (length line) longest_line ≡ short → read_line (take line_kept line) ≡ read_line line
    by_length true e = ap read_line (take_all line_kept line (omega (arith, leb-true (length line) longest_line e)))
    by_length false e =
        let long : longest_line < length (take line_kept line) = omega (arith, leb-false (length line) longest_line e, length-take line_kept line) in
        simp (e, lt-leb (length (take line_kept line)) longest_line long)

pub fault_front : (line : List ℕ) → fault_of (take line_kept line) ≡ fault_of line
unfolding fault_of
fault_front [] = refl
fault_front (byte ∷ bytes) = by_length (leb (length (byte ∷ bytes)) longest_line) refl
  where
    by_length : (short : Bool) → leb (length (byte ∷ bytes)) longest_line ≡ short → fault_of (take line_kept (byte ∷ bytes)) ≡ fault_of (byte ∷ bytes)
    by_length true e = ap fault_of (take_all line_kept (byte ∷ bytes) (omega (arith, leb-true (length (byte ∷ bytes)) longest_line e)))
    by_length false e =
        let long : longest_line < length (byte ∷ bytes) = leb-false (length (byte ∷ bytes)) longest_line e in
        let kept : longest_line < length (take line_kept (byte ∷ bytes)) = omega (arith, long, length-take line_kept (byte ∷ bytes)) in
        rw (lt-ltb longest_line (length (byte ∷ bytes)) long, lt-ltb longest_line (length (take line_kept (byte ∷ bytes))) kept)

-- so what is noted of it is what would be noted of the whole line
pub noted_front : (n : Notes) (line : List ℕ) → noted n (take line_kept line) ≡ noted n line
unfolding noted_by
noted_front n line = rw (read_front line) (by_said (read_line line))
  where
    by_said : (said : Option Call) → noted_by n said (take line_kept line) ≡ noted_by n said line
    by_said (Some call) = refl
    by_said None = rw (fault_front line)

-- ---- the lines of an input that begins with a line without newlines

abbrev pub Unbroken : List ℕ → Type 0
Unbroken [] = Unit {0}
Unbroken (byte ∷ line) = (eqb byte newline ≡ false) × Unbroken line

pub unbroken_snoc : (line : List ℕ) (byte : ℕ) → Unbroken line → eqb byte newline ≡ false → Unbroken (line ++ (byte ∷ []))
unbroken_snoc [] byte u e = (e, tt)
unbroken_snoc (first ∷ line) byte u e = (u.0, unbroken_snoc line byte u.1 e)

-- a newline ends it
pub lines_ended : (line : List ℕ) (byte : ℕ) (bytes : List ℕ)
    → Unbroken line
    → eqb byte newline ≡ true
    → lines_of (line ++ byte ∷ bytes) ≡ line ∷ lines_of bytes
unfolding lines_of
lines_ended [] byte bytes u e = rw e
lines_ended (first ∷ line) byte bytes u e = rw (u.0, lines_ended line byte bytes u.1 e)

-- and the end of the input, where it is not empty
pub lines_last : (first : ℕ) (line : List ℕ) → Unbroken (first ∷ line) → lines_of (first ∷ line) ≡ (first ∷ line) ∷ []
unfolding lines_of
lines_last first [] u = rw u.0
lines_last first (second ∷ line) u = rw (u.0, lines_last second line u.1)

-- ---- a reader amid a line: it holds the first bytes of what came since the last newline, as many as are kept

pub record Amid (r : Reader) (line : List ℕ) : Type 0 where
  pub unbroken : Unbroken line
  pub front : line_so_far r ≡ take line_kept line
  pub count : r.held ≡ min line_kept (length line)
  pub places : length r.line ≡ line_kept

pub amid_turn : (r : Reader) (line : List ℕ) → Amid r line → turn r.desk (line_so_far r) ≡ turn r.desk line
amid_turn r line amid = ap (λ (said : Option Call). turn_by r.desk said) (ap read_line amid.front ∙ read_front line)

pub at-start : Amid start []
unfolding start
at-start = record { unbroken = tt; front = refl; count = refl; places = refl }

module _ (r : Reader) (line : List ℕ) (byte : ℕ) (amid : Amid r line) where
  pub amid_newline : eqb byte newline ≡ true → Amid (read_byte r byte) []
  unfolding read_byte
  amid_newline e = rw e (record { unbroken = tt; front = refl; count = refl; places = amid.places })

  pub amid_other : eqb byte newline ≡ false → Amid (read_byte r byte) (line ++ (byte ∷ []))
  unfolding read_byte
  amid_other e = rw e (by_room (ltb r.held line_kept) refl)
    where
      longer : length (line ++ (byte ∷ [])) ≡ length line + 1
      longer = length-append line (byte ∷ [])

      by_room : (room : Bool) → ltb r.held line_kept ≡ room → Amid (with_byte r byte) (line ++ (byte ∷ []))
      by_room true t =
          let here : r.held < length r.line = omega (arith, ltb-true r.held line_kept t, amid.places) in
          let whole : length line ≤ longest_line = omega (arith, ltb-true r.held line_kept t, amid.count) in
          rw t
          (record {
            unbroken = unbroken_snoc line byte amid.unbroken e;
            front =
                ap (λ (n : ℕ). take n (set r.line r.held byte)) (add-one r.held)
                ∙ take-suc-set r.line r.held byte here
                ∙ ap (λ (l : List ℕ). l ++ (byte ∷ [])) (amid.front ∙ take_all line_kept line (omega arith))
                ∙ sym (take_all line_kept (line ++ (byte ∷ [])) (omega (arith, longer)));
            count = omega (arith, longer, amid.count);
            places = length-set r.line r.held byte ∙ amid.places;
          })
      by_room false t =
          let long : line_kept ≤ length line = omega (arith, ltb-false r.held line_kept t, amid.count) in
          rw t
          (record {
            unbroken = unbroken_snoc line byte amid.unbroken e;
            front = amid.front ∙ sym (take-append-le line_kept line (byte ∷ []) long);
            count = omega (arith, longer, amid.count);
            places = amid.places;
          })

-- ---- the bytes that are left, from amid a line

same_desk : (room : Bool) (r : Reader) (line : List ℕ) (held : ℕ) → (cond room (reader r.desk line held r.notes) r).desk ≡ r.desk
same_desk true r line held = refl
same_desk false r line held = refl

pub at-end : (r : Reader) (line : List ℕ) → Amid r line → printed_at_end r ≡ answers r.desk (lines_of line)
unfolding printed_at_end answers lines_of
at-end r [] amid = rw (eq-eqb r.held 0 amid.count)
at-end r (first ∷ line) amid =
    let some : eqb r.held 0 ≡ false = ne_eqb r.held 0 (λ (none : r.held ≡ 0). omega (arith, amid.count)) in
    rw (some, lines_last first line amid.unbroken)
    (ap printed (amid_turn r (first ∷ line) amid) ∙ sym (append-nil (printed (turn r.desk (first ∷ line)))))

pub rest_of_session : (bytes : List ℕ) (r : Reader) (line : List ℕ)
    → Amid r line
    → printed_for r bytes ++ printed_at_end (reader_after r bytes) ≡ answers r.desk (lines_of (line ++ bytes))
unfolding printed_for reader_after read_byte printed_by answers
rest_of_session [] r line amid = rw append-nil (at-end r line amid)
rest_of_session (byte ∷ bytes) r line amid =
    append_assoc (printed_by r byte) _ _ ∙ by_byte (eqb byte newline) refl (rest_of_session bytes (read_byte r byte))
  where
    by_byte : (ended : Bool)
        → eqb byte newline ≡ ended
        → ((next : List ℕ)
        → Amid (read_byte r byte) next
        → printed_for (read_byte r byte) bytes ++ printed_at_end (reader_after (read_byte r byte) bytes)
        ≡ answers (read_byte r byte).desk (lines_of (next ++ bytes)))
        → printed_by r byte ++ (printed_for (read_byte r byte) bytes ++ printed_at_end (reader_after (read_byte r byte) bytes))
        ≡ answers r.desk (lines_of (line ++ byte ∷ bytes))
    by_byte true e rest =
        rw (rest [] (amid_newline r line byte amid e), lines_ended line byte bytes amid.unbroken e, e, amid_turn r line amid)
    by_byte false e rest =
        rw (rest (line ++ (byte ∷ [])) (amid_other r line byte amid e), append_snoc line byte bytes, e, same_desk)

-- ---- what is noted of them

amid_noted : (r : Reader) (line : List ℕ) → Amid r line → noted r.notes (line_so_far r) ≡ noted r.notes line
amid_noted r line amid = ap (noted r.notes) amid.front ∙ noted_front r.notes line

same-notes : (room : Bool) (r : Reader) (line : List ℕ) (held : ℕ) → (cond room (reader r.desk line held r.notes) r).notes ≡ r.notes
same-notes true r line held = refl
same-notes false r line held = refl

notes_at_end_lem : (r : Reader) (line : List ℕ) → Amid r line → noted_at_end r ≡ notes_of r.notes (lines_of line)
unfolding noted_at_end notes_of lines_of
notes_at_end_lem r [] amid = rw (eq-eqb r.held 0 amid.count)
notes_at_end_lem r (first ∷ line) amid =
    let some : eqb r.held 0 ≡ false = ne_eqb r.held 0 (λ (none : r.held ≡ 0). omega (arith, amid.count)) in
    rw (some, lines_last first line amid.unbroken) (amid_noted r (first ∷ line) amid)

rest_of_notes : (bytes : List ℕ) (r : Reader) (line : List ℕ)
    → Amid r line
    → noted_at_end (reader_after r bytes) ≡ notes_of r.notes (lines_of (line ++ bytes))
unfolding reader_after read_byte notes_of
rest_of_notes [] r line amid = rw append-nil (notes_at_end_lem r line amid)
rest_of_notes (byte ∷ bytes) r line amid = by_byte (eqb byte newline) refl (rest_of_notes bytes (read_byte r byte))
  where
    by_byte : (ended : Bool)
        → eqb byte newline ≡ ended
        → ((next : List ℕ)
        → Amid (read_byte r byte) next
        → noted_at_end (reader_after (read_byte r byte) bytes) ≡ notes_of (read_byte r byte).notes (lines_of (next ++ bytes)))
        → noted_at_end (reader_after (read_byte r byte) bytes) ≡ notes_of r.notes (lines_of (line ++ byte ∷ bytes))
    by_byte true e rest =
        rw (rest [] (amid_newline r line byte amid e), lines_ended line byte bytes amid.unbroken e, e, amid_noted r line amid)
    by_byte false e rest =
        rw (rest (line ++ (byte ∷ [])) (amid_other r line byte amid e), append_snoc line byte bytes, e, same-notes)

pub notes_of_session : NotesOfSession
unfolding start
notes_of_session input = rest_of_notes input start [] at-start

-- ---- the parts one after the other

pub parts_together : (parts : List (List ℕ)) (r : Reader)
    → printed_in_parts r parts ≡ printed_for r (together parts) ++ printed_at_end (reader_after r (together parts))
unfolding printed_in_parts together printed_for reader_after
parts_together [] r = refl
parts_together (part ∷ parts) r =
    ap (λ (text : List ℕ). printed_for r part ++ text) (parts_together parts (reader_after r part))
    ∙ rw (printed-append r part (together parts), reader-append r part (together parts)) (sym (append_assoc (printed_for r part) _ _))

-- the whole input at once, and its end
pub session_at_once : (input : List ℕ) → printed_for start input ++ printed_at_end (reader_after start input) ≡ session_text input
unfolding session_text start
session_at_once input = rest_of_session input start [] at-start

pub session_in_parts : SessionInParts
session_in_parts parts = parts_together parts start ∙ session_at_once (together parts)
