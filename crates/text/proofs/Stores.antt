-- Runs of stores, and texts written one after the other: two runs, the one behind the other, are one run. Assumes nothing.
use Prim.Native.Nat.{ℕ, suc, ◌+◌, ◌≤◌, ◌<◌}
use mathlib.Core.Path.{◌≡◌, refl, ap, sym, ◌∙◌}
use mathlib.Core.List.{List, [], ◌∷◌, ◌++◌, append-nil, append_assoc}
use native.Mathlib.Omega.{arith}
use native.Mathlib.Numerals.{add-one}
use native.Mathlib.Nat.{add-zero, add-suc, suc-add}
use lib.ListN.{take, drop, get_or, length, length-append, set}
use lib.Seq.{sets, sets-eq, length-sets, take-suc}
use Rattle.std.specs.List.{flat_map}
use Rattle.std.proofs.lemmas.List.{take-append-drop}
use Rattle.std.proofs.lemmas.Grind.{flat_map-append}
use Rattle.std.proofs.lemmas.List.Concat.{flat_map-cons}
use Rattle.std.proofs.lemmas.List.Folds.{length-flat_map-take}
use Rattle.text.specs.Text.{field_text, fields_text, written, Wrote}
use Rattle.text.specs.Writing.{Added, HasRoomFor}
use Rattle.text.specs.declared.Line.{Line}

-- a run of stores after another is one run
pub sets_append : (out : List ℕ) (at : ℕ) (text more : List ℕ)
    → sets (sets out at text) (at + length text) more ≡ sets out at (text ++ more)
sets_append out at [] more = rw add-zero
sets_append out at (byte ∷ text) more =
    ap (λ (place : ℕ). sets (sets (set out at byte) (suc at) text) place more) (add-suc at (length text) ∙ sym (suc-add at (length text)))
    ∙ sets_append (set out at byte) (suc at) text more

-- a text that is put between what stands before `at` and what stands behind `end`
pub between_wrote : (out after : List ℕ) (at end : ℕ) (text : List ℕ)
    → at + length text ≡ end
    → end ≤ length out
    → take at after ≡ take at out
    → drop at after ≡ text ++ drop end out
    → Wrote out at text after end
between_wrote out after at end text whole fits before behind =
    record {
      place = sym whole;
      bytes =
          sym (take-append-drop at after)
          ∙ rw (before, behind, ← whole, ← append_assoc) (sym (sets-eq text out at (omega arith)));
    }

-- one text after another is one text
pub next : {before middle after : Line} {text more : List ℕ}
    → Added before text middle
    → Added middle more after
    → Added before (text ++ more) after
next {before} {text = text} {more = more} first second =
    record {
      wrote = record {
        place = simp length-append (omega arith);
        bytes = second.wrote.bytes ∙ rw (first.wrote.place, first.wrote.bytes) (sets_append before.out.now before.end text more);
      };
      same_reference = second.same_reference ∙ first.same_reference;
    }

pub none_added : (line : Line) → Added line [] line
none_added line = record { wrote = record { place = omega arith; bytes = refl }; same_reference = refl }

-- where there is the room for two texts, there is the room for the first
pub room_first : (line : Line) (text more : List ℕ) → HasRoomFor line (text ++ more) → HasRoomFor line text
room_first line text more both = omega (arith, simp length-append at both)

-- behind one text there is the room for another, where there was for both
pub room_after : {before after : Line} {text : List ℕ} (more : List ℕ)
    → Added before text after
    → HasRoomFor before (text ++ more)
    → HasRoomFor after more
room_after {before} {after} {text} more added both =
    let left : length after.out.now ≡ length before.out.now = ap length added.wrote.bytes ∙ length-sets before.out.now before.end text in
    omega (arith, simp length-append at both)

fields_each : (tickets : List ℕ) → fields_text tickets ≡ flat_map field_text tickets
unfolding fields_text
fields_each [] = refl
fields_each (v ∷ rest) = ap (λ (more : List ℕ). field_text v ++ more) (fields_each rest) ∙ sym (flat_map-cons field_text v rest)

-- the first i tickets and one more are no longer than all
pub field_fits : (tickets : List ℕ) (i : ℕ)
    → i < length tickets
    → length (fields_text (take i tickets) ++ field_text (get_or tickets i 0)) ≤ length (fields_text tickets)
field_fits tickets i there =
    rw (fields_each (take i tickets), fields_each tickets, length-append) (length-flat_map-take field_text tickets i 0 there)

fields_more : (tickets : List ℕ) (v : ℕ) → fields_text (tickets ++ (v ∷ [])) ≡ fields_text tickets ++ field_text v
fields_more tickets v =
    rw (fields_each (tickets ++ (v ∷ [])), fields_each tickets, flat_map-append field_text tickets (v ∷ []), flat_map-cons field_text v [])
    (ap (λ (more : List ℕ). flat_map field_text tickets ++ more) (append-nil (field_text v)))

-- one more ticket after the first i
pub fields_take : (tickets : List ℕ) (i : ℕ)
    → i < length tickets
    → fields_text (take (i + 1) tickets) ≡ fields_text (take i tickets) ++ field_text (get_or tickets i 0)
fields_take tickets i there = rw (add-one, take-suc tickets i 0 there) (fields_more (take i tickets) (get_or tickets i 0))

-- where the text fits, the bytes are those that a reader expects
pub wrote_written : {before after : List ℕ} {at end : ℕ} {text : List ℕ}
    → Wrote before at text after end
    → end ≤ length before
    → after ≡ written before at text
unfolding written
wrote_written {before} {at = at} {text = text} wrote fits = wrote.bytes ∙ sets-eq text before at (omega arith)
