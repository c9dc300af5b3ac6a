-- A part of the input that is fed piece by piece, what a read makes of an input that is heard part by part, and its end. Assumes nothing.
use mathlib.Core.Bool.{Bool, true, false, cond, false≢true}
use mathlib.Core.Logic.{◌⊎◌, ⊎_elim}
use mathlib.Core.List.{List, [], ◌∷◌, ◌++◌, append-nil, append_assoc}
use mathlib.Core.Path.{◌≡◌, refl, ap, sym, subst, ◌∙◌}
use Prim.Native.Nat.{ℕ, suc, ◌+◌, ◌-◌, ◌≤◌, ◌<◌}
use native.Mathlib.Omega.{arith}
use lib.Dec.{eqb, ltb}
use lib.ListN.{length, take, drop, length-append, take-append-drop}
use lib.Seq.{length-take-le}
use borrow.Author.Tests.{eqb-false, eqb-true, le-ltb, ltb-false, ne_eqb}
use Rattle.std.specs.Prelude.{Option, Result, Ok, Err, min}
use Rattle.std.specs.Io.KnownBytes.{Appends, Consumes, IsAtEnd, Keeps, ReadConsumes}
use Rattle.std.proofs.lemmas.List.{nil_from_length, take_min}
use Rattle.std.proofs.KnownBytes.{Appends-kept, Appends-nil, Appends-trans, Consumes-kept, Consumes-nil, Consumes-trans}
use Rattle.text.specs.Text.{answer_room}
use Rattle.session.specs.declared.Reader.{Reader}
use Rattle.session.specs.declared.Notes.{Notes}
use Rattle.session.specs.Notes.{counted_to, largest_count, none_yet, notes_of}
use Rattle.session.specs.Sessions.{lines_of, session_text}
use Rattle.session.specs.Stream.{noted_at_end, notes_at_end, printed_at_end, printed_for, reader_after, start, used_of, written_at_end}
use Rattle.session.proofs.Parts.{notes_of_session, session_at_once}
use Rattle.talk.specs.declared.Failure.{Failure}
use Rattle.talk.specs.declared.Heard.{Heard}
use Rattle.talk.specs.Talk.{ComesTo, Concludes, Cut, HeardWhole, Gave, HeardWriting, Hears, HearsBy, HearsWriting, SpokenWriting, ConcludesWriting, Taken, WroteSome, clamp_len, ended, goes_on, is_zero, none_heard, read_failed, too_much, write_failed}
use Rattle.session.proofs.Feeding.{printed-append, reader-append}
use Rattle.session.proofs.Room.{used_fits, used_some}
use Rattle.talk.proofs.Writing.{some_kept, some_of, some_on}

used_any : (bytes : List ℕ) (r : Reader) (room : ℕ) → answer_room ≤ room → 0 < length bytes → 0 < used_of r bytes room
used_any [] r room enough none = omega arith
used_any (byte ∷ bytes) r room enough some = used_some byte bytes r room enough

-- no more bytes came than there is room for
pub clamped_le : {E : Type 0} (got : Result ℕ E) (most : ℕ) → clamp_len got most ≤ most
clamped_le (Ok n) most = omega arith
clamped_le (Err e) most = omega arith

-- some of a part was told: of the reader, and of what is printed, what is left of the part makes what the whole part makes of the first
pub record Tells (first : Heard) (part : List ℕ) (now : Heard) (rest : List ℕ) (w₀ w : Option (List ℕ)) : Type 0 where
  pub so_far : List ℕ
  pub bytes : now.bytes ≡ first.bytes
  pub reads : reader_after first.reader part ≡ reader_after now.reader rest
  pub prints : printed_for first.reader part ≡ so_far ++ printed_for now.reader rest
  pub takes : now.taken ≡ counted_to first.taken (length so_far)
  pub wrote : Appends w₀ w so_far

pub tells_none : (first : Heard) (part : List ℕ) (w : Option (List ℕ)) → first.taken ≤ largest_count → Tells first part first part w w
tells_none first part w few = record { so_far = []; bytes = refl; reads = refl; prints = refl; takes = omega arith; wrote = Appends-nil w }

module _ (first : Heard) (part : List ℕ) (now : Heard) (rest : List ℕ) (w₀ w : Option (List ℕ)) (tells : Tells first part now rest w₀ w) where
  -- with the room for an answer, some of what is left is used, and no more than that
  pub left_used : (used room : ℕ) → (length rest ≡ 0 → ⊥) → answer_room ≤ room → used ≡ used_of now.reader rest room → (0 < used) × (used ≤ length rest)
  left_used used room more enough uses = (
    (let some : 0 < used_of now.reader rest room = used_any rest now.reader room enough (omega (arith, more)) in omega (arith, some)),
    used_fits rest now.reader room uses,
  )

  module _ (used : ℕ) (after : Heard) (w' : Option (List ℕ)) where
    -- the answers to the piece that is fed next, and those to what is left then
    abbrev text : List ℕ
    text = printed_for now.reader (take used rest)

    abbrev last : List ℕ
    last = printed_for (reader_after now.reader (take used rest)) (drop used rest)

    printed_on : printed_for first.reader part ≡ (tells.so_far ++ text) ++ last
    printed_on =
        tells.prints
        ∙ ap (λ (l : List ℕ). tells.so_far ++ printed_for now.reader l) (sym (take-append-drop used rest))
        ∙ ap (λ (l : List ℕ). tells.so_far ++ l) (printed-append now.reader (take used rest) (drop used rest))
        ∙ sym (append_assoc tells.so_far text last)

    -- with all its answers taken
    pub tells_more : after.bytes ≡ now.bytes → after.reader ≡ reader_after now.reader (take used rest) → Taken now.taken text after.taken → Appends w w' text
        → Tells first part after (drop used rest) w₀ w'
    tells_more bytes reads takes wrote = record {
      so_far = tells.so_far ++ text;
      bytes = bytes ∙ tells.bytes;
      reads =
          tells.reads
          ∙ ap (reader_after now.reader) (sym (take-append-drop used rest))
          ∙ reader-append now.reader (take used rest) (drop used rest)
          ∙ ap (λ (s : Reader). reader_after s (drop used rest)) (sym reads);
      prints = printed_on ∙ ap (λ (s : Reader). (tells.so_far ++ text) ++ printed_for s (drop used rest)) (sym reads);
      takes = omega (arith, takes, tells.takes, length-append tells.so_far text);
      wrote = Appends-trans w₀ w w' tells.so_far text tells.wrote wrote;
    }

    -- with some of them not taken
    pub tells_cut : Cut now.taken text after.taken → Cut first.taken (printed_for first.reader part) after.taken
    tells_cut cut = (
      length tells.so_far + cut.0,
      omega (arith, cut.1, ap length printed_on, length-append (tells.so_far ++ text) last, length-append tells.so_far text),
      omega (arith, cut.2, tells.takes),
    )

    pub tells_some : WroteSome w w' text → WroteSome w₀ w' (printed_for first.reader part)
    tells_some cut = rw printed_on (some_of w₀ w' (tells.so_far ++ text) last (some_on w₀ w w' tells.so_far text tells.wrote cut))

  -- the whole part, once no byte of it is left
  module _ (none : length rest ≡ 0) where
    told : printed_for first.reader part ≡ tells.so_far
    unfolding printed_for
    told =
        tells.prints
        ∙ ap (λ (l : List ℕ). tells.so_far ++ printed_for now.reader l) (nil_from_length rest none)
        ∙ append-nil tells.so_far

    pub tells_all : (now.bytes ≡ first.bytes) × (now.reader ≡ reader_after first.reader part) × Taken first.taken (printed_for first.reader part) now.taken
    unfolding reader_after
    tells_all = (
      tells.bytes,
      sym (tells.reads ∙ ap (reader_after now.reader) (nil_from_length rest none)),
      omega (arith, tells.takes, ap length told),
    )

    pub tells_wrote : Appends w₀ w (printed_for first.reader part)
    tells_wrote = rw told tells.wrote

-- ---- what a read has answered

-- what a read has brought is gone from the reader, and at the end nothing is left there
read_gave : {E : Type 0} (got : Result ℕ E) (input : List ℕ) (r₁ r₂ : Option (List ℕ)) → ReadConsumes r₁ r₂ got input
    → Consumes r₁ r₂ (take (clamp_len got (length input)) input)
read_gave (Ok n) input r₁ r₂ reads = subst (λ (l : List ℕ). Consumes r₁ r₂ l) (sym (take_min n input)) reads.0
read_gave (Err e) input r₁ r₂ keeps = Consumes-kept r₁ r₁ r₂ [] (Consumes-nil r₁) keeps

read_end : {E : Type 0} (got : Result ℕ E) (input : List ℕ) (r₁ r₂ : Option (List ℕ)) → ReadConsumes r₁ r₂ got input → is_zero got ≡ true → 0 < length input
    → IsAtEnd r₂
read_end (Ok n) input r₁ r₂ reads z some = reads.1 (eqb-true n 0 z) some
read_end (Err e) input r₁ r₂ keeps z some = absurd (false≢true z)

zero_came : {E : Type 0} (got : Result ℕ E) (most : ℕ) → is_zero got ≡ true → clamp_len got most ≡ 0
zero_came (Ok n) most z = omega (arith, eqb-true n 0 z)
zero_came (Err e) most z = absurd (false≢true z)

-- a part that came, and can be counted, is heard as its answers were taken
pub hears_part : {E : Type 0} (before : Heard) (got : Result ℕ E) (input : List ℕ) (how : Result Bool Failure) (after : Heard) (read count : ℕ)
    → got ≡ Ok read
    → (read ≡ 0 → ⊥)
    → (length input ≡ 0 → ⊥)
    → count ≡ min read (length input)
    → before.bytes + count ≤ largest_count
    → after.bytes ≡ before.bytes + count
    → ((how ≡ goes_on) × (after.reader ≡ reader_after before.reader (take count input)) × Taken before.taken (printed_for before.reader (take count input)) after.taken)
    ⊎ ((how ≡ write_failed) × Cut before.taken (printed_for before.reader (take count input)) after.taken)
    → Hears before got input how after
unfolding Hears
hears_part before got input how after read count is came room least few bytes told =
    let some : count ≡ 0 → ⊥ = omega (arith, came, room, least) in
    let long = length-take-le count input (omega (arith, least)) in
    rw (is, ← least, ne_eqb read 0 came, ne_eqb count 0 some, le-ltb largest_count (before.bytes + count) few) (omega (arith, bytes, long), told)

-- all that was read was answered, and all its answers were taken
abbrev pub HeardAll : Heard → List ℕ → Type 0
HeardAll heard all = (length all ≡ heard.bytes) × (heard.reader ≡ reader_after start all) × Taken 0 (printed_for start all) heard.taken

pub none_all : HeardAll none_heard []
unfolding reader_after printed_for
none_all = (refl, refl, refl)

module _ {E : Type 0} (before : Heard) (got : Result ℕ E) (input : List ℕ) (how : Result Bool Failure) (after : Heard) where
  abbrev came : ℕ
  came = clamp_len got (length input)

  abbrev part : List ℕ
  part = take came input

  -- a part more was answered whole, or not
  abbrev Went : Type 0
  Went = (how ≡ goes_on) × (after.reader ≡ reader_after before.reader part) × Taken before.taken (printed_for before.reader part) after.taken

  abbrev Failed : Type 0
  Failed = (how ≡ write_failed) × Cut before.taken (printed_for before.reader part) after.taken

  -- the input so far was answered, and with what came of the next read it is so again; with it what is known of the bytes that the reader has left and
  -- of those that the writer holds: at the start, before this read, and after it
  module _ (all : List ℕ) (whole : HeardAll before all) (r₀ r₁ r₂ w₀ w₁ w₂ : Option (List ℕ))
      (gave : Consumes r₀ r₁ all) (reads : ReadConsumes r₁ r₂ got input)
      (wrote : Appends w₀ w₁ (printed_for start all)) (writes : HearsWriting how w₁ w₂ (printed_for before.reader part)) where
    abbrev HeardBytes : List ℕ → Type 0
    HeardBytes more =
        HeardWhole how after more
        × ((how ≡ too_much → ⊥) → Consumes r₀ r₂ more)
        × (0 < length input → how ≡ ended → IsAtEnd r₂)
        × HeardWriting how w₀ w₂ more

    printed_more : printed_for start (all ++ part) ≡ printed_for start all ++ printed_for before.reader part
    printed_more = printed-append start all part ∙ ap (λ (s : Reader). printed_for start all ++ printed_for s part) (sym whole.1)

    longer : length (printed_for start (all ++ part)) ≡ length (printed_for start all) + length (printed_for before.reader part)
    longer = ap length printed_more ∙ length-append (printed_for start all) _

    gave_on : Consumes r₀ r₂ (all ++ part)
    gave_on = Consumes-trans r₀ r₁ r₂ all part gave (read_gave got input r₁ r₂ reads)

    -- where nothing came, or what came could not be counted
    stays : (end : Result Bool Failure) → ComesTo end before how after → (end ≡ write_failed → ⊥) → (end ≡ goes_on → ⊥)
        → ((end ≡ too_much → ⊥) → Consumes r₀ r₂ all)
        → (0 < length input → end ≡ ended → IsAtEnd r₂)
        → HeardBytes all
    stays end is other over still left =
        let nothing : Keeps w₁ w₂ = writes.2 (λ e. over (sym is.0 ∙ e)) (λ e. other (sym is.0 ∙ e)) in (
          rw is.1 (whole.0, λ e. absurd (other (sym is.0 ∙ e)), λ e. (whole.1, whole.2)),
          λ counted. still (λ e. counted (is.0 ∙ e)),
          λ some e. left some (sym is.0 ∙ e),
          (λ e. absurd (other (sym is.0 ∙ e)), λ e. Appends-kept w₀ w₁ w₂ _ wrote nothing),
        )

    goes : after.bytes ≡ before.bytes + length part → Went → HeardBytes (all ++ part)
    goes bytes went = (
      (
        length-append all part ∙ omega (arith, bytes, whole.0),
        λ e. absurd (cc (e, went.0)),
        λ e. (
          went.1 ∙ ap (λ (s : Reader). reader_after s part) whole.1 ∙ sym (reader-append start all part),
          omega (arith, went.2, whole.2, longer),
        ),
      ),
      λ counted. gave_on,
      λ some e. absurd (cc (e, went.0)),
      (λ e. absurd (cc (e, went.0)), λ e. rw printed_more (Appends-trans w₀ w₁ w₂ _ _ wrote (writes.0 went.0))),
    )

    fails : after.bytes ≡ before.bytes + length part → Failed → HeardBytes (all ++ part)
    fails bytes failed = (
      (
        length-append all part ∙ omega (arith, bytes, whole.0),
        λ e. (length (printed_for start all) + failed.1.0, omega (arith, failed.1.1, longer), omega (arith, failed.1.2, whole.2)),
        λ e. absurd (e failed.0),
      ),
      λ counted. gave_on,
      λ some e. absurd (cc (e, failed.0)),
      (λ e. rw printed_more (some_on w₀ w₁ w₂ _ _ wrote (writes.1 failed.0)), λ e. absurd (e failed.0)),
    )

    none_came : came ≡ 0 → Consumes r₀ r₂ all
    none_came none =
        let nothing : part ≡ [] = ap (λ (n : ℕ). take n input) none in
        subst (λ (l : List ℕ). Consumes r₀ r₂ l) (ap (λ (l : List ℕ). all ++ l) nothing ∙ append-nil all) gave_on

    by_tests : (zero none uncounted : Bool) → is_zero got ≡ zero → eqb came 0 ≡ none → HearsBy zero none uncounted before part how after → (more : List ℕ) × HeardBytes more
    by_tests true none uncounted z n is =
        (all, stays ended is (λ e. cc) (λ e. cc) (λ counted. none_came (zero_came got (length input) z)) (λ some e. read_end got input r₁ r₂ reads z some))
    by_tests false true uncounted z n is =
        (all, stays read_failed is (λ e. cc) (λ e. cc) (λ counted. none_came (eqb-true came 0 n)) (λ some e. absurd (cc)))
    by_tests false false true z n is =
        (all, stays too_much is (λ e. cc) (λ e. cc) (λ counted. absurd (counted refl)) (λ some e. absurd (cc)))
    by_tests false false false z n went = (all ++ part, ⊎_elim (goes went.0) (fails went.0) went.1)

    pub heard_more : Hears before got input how after → (more : List ℕ) × HeardBytes more
    unfolding Hears
    heard_more hears = by_tests (is_zero got) (eqb came 0) (ltb largest_count (before.bytes + came)) refl refl hears

  counts : (zero none uncounted : Bool)
      → how ≡ goes_on
      → eqb came 0 ≡ none
      → ltb largest_count (before.bytes + came) ≡ uncounted
      → HearsBy zero none uncounted before part how after
      → (before.bytes < after.bytes) × (after.bytes ≤ largest_count)
  counts true none uncounted on n u is = absurd (cc (on, is.0))
  counts false true uncounted on n u is = absurd (cc (on, is.0))
  counts false false true on n u is = absurd (cc (on, is.0))
  counts false false false on n u went =
      let some : came ≡ 0 → ⊥ = eqb-false came 0 n in
      let few : before.bytes + came ≤ largest_count = ltb-false largest_count (before.bytes + came) u in
      let long : length part ≡ came = length-take-le came input (clamped_le got (length input)) in
      (omega (arith, went.0, some, long), omega (arith, went.0, few, long))

  -- where the session goes on, more bytes were counted
  more_counted : how ≡ goes_on → Hears before got input how after → (before.bytes < after.bytes) × (after.bytes ≤ largest_count)
  unfolding Hears
  more_counted on hears = counts (is_zero got) (eqb came 0) (ltb largest_count (before.bytes + came)) on refl refl hears

-- while the session goes on, so many bytes are left to be counted
abbrev pub left_to_count : Result Bool Failure → Heard → ℕ
left_to_count (Ok goes) heard = cond goes (suc (largest_count - heard.bytes)) 0
left_to_count (Err why) heard = 0

-- and after a read fewer are left
pub less_to_count : {E : Type 0} (before : Heard) (got : Result ℕ E) (input : List ℕ) (how : Result Bool Failure) (after : Heard) → Hears before got input how after
    → left_to_count how after < left_to_count goes_on before
less_to_count before got input (Ok true) after hears = let more = more_counted before got input goes_on after refl hears in omega (arith, more.0, more.1)
less_to_count before got input (Ok false) after hears = omega arith
less_to_count before got input (Err why) after hears = omega arith

-- ---- the end of the input

-- the text of a session is that of its input as it was read, and then that of its end
session_text_lem : (all : List ℕ) → length (session_text all) ≡ length (printed_for start all) + length (printed_at_end (reader_after start all))
session_text_lem all = sym (ap length (session_at_once all)) ∙ length-append (printed_for start all) _

-- with the room for an answer, all of the end is written
pub end_written : (r : Reader) (room : ℕ) → answer_room ≤ room → written_at_end r room ≡ printed_at_end r
end_written r room enough = rw (le-ltb room answer_room enough) refl

pub cut_before_end : (all : List ℕ) (taken : ℕ) → Cut 0 (printed_for start all) taken → Cut 0 (session_text all) taken
cut_before_end all taken cut = (cut.0, omega (arith, cut.1, session_text_lem all), cut.2)

module _ (all : List ℕ) (r : Reader) (taken after : ℕ) (reads : r ≡ reader_after start all) (takes : Taken 0 (printed_for start all) taken) where
  end_text : length (printed_at_end r) ≡ length (printed_at_end (reader_after start all))
  end_text = ap (λ (s : Reader). length (printed_at_end s)) reads

  -- with the last answer taken, what was told is the session of the whole input
  pub spoken : Taken taken (printed_at_end r) after → Taken 0 (session_text all) after
  spoken whole = omega (arith, session_text_lem all, end_text, takes, whole)

  -- with some of it not taken
  pub spoken_cut : Cut taken (printed_at_end r) after → Cut 0 (session_text all) after
  spoken_cut cut = (length (printed_for start all) + cut.0, omega (arith, cut.1, session_text_lem all, end_text), omega (arith, cut.2, takes))

  -- and what was noted is noted of all its lines
  pub spoken_notes : (notes : Notes) (room : ℕ) → answer_room ≤ room → notes ≡ notes_at_end r room → notes ≡ notes_of none_yet (lines_of all)
  spoken_notes notes room enough noted = noted ∙ rw (le-ltb room answer_room enough) (ap noted_at_end reads ∙ notes_of_session all)

-- a failure is one of whatever was to come
pub failed_whole : {S T : Type 0} (why : Failure) (heard : Heard) (all : List ℕ) → HeardWhole {T = S} (Err why) heard all → HeardWhole {T = T} (Err why) heard all
failed_whole why heard all whole = (whole.0, λ e. whole.1 (cc e), λ other. whole.2 (λ e. other (cc e)))

pub failed_writing : {S T : Type 0} (why : Failure) (w₀ w₁ : Option (List ℕ)) (all : List ℕ) → HeardWriting {T = S} (Err why) w₀ w₁ all
    → HeardWriting {T = T} (Err why) w₀ w₁ all
failed_writing why w₀ w₁ all wrote = (λ e. wrote.0 (cc e), λ other. wrote.1 (λ e. other (cc e)))

-- what is known of the bytes of the reader and of the writer, at the start, after what was heard, and at the end
pub spoken_bytes : {S T : Type 0} (heard : Result S Failure) (end : Result T Failure) (all : List ℕ) (h : Heard) (room : ℕ) (r₀ r₁ w₀ w₁ w₂ : Option (List ℕ))
    → HeardWhole heard h all
    → Gave room heard r₀ r₁ all
    → HeardWriting heard w₀ w₁ all
    → Concludes heard end
    → ConcludesWriting heard end w₁ w₂ (printed_at_end h.reader)
    → Gave room end r₀ r₁ all × SpokenWriting end w₀ w₂ all
spoken_bytes (Ok x) (Ok y) all h room r₀ r₁ w₀ w₁ w₂ whole gave wrote concludes closes =
    let told = whole.2 (λ e. cc) in
    let done : Appends w₀ w₁ (printed_for start all) = wrote.1 (λ e. cc) in
    let text : printed_for start all ++ printed_at_end h.reader ≡ session_text all
    = ap (λ (s : Reader). printed_for start all ++ printed_at_end s) told.0 ∙ session_at_once all in (
      (λ counted. gave.0 (λ e. cc), λ some ok. gave.1 some refl),
      (
        λ ok. subst (λ (l : List ℕ). Appends w₀ w₂ l) text (Appends-trans w₀ w₁ w₂ _ _ done (closes.0 refl refl)),
        λ e. absurd (cc),
        λ e. absurd (false≢true e),
      ),
    )
spoken_bytes (Ok x) (Err why) all h room r₀ r₁ w₀ w₁ w₂ whole gave wrote concludes closes =
    let told = whole.2 (λ e. cc) in
    let done : Appends w₀ w₁ (printed_for start all) = wrote.1 (λ e. cc) in
    let text : printed_for start all ++ printed_at_end h.reader ≡ session_text all
    = ap (λ (s : Reader). printed_for start all ++ printed_at_end s) told.0 ∙ session_at_once all in (
      (λ counted. gave.0 (λ e. cc), λ some ok. absurd (false≢true ok)),
      (
        λ ok. absurd (false≢true ok),
        λ failed. subst (λ (l : List ℕ). WroteSome w₀ w₂ l) text (some_on w₀ w₁ w₂ _ _ done (closes.1 refl failed)),
        λ e other. absurd (⊎_elim false≢true other (concludes.0 refl)),
      ),
    )
spoken_bytes (Err why) (Ok y) all h room r₀ r₁ w₀ w₁ w₂ whole gave wrote concludes closes = absurd (cc (concludes.1))
spoken_bytes (Err why) (Err e) all h room r₀ r₁ w₀ w₁ w₂ whole gave wrote concludes closes =
    let nothing : Keeps w₁ w₂ = closes.2 refl in
    let same : e ≡ why = cc (concludes.1) in (
      (λ counted. gave.0 (λ much. counted (cc (same, much))), λ some ok. absurd (false≢true ok)),
      (
        λ ok. absurd (false≢true ok),
        λ failed. subst (λ (l : List ℕ). WroteSome w₀ w₂ l) (session_at_once all) (some_of w₀ w₂ _ _ (some_kept w₀ w₁ w₂ _ (wrote.0 (cc (same, failed))) nothing)),
        λ err other. Appends-kept w₀ w₁ w₂ _ (wrote.1 (λ failed. other (cc (same, failed)))) nothing,
      ),
    )
