-- What the session program promises. No contract of the system says which bytes a read brings or a write takes: what is said here is said of the
-- input that was read, whatever it was, and of how many bytes the system has said that it took. Assumes nothing.
use Rattle.std.specs.Prelude.{Bool, true, false, List, ◌⊎◌, ◌≡◌, ◌≢◌, ℕ, ◌+◌, ◌<◌, ◌≤◌, eqb, ltb, length, min, take, Result, Ok, Err, IfErr, IfOk, IsErr, IsOk}
use Rattle.std.specs.Io.KnownBytes.{Appends, Consumes, IsAtEnd, Keeps}
use Rattle.std.specs.IoError.{error_kind}
use Rattle.std.specs.declared.io.Error.{Error}
use Rattle.std.specs.declared.io.ErrorKind.TheVariants.{Interrupted, WouldBlock}
use Rattle.std.specs.declared.option.Option.{Option}
use Rattle.session.specs.declared.Notes.{Notes}
use Rattle.session.specs.Notes.{counted_to, largest_count, none_yet, notes_of}
use Rattle.session.specs.Sessions.{lines_of, session_text}
use Rattle.session.specs.Stream.{printed_for, reader_after, start}
use Rattle.talk.specs.declared.Failure.{Failure}
use Rattle.talk.specs.declared.Failure.TheVariants.{ReadFailed, TooMuch, WriteFailed}
use Rattle.talk.specs.declared.Heard.{Heard}

-- so many bytes of a text are at its front, and they are as many
abbrev pub IsPrefixLen : ℕ → List ℕ → Type 0
IsPrefixLen n text = (n ≤ length text) × (n ≡ length (take n text))

-- a call that failed so is not to be made again: it was not interrupted, and its end was ready
abbrev pub IsFinal : Error → Type 0
IsFinal error = (error_kind error ≢ Interrupted) × (error_kind error ≢ WouldBlock)

-- before anything was read
abbrev pub none_heard : Heard
none_heard = record { reader = start; taken = 0; bytes = 0 }

-- what a session came to: it goes on, its input has ended, a read has failed, a write has failed, or no number could count the bytes of its input. Of a
-- session that was heard to where it stops, `Ok` says that its input has ended
abbrev pub goes_on : Result Bool Failure
goes_on = Ok true

abbrev pub ended : Result Bool Failure
ended = Ok false

abbrev pub read_failed : {T : Type 0} → Result T Failure
read_failed = Err ReadFailed

abbrev pub write_failed : {T : Type 0} → Result T Failure
write_failed = Err WriteFailed

abbrev pub too_much : {T : Type 0} → Result T Failure
too_much = Err TooMuch

-- with so many bytes taken before, a text was taken whole; or only some of its bytes were. Counts stay at the largest number of 64 bits
abbrev pub Taken : ℕ → List ℕ → ℕ → Type 0
Taken before text taken = taken ≡ counted_to before (length text)

abbrev pub Cut : ℕ → List ℕ → ℕ → Type 0
Cut before text taken = (some : ℕ) × (some < length text) × (taken ≡ counted_to before some)

-- answers are told as written where all their bytes were taken, and as not written only where some were not; nothing more is read
abbrev pub Writes : {T : Type 0} → Heard → List ℕ → Result T Failure → Heard → Type 0
Writes before text (Ok _) after = (after.reader ≡ before.reader) × (after.bytes ≡ before.bytes) × Taken before.taken text after.taken
Writes before text (Err why) after =
    (after.reader ≡ before.reader) × (after.bytes ≡ before.bytes) × (why ≡ WriteFailed) × Cut before.taken text after.taken

-- a part of the input is told as whole where all of it was read and all its answers were taken, and as not whole only where some were not taken. Its
-- bytes are counted before it is told
abbrev pub Answers : {T : Type 0} → Heard → List ℕ → Result T Failure → Heard → Type 0
Answers before part (Ok _) after =
    (after.bytes ≡ before.bytes) × (after.reader ≡ reader_after before.reader part) × Taken before.taken (printed_for before.reader part) after.taken
Answers before part (Err why) after = (after.bytes ≡ before.bytes) × (why ≡ WriteFailed) × Cut before.taken (printed_for before.reader part) after.taken

-- ---- what a read has answered, and what it makes of the session

-- nothing more is read or answered
abbrev pub ComesTo : Result Bool Failure → Heard → Result Bool Failure → Heard → Type 0
ComesTo end before how after = (how ≡ end) × (after ≡ before)

-- a part more: the session goes on where all its answers were taken, and a write has failed only where some were not
abbrev pub GoesOn : Heard → List ℕ → Result Bool Failure → Heard → Type 0
GoesOn before part how after =
    (after.bytes ≡ before.bytes + length part)
    × (((how ≡ goes_on) × (after.reader ≡ reader_after before.reader part) × Taken before.taken (printed_for before.reader part) after.taken)
    ⊎ ((how ≡ write_failed) × Cut before.taken (printed_for before.reader part) after.taken))

abbrev pub is_zero : {E : Type 0} → Result ℕ E → Bool
is_zero (Ok n) = eqb n 0
is_zero (Err e) = false

-- how many bytes came, of at most so many
abbrev pub clamp_len : {E : Type 0} → Result ℕ E → ℕ → ℕ
clamp_len (Ok n) most = min n most
clamp_len (Err e) most = 0

-- by whether it answered 0, whether no bytes came though it did not, and whether they cannot be counted
abbrev pub HearsBy : Bool → Bool → Bool → Heard → List ℕ → Result Bool Failure → Heard → Type 0
HearsBy true none uncounted before part how after = ComesTo ended before how after
HearsBy false true uncounted before part how after = ComesTo read_failed before how after
HearsBy false false true before part how after = ComesTo too_much before how after
HearsBy false false false before part how after = GoesOn before part how after

-- 0 is the end of the input, an error a failure, and any other number the number of bytes that came
unfoldable pub Hears : {E : Type 0} → Heard → Result ℕ E → List ℕ → Result Bool Failure → Heard → Type 0
Hears before got input how after =
    let came = clamp_len got (length input) in
    HearsBy (is_zero got) (eqb came 0) (ltb largest_count (before.bytes + came)) before (take came input) how after

-- ---- the whole input

-- all that was read was answered, and all its answers were taken, but where a write has failed
abbrev pub HeardWhole : {T : Type 0} → Result T Failure → Heard → List ℕ → Type 0
HeardWhole how heard input =
    (length input ≡ heard.bytes)
    × (how ≡ write_failed → Cut 0 (printed_for start input) heard.taken)
    × ((how ≡ write_failed → ⊥) → (heard.reader ≡ reader_after start input) × Taken 0 (printed_for start input) heard.taken)

-- at the end of the input the last line is answered, and then a write may fail; else nothing more is done
abbrev pub Concludes : {S T : Type 0} → Result S Failure → Result T Failure → Type 0
Concludes heard end = (IsOk heard → IsOk end ⊎ (end ≡ write_failed)) × IfErr heard (λ why. end ≡ Err why)

-- where the input has ended, the whole session was told, and what is noted is noted of all its lines; where a write has failed, some of it was not;
-- else what was read was answered, and nothing of a line that had not ended was run
abbrev pub Spoken : Result Notes Failure → Heard → List ℕ → Type 0
Spoken how heard input =
    (length input ≡ heard.bytes)
    × IfOk how (λ notes. Taken 0 (session_text input) heard.taken × (notes ≡ notes_of none_yet (lines_of input)))
    × (how ≡ write_failed → Cut 0 (session_text input) heard.taken)
    × (IsErr how → (how ≡ write_failed → ⊥) → Taken 0 (printed_for start input) heard.taken)

-- ---- where the bytes that the reader has left, or those that the writer holds, are known: as of a slice and a vector, and never of the system's own ends.
-- Each is said of what was known before and of what is known after; of what is not known nothing is said

-- the first bytes of a text were written, but not all of them
abbrev pub WroteSome : Option (List ℕ) → Option (List ℕ) → List ℕ → Type 0
WroteSome old new text = (some : ℕ) × (some < length text) × Appends old new (take some text)

-- a text was written, whole or not
abbrev pub Wrote : {T : Type 0} → Result T Failure → Option (List ℕ) → Option (List ℕ) → List ℕ → Type 0
Wrote (Ok _) old new text = Appends old new text
Wrote (Err _) old new text = WroteSome old new text

-- the answers to what a read has brought were written where the session goes on, some of them where a write has failed, and else nothing
abbrev pub HearsWriting : Result Bool Failure → Option (List ℕ) → Option (List ℕ) → List ℕ → Type 0
HearsWriting how old new text =
    (how ≡ goes_on → Appends old new text)
    × (how ≡ write_failed → WroteSome old new text)
    × ((how ≡ goes_on → ⊥) → (how ≡ write_failed → ⊥) → Keeps old new)

-- the input is what the reader has given, but where no number could count it; and at its end nothing is left there, if a read had room for some
abbrev pub Gave : {T : Type 0} → ℕ → Result T Failure → Option (List ℕ) → Option (List ℕ) → List ℕ → Type 0
Gave room how old new input = ((how ≡ too_much → ⊥) → Consumes old new input) × (0 < room → IsOk how → IsAtEnd new)

-- its answers were written, but where a write has failed only some of them
abbrev pub HeardWriting : {T : Type 0} → Result T Failure → Option (List ℕ) → Option (List ℕ) → List ℕ → Type 0
HeardWriting how old new input =
    (how ≡ write_failed → WroteSome old new (printed_for start input)) × ((how ≡ write_failed → ⊥) → Appends old new (printed_for start input))

-- at the end of the input the answer to its last line was written, or only some of it; else nothing more
abbrev pub ConcludesWriting : {S T : Type 0} → Result S Failure → Result T Failure → Option (List ℕ) → Option (List ℕ) → List ℕ → Type 0
ConcludesWriting heard end old new text =
    (IsOk heard → IsOk end → Appends old new text)
    × (IsOk heard → end ≡ write_failed → WroteSome old new text)
    × (IsErr heard → Keeps old new)

-- where the input has ended, the text of the whole session was written; where a write has failed, some of it; else the answers to what was read
abbrev pub SpokenWriting : {T : Type 0} → Result T Failure → Option (List ℕ) → Option (List ℕ) → List ℕ → Type 0
SpokenWriting how old new input =
    (IsOk how → Appends old new (session_text input))
    × (how ≡ write_failed → WroteSome old new (session_text input))
    × (IsErr how → (how ≡ write_failed → ⊥) → Appends old new (printed_for start input))
