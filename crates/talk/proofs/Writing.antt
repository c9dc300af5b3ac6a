-- What is known of a writer's bytes after some writes, and after some more. Assumes nothing.
use mathlib.Core.List.{List, ◌++◌}
use mathlib.Core.Path.{◌≡◌, ap, sym, subst, ◌∙◌}
use Prim.Native.Nat.{ℕ, ◌+◌, ◌-◌, ◌≤◌}
use native.Mathlib.Omega.{arith}
use lib.ListN.{length, take, drop, length-append, length-drop}
use lib.Seq.{take-add, take_all}
use Rattle.std.proofs.Math.Seq.{take-append-add, take-append_seam}
use Rattle.std.proofs.lemmas.List.{take-append-le}
use Rattle.std.specs.Prelude.{Option}
use Rattle.std.specs.Io.KnownBytes.{Appends, Keeps}
use Rattle.std.proofs.KnownBytes.{Appends-kept, Appends-trans}
use Rattle.talk.specs.Talk.{WroteSome}

-- what is left of a text from a place on, as it is handed on
abbrev pub left : List ℕ → ℕ → List ℕ
left text from = take (length text - from) (drop from text)

pub left_all : (text : List ℕ) (from : ℕ) → left text from ≡ drop from text
left_all text from = take_all (length text - from) (drop from text) (omega (arith, length-drop from text))

pub taken_on : (text : List ℕ) (from more : ℕ) → take (from + more) text ≡ take from text ++ take more (left text from)
taken_on text from more = take-add from more text ∙ ap (λ (l : List ℕ). take from text ++ take more l) (sym (left_all text from))

-- so much of a text was written, and then some of what is left, or nothing
pub wrote_more : (first before after : Option (List ℕ)) (text : List ℕ) (taken took : ℕ)
    → Appends first before (take taken text)
    → Appends before after (take took (left text taken))
    → Appends first after (take (taken + took) text)
wrote_more first before after text taken took so_far more = rw (taken_on text taken took) (Appends-trans first before after _ _ so_far more)

pub wrote_nothing : (first before after : Option (List ℕ)) (text : List ℕ) (taken took : ℕ)
    → took ≡ 0
    → Appends first before (take taken text)
    → Appends before after (take took (left text taken))
    → Appends first after (take taken text)
wrote_nothing first before after text taken took none so_far more =
    let same : taken + took ≡ taken = omega arith in
    subst (λ (n : ℕ). Appends first after (take n text)) same (wrote_more first before after text taken took so_far more)

-- ---- a text that stands at the front of a buffer

pub front : (text rest buffer : List ℕ) (written : ℕ) → written ≡ length text → buffer ≡ text ++ rest → take written buffer ≡ text
front text rest buffer written is stands = rw (is, stands) (take-append_seam text rest)

-- ---- a text of which only some was written

-- after a text that was written whole
pub some_on : (first before after : Option (List ℕ)) (done text : List ℕ) → Appends first before done → WroteSome before after text → WroteSome first after (done ++ text)
some_on first before after done text wrote cut = (
  length done + cut.0,
  omega (arith, cut.1, length-append done text),
  rw (take-append-add done text cut.0) (Appends-trans first before after done (take cut.0 text) wrote cut.2),
)

-- at the front of a longer one
pub some_of : (before after : Option (List ℕ)) (text rest : List ℕ) → WroteSome before after text → WroteSome before after (text ++ rest)
some_of before after text rest cut =
    let below : cut.0 ≤ length text = omega (arith, cut.1) in
    (cut.0, omega (arith, cut.1, length-append text rest), rw (take-append-le cut.0 text rest below) cut.2)

-- and nothing more
pub some_kept : (first before after : Option (List ℕ)) (text : List ℕ) → WroteSome first before text → Keeps before after → WroteSome first after text
some_kept first before after text cut keeps = (cut.0, cut.1, Appends-kept first before after _ cut.2 keeps)
