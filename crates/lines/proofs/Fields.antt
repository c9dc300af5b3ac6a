-- The fields of a line as the code meets them: the parts between the spaces, one after the other. Assumes nothing.
use Rattle.std.proofs.Common.{◌≡◌, ◌≤◌, ◌<◌, ℕ, Bool, true, false, cond, List, [], ◌∷◌, ◌++◌, length, get_or, eqb, Option, Some, None, is_some, refl, ap, subst, ◌∙◌, arith}
use Rattle.std.specs.Bool.{MatchBool}
use Rattle.std.specs.Fn.{CalledAt, ComputesKey}
use Rattle.std.specs.List.{slice_split, onto_first, All, IsFirstMatchOrLen}
use Rattle.std.specs.Slice.Iter.{split_rest, split_done, split_callee, split_steps}
use Rattle.std.specs.declared.slice.Split.{Split}
use Rattle.std.proofs.lemmas.Fn.{always_returns_same}
use Rattle.std.proofs.lemmas.Grind.{common_steps}
use Rattle.std.proofs.lemmas.List.Splits.{slice_split_none, slice_split_at}
use denote.Param.Members.{Mut}
use denote.Ref.{Bor}
use Rattle.lines.specs.Lines.{space, fields_of, join_first}

-- ---- the library parts a line as the definition does

abbrev pub parts : List ℕ → List (List ℕ)
parts line = slice_split (λ byte. eqb byte space) line

joined_alike : (byte : ℕ) (fields : List (List ℕ)) → onto_first byte fields ≡ join_first byte fields
joined_alike byte [] = refl
joined_alike byte (field ∷ fields) = refl

split_by : (apart : Bool) (byte : ℕ) (bytes : List ℕ)
    → parts bytes ≡ fields_of bytes
    → cond apart ([] ∷ parts bytes) (onto_first byte (parts bytes)) ≡ cond apart ([] ∷ fields_of bytes) (join_first byte (fields_of bytes))
split_by true byte bytes rest = ap (λ (fields : List (List ℕ)). [] ∷ fields) rest
split_by false byte bytes rest = joined_alike byte (parts bytes) ∙ ap (join_first byte) rest

pub fields_split : (line : List ℕ) → parts line ≡ fields_of line
unfolding fields_of
fields_split [] = refl
fields_split (byte ∷ bytes) = split_by (eqb byte space) byte bytes (fields_split bytes)

-- a line has at least one field
some_by : (apart : Bool) (byte : ℕ) (fields : List (List ℕ))
    → (first : List ℕ) × (more : List (List ℕ)) × (cond apart ([] ∷ fields) (join_first byte fields) ≡ first ∷ more)
some_by true byte fields = ([], fields, refl)
some_by false byte [] = (byte ∷ [], [], refl)
some_by false byte (field ∷ fields) = (byte ∷ field, fields, refl)

pub some_field : (line : List ℕ) → (first : List ℕ) × (more : List (List ℕ)) × (fields_of line ≡ first ∷ more)
unfolding fields_of
some_field [] = ([], [], refl)
some_field (byte ∷ bytes) = some_by (eqb byte space) byte (fields_of bytes)

-- ---- the fields that an iterator has left

unfoldable pub left : {F : Type 0} → Split ℕ F → List (List ℕ)
left s = cond (split_done s) [] (parts (split_rest s))

pub all_left : {F : Type 0} (s : Split ℕ F) (line : List ℕ) → split_rest s ≡ line → split_done s ≡ false → left s ≡ fields_of line
unfolding left
all_left s line rest more = ap (λ (b : Bool). cond b [] (parts (split_rest s))) more ∙ ap parts rest ∙ fields_split line

pub none_left : {F : Type 0} (s : Split ℕ F) → split_done s ≡ true → left s ≡ []
unfolding left
none_left s done = ap (λ (b : Bool). cond b [] (parts (split_rest s))) done

part_by : (rest part after : List ℕ) (done : Bool)
    → MatchBool done (rest ≡ part) ((byte : ℕ) × (rest ≡ part ++ (byte ∷ after)))
    → IsFirstMatchOrLen (λ byte. eqb byte space) rest (length part)
    → parts rest ≡ part ∷ cond done [] (parts after)
part_by rest part after true e first =
    ap parts e ∙ slice_split_none (λ byte. eqb byte space) part (λ k d l. subst (λ (bytes : List ℕ). eqb (get_or bytes k d) space ≡ false) e (first.0 k d (omega arith) l))
part_by rest part after false e first =
    let front : All (λ byte. eqb byte space ≡ false) part = λ k d l. let a = first.0 k d (omega arith) l in let b = e.1 in grind (arith, common_steps) in
    let hit : eqb e.0 space ≡ true = let b = e.1 in let a = first.1 (grind (arith, common_steps)) e.0 in grind (arith, common_steps) in
    ap parts e.1 ∙ slice_split_at (λ byte. eqb byte space) part e.0 after front hit

-- a call that gives a field takes the first of those that are left
pub one_left : {F : Type 0} (g : Mut F (Bor ℕ × Unit {0}) Bool) (s t : Split ℕ F) (field : Bor (List ℕ))
    → ((byte : ℕ) (apart : Bool) (f : F) → CalledAt g (split_callee s) byte apart f → (f ≡ split_callee s) × (apart ≡ eqb byte space))
    → split_steps g s (Some field) t
    → left s ≡ field.now ∷ left t
unfolding left
one_left g s t field tests steps =
    let computes : ComputesKey g (λ byte. eqb byte space) (split_callee s) =
    always_returns_same g (λ a r. r ≡ eqb a.0.now space) (split_callee s) (λ a r q k. let m = tests a.0.now r q (record { shown = a.0; shows = refl; called = k }) in (m.1, m.0)) in
    ap (λ (b : Bool). cond b [] (parts (split_rest s))) steps.0
    ∙ part_by (split_rest s) field.now (split_rest t) (split_done t) steps.1 (steps.2 (λ byte. eqb byte space) computes).1

pub some_left : {F : Type 0} (g : Mut F (Bor ℕ × Unit {0}) Bool) (s t : Split ℕ F) (field : Option (Bor (List ℕ)))
    → ((byte : ℕ) (apart : Bool) (f : F) → CalledAt g (split_callee s) byte apart f → (f ≡ split_callee s) × (apart ≡ eqb byte space))
    → split_steps g s field t
    → true ≡ is_some field
    → (first : List ℕ) × (left s ≡ first ∷ left t)
some_left g s t None tests steps e = cc
some_left g s t (Some field) tests steps e = (field.now, one_left g s t field tests steps)

pub no_more_left : {F : Type 0} (g : Mut F (Bor ℕ × Unit {0}) Bool) (s t : Split ℕ F) (field : Option (Bor (List ℕ)))
    → split_steps g s field t
    → false ≡ is_some field
    → left s ≡ []
no_more_left g s t None steps e = none_left s steps.0
no_more_left g s t (Some field) steps e = cc

-- ---- a field of one byte

pub one_byte : (field : List ℕ) → 1 ≤ length field → length field < 2 → field ≡ get_or field 0 0 ∷ []
one_byte [] some short = absurd (omega arith)
one_byte (byte ∷ []) some short = refl
one_byte (byte ∷ (second ∷ bytes)) some short = absurd (omega arith)
