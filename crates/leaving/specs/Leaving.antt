-- Document 01, "Sweeps", and the places that a detach and an end free: the columns afterwards. Assumes nothing.
use Rattle.std.specs.Prelude.{Bool, cond, not, true, ◌&&◌, List, [], ◌∷◌, ◌++◌, ℕ, zero, suc, max, eqb, leb, ltb, drop, length, set}
use Rattle.words.specs.Places.{each, lowest_of, word_of}
use Rattle.words.specs.Words.{both, count, except, has, without}
use Rattle.rows.specs.Choices.{place_found, taken_before}
use Rattle.calls.specs.declared.Which.TheVariants.{Earliest}
use Rattle.tables.specs.Columns.{at, channel_places, connection_places, item_places, reads}
use Rattle.tables.specs.Search.{chosen}

-- a column of so many places, in which a free place holds this, changed by a rule in the places that pass the test
unfoldable pub changed_over : {A : Type 0} → A → ℕ → (ℕ → Bool) → (A → A) → List A → List A
changed_over free places test rule column = each places test (λ place cells. set cells place (rule (reads free places cells place))) column

-- a free place holds 0
abbrev pub changed : ℕ → (ℕ → Bool) → (ℕ → ℕ) → List ℕ → List ℕ
changed = changed_over 0

-- "A free place holds zeros only.": the column once some places are freed
abbrev pub cleared : ℕ → ℕ → List ℕ → List ℕ
cleared places gone column = changed places (has gone) (λ number. 0) column

-- the same where a free place holds this
abbrev pub emptied : {A : Type 0} → A → ℕ → ℕ → List A → List A
emptied free places gone column = changed_over free places (has gone) (λ cell. free) column

-- "both are cleared for its place on every connection": every word of the column without some places
abbrev pub lessened : ℕ → ℕ → List ℕ → List ℕ
lessened places gone column = changed places (λ place. true) (λ word. except word gone) column

-- "On every input connection the mark then becomes the larger of itself and the bound."
abbrev pub raised : ℕ → ℕ → List ℕ → List ℕ
raised inputs bound marks = changed connection_places (has inputs) (λ mark. max mark bound) marks

-- "Every present item with a smaller timestamp leaves the desk."
unfoldable pub is_below : List ℕ → ℕ → ℕ → ℕ → Bool
is_below timestamps present bound place = has present place && ltb (at item_places timestamps place) bound

unfoldable pub items_below : List ℕ → ℕ → ℕ → ℕ
items_below timestamps present bound = word_of (is_below timestamps present bound) item_places

-- the lowest channel that holds an item in one of the places; the number of channels where none does
abbrev pub holds_one : List ℕ → ℕ → ℕ → Bool
holds_one held places channel = not (eqb (both (at channel_places held channel) places) 0)

unfoldable pub first_channel : List ℕ → ℕ → ℕ
first_channel held places = lowest_of (holds_one held places) channel_places

-- of the items in some places, the place of the first "by channel number, then timestamp"
unfoldable pub first_place : List ℕ → List ℕ → ℕ → ℕ
first_place timestamps held places =
    place_found (chosen timestamps (taken_before Earliest) (has (both (at channel_places held (first_channel held places)) places)))

-- the tickets of n items in some places, "by channel number, then timestamp"
unfoldable pub tickets_in_line : List ℕ → List ℕ → List ℕ → ℕ → ℕ → List ℕ
tickets_in_line timestamps tickets held zero places = []
tickets_in_line timestamps tickets held (suc n) places =
    at item_places tickets (first_place timestamps held places)
    ∷ tickets_in_line timestamps tickets held n (without places (first_place timestamps held places))

-- "Tickets go to the front of the slice by channel number, then timestamp; the rest of the slice is untouched." A shorter slice is left as it was.
unfoldable pub handed_back : List ℕ → List ℕ → List ℕ → ℕ → List ℕ → List ℕ
handed_back timestamps tickets held gone slice =
    cond (leb (count gone) (length slice)) (tickets_in_line timestamps tickets held (count gone) gone ++ drop (count gone) slice) slice
