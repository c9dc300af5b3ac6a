-- A number as a set of places: place p is in it where its binary digit p is 1. Assumes nothing.
use Rattle.std.specs.Prelude.{Bool, ◌&&◌, ◌||◌, not, ◌≡◌, ℕ, ◌/◌, ◌%◌, ◌^◌, ◌≤◌, ◌<◌, eqb, min, Option, Some, None}
use Rattle.words.specs.declared.PlaceWalk.{PlaceWalk}
use Rattle.words.specs.Places.{count_of, lowest_of, word_of}

-- a word has the places 0 to 63
abbrev pub word_places : ℕ
word_places = 64

-- is place p in the word
unfoldable pub has : ℕ → ℕ → Bool
has w p = eqb (w / 2 ^ p % 2) 1

-- the word with place p; a place past the last is ignored
unfoldable pub with : ℕ → ℕ → ℕ
with w p = word_of (λ i. has w i || eqb i p) word_places

-- the word without place p
unfoldable pub without : ℕ → ℕ → ℕ
without w p = word_of (λ i. has w i && not (eqb i p)) word_places

-- the places that are in both words
unfoldable pub both : ℕ → ℕ → ℕ
both a b = word_of (λ i. has a i && has b i) word_places

-- the places that are in one of the words, or in both
unfoldable pub either : ℕ → ℕ → ℕ
either a b = word_of (λ i. has a i || has b i) word_places

-- the places of a that are not in b
unfoldable pub except : ℕ → ℕ → ℕ
except a b = word_of (λ i. has a i && not (has b i)) word_places

-- the lowest place in the word; the number of places where there is none
unfoldable pub lowest : ℕ → ℕ
lowest w = lowest_of (has w) word_places

-- the lowest place not in the word; the number of places where all are
unfoldable pub lowest_free : ℕ → ℕ
lowest_free w = lowest_of (λ i. not (has w i)) word_places

-- how many places are in the word
unfoldable pub count : ℕ → ℕ
count w = count_of (has w) word_places

-- one step of a walk over the places of a word that are below an end, lowest first: the lowest place and the walk without it, or nothing where no place
-- below the end is left
abbrev pub walks : PlaceWalk → Option ℕ → PlaceWalk → Type 0
walks walk None after = (min walk.end word_places ≤ lowest walk.rest) × (after ≡ walk)
walks walk (Some place) after =
    (place ≡ lowest walk.rest) × (place < min walk.end word_places) × (after ≡ record { rest = without walk.rest place; end = walk.end })
