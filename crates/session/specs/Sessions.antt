-- Document 01, "The session program": the whole session. Assumes nothing.
use Rattle.std.specs.Prelude.{Bool, true, false, List, [], ◌∷◌, ◌++◌, ℕ, eqb}
use Rattle.desk.specs.declared.Desk.{Desk}
use Rattle.desk.specs.Desk.{fresh}
use Rattle.text.specs.Text.{newline}
use Rattle.session.specs.Turns.{turn, printed}

-- the lines of the input, parted at each newline: "nothing after a final newline is a line", "The last line may lack its newline."
abbrev pub join_line : Bool → ℕ → List (List ℕ) → List (List ℕ)
join_line true byte lines = [] ∷ lines
join_line false byte [] = (byte ∷ []) ∷ []
join_line false byte (line ∷ lines) = (byte ∷ line) ∷ lines

unfoldable pub lines_of : List ℕ → List (List ℕ)
lines_of [] = []
lines_of (byte ∷ bytes) = join_line (eqb byte newline) byte (lines_of bytes)

-- what is printed for some lines, one after the other
unfoldable pub answers : Desk → List (List ℕ) → List ℕ
answers d [] = []
answers d (line ∷ lines) = printed (turn d line) ++ answers (turn d line).desk lines

-- "It reads lines .. from standard input, starting with a fresh desk.": from the whole input to the whole output
unfoldable pub session_text : List ℕ → List ℕ
session_text input = answers fresh (lines_of input)
