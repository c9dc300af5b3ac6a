-- What the writers inside ask of each other and promise: texts that are written one behind the other into one lent buffer.
use Rattle.std.specs.Prelude.{ℕ, ◌+◌, List, ◌≡◌, ◌≤◌, length}
use Rattle.text.specs.Text.{Wrote}
use Rattle.text.specs.declared.Line.{Line}

-- behind the place up to which the line is written there is the room for the text
abbrev pub HasRoomFor : Line → List ℕ → Type 0
HasRoomFor line text = line.end + length text ≤ length line.out.now

-- `after` is `before` with the text written behind what stands there, in the same lent buffer
pub record Added (before : Line) (text : List ℕ) (after : Line) : Type 0 where
  pub wrote : Wrote before.out.now before.end text after.out.now after.end
  pub same_reference : after.out.ghost_name ≡ before.out.ghost_name
