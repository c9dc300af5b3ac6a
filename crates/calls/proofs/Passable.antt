-- Calls that a program can pass, and then more of them: a list of calls is passable where each call is. Assumes nothing.
use mathlib.Core.List.{List, [], ◌++◌, ◌∷◌}
use Rattle.calls.specs.Calls.{AllPassable, Call}

pub passable_more : (calls more : List Call) → AllPassable calls → AllPassable more → AllPassable (calls ++ more)
passable_more [] more all all_more = all_more
passable_more (call ∷ calls) more all all_more = (all.0, passable_more calls more all.1 all_more)
