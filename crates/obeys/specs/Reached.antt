-- The desks that calls can reach, refused calls and sweeps included. Assumes nothing.
use Rattle.std.specs.Prelude.{◌≡◌, List}
use Rattle.calls.specs.Calls.{Call, AllPassable}
use Rattle.desk.specs.declared.Desk.{Desk}
use Rattle.desk.specs.Desk.{fresh}
use Rattle.desk.specs.Calls.{after}

-- where a desk starts: "a fresh desk"
pub data DeskStart : Desk → Type 0 where
  fresh_desk : DeskStart fresh

-- the desk comes about from a start. By their contracts, a program that takes its desk from `fresh` and changes it by calls alone holds one of these.
pub record Reached (d : Desk) : Type 0 where
  pub start : Desk
  pub starts : DeskStart start
  pub calls : List Call
  pub passable : AllPassable calls
  pub reaches : after start calls ≡ d
