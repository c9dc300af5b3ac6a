use mathlib.Core.Bool.{false}
use mathlib.Core.Path.{◌≡◌}
use Prim.Native.Nat.{◌<◌, ℕ}
use Rattle.leaving.specs.Leaving.{holds_one}
use Rattle.leaving.proofs.handed.first_channel.Given as goal

abbrev pub invariant-loop-channel : goal.invariant-loop-channel
invariant-loop-channel l = (earlier : ℕ) → earlier < l.channel → holds_one l.held l.places earlier ≡ false
