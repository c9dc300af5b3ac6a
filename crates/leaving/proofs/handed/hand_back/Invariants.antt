use mathlib.Core.Path.{◌≡◌}
use Rattle.leaving.proofs.Tickets.{handed}
use Rattle.leaving.proofs.handed.hand_back.Given as goal

abbrev pub invariant-loop-i : goal.invariant-loop-i
invariant-loop-i l =
    handed l.timestamps l.tickets l.held l.n l.slice l.i l.places ≡ handed l.timestamps l.tickets l.held l.n l.initial.slice 0 l.initial.places
