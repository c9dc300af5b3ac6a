-- After each turn the first item's ticket is written and its place is out: writing the tickets that are left, from there on, still gives the whole.
-- Assumes nothing.
use mathlib.Core.Path.{◌∙◌}
use Rattle.leaving.proofs.Tickets.{handed_back_lem, handed-done, handed_short, handed-turn}
use Rattle.leaving.proofs.handed.hand_back.Goals as goal

pub returns-then-n-slice : goal.returns-then-n-slice
returns-then-n-slice c = handed_short _ _ _ _ _ c.count-n.ensures c.if-n-slice.true

pub loop-i-preserved : goal.loop-i-preserved
loop-i-preserved c =
    let here = c.loop-i in
    handed-turn _ _ _ _ here.i here.slice here.places c.loop-i-test.true c.first_place-place.ensures c.at.ensures c.without-places.ensures here.invariant

pub returns : goal.returns
returns c =
    let here = c.loop-i in
    handed-done _ _ _ _ here.i here.slice here.places c.loop-i-test.false here.invariant
    ∙ handed_back_lem _ _ _ _ _ c.count-n.ensures c.if-n-slice.false
