-- After each step the rest of the walk, from the least so far, still finds what the whole finds: a timestamp counts where the word has its place and
-- it is not below the mark. Assumes nothing.
use native.Mathlib.Omega.{arith}
use Rattle.words.proofs.Walk.{walk_turn, walk-done, walk_starts}
use Rattle.tables.specs.Columns.{item_places}
use Rattle.tables.proofs.Least.{from_passes, from_takes, least_from_is}
use Rattle.tables.proofs.times.least_from.Goals as goal

pub loop-place-init : goal.loop-place-init
loop-place-init c =
    let args = c.args in
    walk_starts item_places _ _ c.into_iter-place-iterator.ensures.into_iter_gives c.places-place-items.ensures
    (least_from_is args.timestamps.now args.places args.mark args.time (omega arith))

pub loop-place-preserved-then-mark-timestamp : goal.loop-place-preserved-then-mark-timestamp
loop-place-preserved-then-mark-timestamp c =
    let here = c.loop-place in
    walk_turn item_places _ here.least here.place-iterator c.next.new.self (omega arith) here.invariant.0 c.in-Some.ensures.steps
    (from_takes c.args.timestamps.now c.args.mark c.in-Some.place here.least c.at-timestamp.ensures c.if-mark-timestamp.true c.min-least.ensures)
    here.invariant.1

pub loop-place-preserved : goal.loop-place-preserved
loop-place-preserved c =
    let here = c.loop-place in
    walk_turn item_places _ here.least here.place-iterator c.next.new.self (omega arith) here.invariant.0 c.in-Some.ensures.steps
    (from_passes c.args.timestamps.now c.args.mark c.in-Some.place here.least c.at-timestamp.ensures c.if-mark-timestamp.false)
    here.invariant.1

pub returns : goal.returns
returns c =
    let here = c.loop-place in
    walk-done item_places _ here.place-iterator c.next.new.self (omega arith) here.invariant.0 c.in-None.ensures.steps here.invariant.1
