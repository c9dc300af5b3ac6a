-- After each step the rest of the walk, from the least so far, still finds what the whole finds: no timestamp of a connection whose mark is not below
-- the least could lower it. Assumes nothing.
use mathlib.Core.Path.{ap, ◌∙◌}
use Prim.Native.Nat.{ℕ, min}
use native.Mathlib.Omega.{arith}
use Rattle.words.specs.Words.{except}
use Rattle.words.proofs.Walk.{walk_turn, walk-done, walk_starts}
use Rattle.rows.specs.declared.Connection.{Connection}
use Rattle.tables.specs.Columns.{connection_of, connection_places}
use Rattle.tables.specs.Times.{least_awaited, least_from}
use Rattle.tables.proofs.Least.{awaited_places, pending_past, pending_turn, smallest_from}
use Rattle.tables.proofs.columns.Seen.least_awaited.Goals as goal

pub loop-connection-init : goal.loop-connection-init
unfolding least_awaited
loop-connection-init c =
    let starts = walk_starts connection_places _ _ c.into_iter-connection-iterator.ensures.into_iter_gives c.places-connection-items.ensures
    (smallest_from connection_places _ _ c.args.time (omega arith)) in
    (starts.0, starts.1, omega arith)

pub loop-connection-preserved-then-row-least : goal.loop-connection-preserved-then-row-least
loop-connection-preserved-then-row-least c =
    let here = c.loop-connection in
    let seen = c.args.self in
    let timestamps = seen.timestamps.now in
    let read = c.connection-row.result in
    let word = c.except-awaited.ensures ∙ ap (except read.items) c.except.ensures in
    let found = c.least_from-least.ensures
    ∙ ap (λ (places : ℕ). min here.least (least_from timestamps places read.mark)) word
    ∙ ap (λ (row : Connection). min here.least (least_from timestamps (awaited_places timestamps row) row.mark)) c.connection-row.ensures in
    let step = pending_turn timestamps (connection_of seen c.in-Some.connection) here.least found in
    let turn = walk_turn connection_places _ here.least here.connection-iterator c.next.new.self (omega arith) here.invariant.0 c.in-Some.ensures.steps
    step here.invariant.1 in
    (turn.0, turn.1, omega (arith, step, here.invariant.2))

pub loop-connection-preserved : goal.loop-connection-preserved
loop-connection-preserved c =
    let here = c.loop-connection in
    let seen = c.args.self in
    let above = rw c.connection-row.ensures at c.if-row-least.false in
    let turn = walk_turn connection_places _ here.least here.connection-iterator c.next.new.self (omega arith) here.invariant.0 c.in-Some.ensures.steps
    (pending_past seen.timestamps.now (connection_of seen c.in-Some.connection) here.least here.invariant.2 above) here.invariant.1 in
    (turn.0, turn.1, here.invariant.2)

pub returns : goal.returns
returns c =
    let here = c.loop-connection in
    walk-done connection_places _ here.connection-iterator c.next.new.self (omega arith) here.invariant.0 c.in-None.ensures.steps here.invariant.1
