-- After each step the rest of the walk, from the least so far, still finds what the whole finds, whatever the column of what was consumed by name: a
-- connection's OPEN timestamps are those in the places that hold an item and were got. Assumes nothing.
use mathlib.Core.List.{List}
use mathlib.Core.Path.{ap, ◌∙◌}
use Prim.Native.Nat.{ℕ, min}
use native.Mathlib.Omega.{arith}
use Rattle.words.specs.Words.{both}
use Rattle.words.proofs.Walk.{walk_turn, walk-done, walk_starts}
use Rattle.rows.specs.declared.Connection.{Connection}
use Rattle.tables.specs.Columns.{connection_in, connection_places}
use Rattle.tables.specs.Times.{least_from, least_open}
use Rattle.tables.proofs.Least.{open_turn, smallest_from}
use Rattle.tables.proofs.columns.Seen.least_open.Goals as goal

pub loop-connection-init : goal.loop-connection-init
unfolding least_open
loop-connection-init c =
    λ consumed. walk_starts connection_places _ _ c.into_iter-connection-iterator.ensures.into_iter_gives c.places-connection-items.ensures
    (smallest_from connection_places _ _ c.args.time (omega arith))

pub loop-connection-preserved : goal.loop-connection-preserved
loop-connection-preserved c =
    let here = c.loop-connection in
    let seen = c.args.self in
    let timestamps = seen.timestamps.now in
    let mark = c.connection-row.result.mark in
    let found = c.least_from-least.ensures
    ∙ ap (λ (word : ℕ). min here.least (least_from timestamps word mark)) c.both-open.ensures
    ∙ ap (λ (row : Connection). min here.least (least_from timestamps (both row.items row.opened) row.mark)) c.connection-row.ensures in
    let row : List ℕ → ℕ → Connection = connection_in seen.leads.now seen.held.now seen.marks.now seen.opened.now in
    λ consumed. walk_turn connection_places _ here.least here.connection-iterator c.next.new.self (omega arith) (here.invariant consumed).0
    c.in-Some.ensures.steps
    (open_turn timestamps (row consumed c.in-Some.connection) here.least found)
    (here.invariant consumed).1

pub returns : goal.returns
returns c =
    let here = c.loop-connection in
    λ consumed. walk-done connection_places _ here.connection-iterator c.next.new.self (omega arith) (here.invariant consumed).0
    c.in-None.ensures.steps (here.invariant consumed).1
