-- A place of the table is read as it stands, and a number past it as the zero. Assumes nothing.
use mathlib.Core.Bool.{Bool, cond}
use mathlib.Core.Path.{ap, sym, ◌∙◌}
use lib.ListN.{get_or}
use borrow.Author.Tests.{le-ltb, lt-ltb}
use Rattle.std.proofs.lemmas.List.{get_or_read_under}
use Rattle.tables.specs.Columns.{reads}
use Rattle.tables.proofs.columns.at.Goals as goal

pub returns-then-place : goal.returns-then-place
unfolding reads
returns-then-place g c =
    let read = c.index-column-place in
    sym read.is
    ∙ get_or_read_under c.args.column.now c.args.place g.row.N read.result g.T.Zeroed.zero read.is c.if-place.true (sym c.type_inv.column)
    ∙ sym (ap (λ (b : Bool). cond b (get_or c.args.column.now c.args.place g.T.Zeroed.zero) g.T.Zeroed.zero) (lt-ltb c.args.place g.row.N c.if-place.true))

pub returns-else-place : goal.returns-else-place
unfolding reads
returns-else-place g c =
    c.zero.ensures
    ∙ sym (ap (λ (b : Bool). cond b (get_or c.args.column.now c.args.place g.T.Zeroed.zero) g.T.Zeroed.zero) (le-ltb c.args.place g.row.N c.if-place.false))
