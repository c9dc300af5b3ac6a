-- The places that can be UNSEEN, of which the timestamps not below the mark are UNSEEN, are searched. Assumes nothing.
use mathlib.Core.Path.{ap, ◌∙◌}
use Prim.Native.Nat.{ℕ}
use Rattle.tables.specs.Search.{chosen_from}
use Rattle.tables.proofs.Chosen.{sought_from}
use Rattle.tables.proofs.search.seek.Goals as goal

pub returns : goal.returns
returns c =
    let args = c.args in
    let timestamps = args.timestamps.now in
    c.choose.ensures
    ∙ ap (λ (places : ℕ). chosen_from timestamps places args.connection.mark args.which) c.unseen_places.ensures
    ∙ sought_from timestamps args.connection args.which
