-- What is promised of the column, of the desk's. Assumes nothing.
use mathlib.Core.Path.{refl}
use Rattle.desk.proofs.Desk.connection_owned.Goals as goal

pub returns : goal.returns
returns c = c.owned_by.ensures c.args.self.now refl
