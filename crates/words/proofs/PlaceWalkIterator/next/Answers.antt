-- A step leaves one place fewer. Assumes nothing.
use Rattle.words.proofs.Walk.{each_falls}
use Rattle.words.proofs.PlaceWalkIterator.next.Goals as goal

pub returns-clause-goes : goal.returns-clause-goes
returns-clause-goes c = record {
  on = λ finite. (tt, tt, each_falls c.args.self.now.rest c.if-place-ge-PLACES.false c.lowest-place.ensures c.without-self.ensures);
  keeps = tt;
  rests = λ finite. tt;
}
