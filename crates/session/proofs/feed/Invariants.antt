-- After some bytes of the part, the reader, the bytes passed and the text in out are those that the definitions say. Assumes nothing.
use mathlib.Core.Path.{◌≡◌}
use lib.ListN.{length}
use Rattle.session.specs.Stream.{line_kept, reader}
use Rattle.session.proofs.Feeding.{Fed}
use Rattle.session.proofs.feed.Given as goal

abbrev pub invariant-loop-place : goal.invariant-loop-place
invariant-loop-place l = Fed (reader l.initial.next.desk l.initial.line l.initial.held l.initial.notes) l.part l.initial.out (reader l.next.desk l.line l.held l.notes) l.place l.at l.out × (length l.line ≡ line_kept) × (l.used ≡ length l.part)
