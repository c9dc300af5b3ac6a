use Rattle.words.specs.Words.{except}
use Rattle.leaving.proofs.Loops.{Reached}
use Rattle.leaving.proofs.swept.lessen.Given as goal

abbrev pub invariant-loop-word : goal.invariant-loop-word
invariant-loop-word g l = Reached g.row.N (λ word. except word l.gone) l.word-index l.initial.column l.column
