-- The numbers passed, and behind them zeros, stand in the array, and the fields that are left say the rest. Assumes nothing.
use Rattle.std.proofs.Common.{drop}
use Rattle.lines.specs.Lines.{fields_of}
use Rattle.lines.proofs.Behind.{Passed}
use Rattle.lines.proofs.Fields.{left}
use Rattle.lines.proofs.read.Given as goal

abbrev pub invariant-loop-place : goal.invariant-loop-place
invariant-loop-place l = Passed l.largest-items (drop 1 (fields_of l.line)) (left l.fields) l.place l.numbers
