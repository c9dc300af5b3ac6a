-- The digits passed come to the value so far, which stays below the limit. Assumes nothing.
use Rattle.std.proofs.Common.{◌≡◌, ◌+◌, ◌<◌, drop}
use Rattle.lines.proofs.Numbers.{number_from}
use Rattle.lines.proofs.number_of.Given as goal

abbrev pub invariant-loop-byte : goal.invariant-loop-byte
invariant-loop-byte l =
    record {
      small : l.value < l.largest + 1;
      same : number_from (l.largest + 1) 0 l.field ≡ number_from (l.largest + 1) l.value (drop l.byte-index l.field);
    }
