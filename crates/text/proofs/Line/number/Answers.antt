-- The library writes the digits so that they end where they are to end, and so they begin where the line does. Assumes nothing.
use Rattle.std.proofs.Common.{◌≡◌, length, arith, ap, refl}
use Rattle.std.specs.Fmt.{decimal}
use Rattle.text.specs.Text.{decimal_text}
use Rattle.text.proofs.Digits.{decimal_is}
use Rattle.text.proofs.Stores.{between_wrote}
use Rattle.text.proofs.Line.number.Goals as goal

pub write_digits-requires : goal.write_digits-requires
write_digits-requires c =
    let same : decimal_text c.args.number ≡ decimal c.args.number = decimal_is c.args.number (omega arith) in
    (omega (arith, ap length same), omega arith)

pub returns : goal.returns
returns c =
    let same : decimal_text c.args.number ≡ decimal c.args.number = decimal_is c.args.number (omega arith) in
    let start : c.write_digits.result ≡ c.args.self.now.end = omega (arith, ap length same) in
    record {
      wrote =
          between_wrote _ _ _ _ _ (omega (arith, ap length same)) (omega arith)
          (rw start at c.write_digits.ensures.before) (rw (start, ← same) at c.write_digits.ensures.written);
      same_reference = refl;
    }
