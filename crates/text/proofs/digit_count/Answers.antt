-- What the library says of the power of ten below a number is how many digits it has. Assumes nothing.
use Rattle.text.proofs.Digits.{power_digits}
use Rattle.text.proofs.digit_count.Goals as goal

pub returns : goal.returns
returns c =
    let power = c.checked_ilog10.ensures in
    rw c.unwrap_or.ensures (power_digits _ _ power.none power.power_le power.next_power_gt power.bound)
