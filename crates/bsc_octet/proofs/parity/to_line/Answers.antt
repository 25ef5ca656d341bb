-- The octet that `to_line` returns with the eighth bit set has odd parity.
use Rattle.std.proofs.Common.{arith}
use Rattle.bsc_octet.proofs.OddOctets.{ones_high}
use Rattle.bsc_octet.proofs.parity.to_line.Goals as goal

pub returns-else-code-eq1-clause-odd : goal.returns-else-code-eq1-clause-odd
returns-else-code-eq1-clause-odd c = (
  rw (ones_high c.args.code c.if-code-lt128.true) (omega (arith, c.if-code-eq1.false)),
  omega (arith, c.if-code-lt128.true),
)
