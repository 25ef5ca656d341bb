-- `from_line` returns a code exactly for the octets with odd parity.
use Rattle.std.proofs.Common.{arith, ap, ◌∙◌, ◌%◌, sym, count_ones}
use Rattle.bsc_octet.proofs.OddOctets.{odd_of_low, is_odd_odd_octet, code_of_odd}
use Rattle.bsc_octet.proofs.parity.from_line.Goals as goal

pub returns-then-octet-eq1-clause-code : goal.returns-then-octet-eq1-clause-code
returns-then-octet-eq1-clause-code c =
    (omega arith, odd_of_low c.args.octet (omega arith) c.if-octet-eq1.true)

pub returns-else-octet-eq1-clause-none : goal.returns-else-octet-eq1-clause-none
returns-else-octet-eq1-clause-none c = λ k h e.
    c.if-octet-eq1.false (ap (λ o. count_ones o % 2) (sym e) ∙ is_odd_odd_octet k h)

pub returns-then-octet-eq1-clause-value : goal.returns-then-octet-eq1-clause-value
returns-then-octet-eq1-clause-value c =
    sym (code_of_odd c.args.octet (omega arith) c.if-octet-eq1.true)
