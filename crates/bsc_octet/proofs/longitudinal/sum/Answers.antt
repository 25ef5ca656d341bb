-- The exclusive or of the chunks and that of the rest give the longitudinal sum.
use Rattle.std.proofs.Common.{arith, length, ◌/◌}
use Rattle.bsc_octet.proofs.LaneParity.{parts_xor}
use Rattle.bsc_octet.proofs.longitudinal.sum.Goals as goal

pub returns-clause-value : goal.returns-clause-value
returns-clause-value c =
    parts_xor 32 (length c.args.octets.now / 32) c.xor_of.result c.xor_of_rest.result
    c.args.octets.now (omega arith)
    (rw c.as_chunks.ensures.front at c.xor_of.ensures)
    (rw c.as_chunks.ensures.back at c.xor_of_rest.ensures)
