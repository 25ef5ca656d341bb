-- The next block of a queue takes 1 to 7 waiting records, and has the right end. A queue stays one
-- when known records are forgotten, and the waiting ones stay as they are.
use Rattle.std.proofs.Common.{arith}
use Rattle.bsc_spool.specs.Queue.{waiting}
use Rattle.bsc_spool.proofs.NextBlock.{next_block_is_next}
use Rattle.bsc_spool.proofs.laws.next_blocks.Goals as goal

pub returns-clause-some : goal.returns-clause-some
returns-clause-some c =
    λ q n k e. next_block_is_next q n (c.cut_into_blocks.ensures.some q.format (waiting q) k.format
    (c.cut_into_blocks.ensures.rest q.format.full q.known q.offered k.short))
    (c.cut_into_blocks.ensures.taken q.format (waiting q)) e

pub returns-clause-forgets : goal.returns-clause-forgets
returns-clause-forgets c =
    λ q n k l. record {
      format = k.format;
      known = omega (
        arith,
        k.known,
        c.forgotten_records.ensures.count n q.offered (omega (arith, l, k.known)),
      );
      short = c.forgotten_records.ensures.short q.format.full n q.offered k.short;
    }

pub returns-clause-waits : goal.returns-clause-waits
returns-clause-waits c =
    λ q n k l. c.forgotten_records.ensures.rest n q.known q.offered l k.known
