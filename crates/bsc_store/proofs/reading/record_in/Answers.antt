use Rattle.std.proofs.Common.{rules}
use Rattle.bsc_store.proofs.RowsRead.{not_record}
use Rattle.bsc_store.proofs.reading.record_in.Goals as goal

pub returns-in-Err-clause-damaged : goal.returns-in-Err-clause-damaged
returns-in-Err-clause-damaged c is it record_is =
    not_record c.args.marks c.args.channel.now c.args.row.now c.in_ok-found.found it
    c.in_ok-found.ensures.mark c.in_ok-found.ensures.is (search rules) (c.in-Err.ensures.damaged is)
    record_is
