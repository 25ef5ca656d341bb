use Rattle.bsc_store.proofs.OnlyReading.{query_only_reads}
use Rattle.bsc_store.proofs.reading.first_row.Goals as goal

pub returns-in-Ok-clause-read : goal.returns-in-Ok-clause-read
returns-in-Ok-clause-read g c =
    query_only_reads g.S.Store c.args.query _ _ _ _
    (rw c.text.ensures at c.query_row.ensures.row) (rw c.text.ensures at c.query_row.ensures.survives)

pub returns-in-Err-QueryReturnedNoRows-clause-read :
    goal.returns-in-Err-QueryReturnedNoRows-clause-read
returns-in-Err-QueryReturnedNoRows-clause-read g c =
    query_only_reads g.S.Store c.args.query _ _ _ _
    (rw c.text.ensures at c.query_row.ensures.row) (rw c.text.ensures at c.query_row.ensures.survives)

pub returns-in-Err-clause-read : goal.returns-in-Err-clause-read
returns-in-Err-clause-read g c =
    query_only_reads g.S.Store c.args.query _ _ _ _
    (rw c.text.ensures at c.query_row.ensures.row) (rw c.text.ensures at c.query_row.ensures.survives)
