-- Shows that what was written before stays.
use Rattle.bsc_text.proofs.Fronts.{extends_by}
use Rattle.bsc_run.proofs.pending.write_pending.Goals as goal

pub returns-in-None-clause-stays : goal.returns-in-None-clause-stays
returns-in-None-clause-stays g c =
    extends_by _ _ _ c.put.result c.put.ensures.ok c.put.ensures.front
