-- Shows that what was written before stays.
use Rattle.bsc_text.proofs.Fronts.{extends_by}
use Rattle.bsc_run.proofs.Appending.{extends_more}
use Rattle.bsc_run.proofs.report.write_counts.Goals as goal

pub returns-in_err-put_numbered-clause-stays : goal.returns-in_err-put_numbered-clause-stays
returns-in_err-put_numbered-clause-stays g c =
    extends_by _ _ _ c.put_numbered.result c.put_numbered.ensures.ok c.put_numbered.ensures.front

pub returns-in_err-put_numbered-2-clause-stays : goal.returns-in_err-put_numbered-2-clause-stays
returns-in_err-put_numbered-2-clause-stays g c =
    extends_more _ _ _ _ c.put_numbered-2.result
    (extends_by _ _ _ c.put_numbered.result c.put_numbered.ensures.ok c.put_numbered.ensures.front)
    c.put_numbered-2.ensures.ok c.put_numbered-2.ensures.front

pub returns-clause-stays : goal.returns-clause-stays
returns-clause-stays g c =
    extends_more _ _ _ _ c.put_numbered-3.result
    (extends_more _ _ _ _ c.put_numbered-2.result
    (extends_by _ _ _ c.put_numbered.result c.put_numbered.ensures.ok c.put_numbered.ensures.front)
    c.put_numbered-2.ensures.ok c.put_numbered-2.ensures.front) c.put_numbered-3.ensures.ok
    c.put_numbered-3.ensures.front
