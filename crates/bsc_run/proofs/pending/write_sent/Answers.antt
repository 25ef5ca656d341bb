-- Shows that what was written before stays.
use Rattle.bsc_text.proofs.Fronts.{extends_by}
use Rattle.bsc_run.proofs.Appending.{extends_more}
use Rattle.bsc_run.proofs.pending.write_sent.Goals as goal

pub returns-in_err-put-clause-stays : goal.returns-in_err-put-clause-stays
returns-in_err-put-clause-stays g c =
    extends_more _ _ _ _ c.put.result (extends_by _ _ _ c.write_who.result c.write_who.ensures.ok c.write_who.ensures.front) c.put.ensures.ok
    c.put.ensures.front

pub returns-in_err-write_name-clause-stays : goal.returns-in_err-write_name-clause-stays
returns-in_err-write_name-clause-stays g c =
    extends_more _ _ _ _ c.write_name.result
    (extends_more _ _ _ _ c.put.result (extends_by _ _ _ c.write_who.result c.write_who.ensures.ok c.write_who.ensures.front) c.put.ensures.ok
    c.put.ensures.front) c.write_name.ensures.ok c.write_name.ensures.front

pub returns-clause-stays : goal.returns-clause-stays
returns-clause-stays g c =
    extends_more _ _ _ _ c.put-2.result
    (extends_more _ _ _ _ c.write_name.result
    (extends_more _ _ _ _ c.put.result (extends_by _ _ _ c.write_who.result c.write_who.ensures.ok c.write_who.ensures.front) c.put.ensures.ok
    c.put.ensures.front) c.write_name.ensures.ok c.write_name.ensures.front) c.put-2.ensures.ok
    c.put-2.ensures.front
