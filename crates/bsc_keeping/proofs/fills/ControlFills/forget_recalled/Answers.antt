-- A queue that forgets is part of the records.
use Rattle.bsc_keeping.proofs.Filled.{all_sent_forgotten}
use Rattle.bsc_keeping.proofs.fills.ControlFills.forget_recalled.Goals as goal

pub returns-clause-fills : goal.returns-clause-fills
returns-clause-fills g c = all_sent_forgotten c.forget_known.ensures
