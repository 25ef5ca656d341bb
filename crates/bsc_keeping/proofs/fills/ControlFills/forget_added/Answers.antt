-- A spool that forgets is part of the records.
use Rattle.bsc_keeping.proofs.Filled.{arrived_forgotten}
use Rattle.bsc_keeping.proofs.fills.ControlFills.forget_added.Goals as goal

pub returns-clause-fills : goal.returns-clause-fills
returns-clause-fills g c =
    arrived_forgotten c.args.self.now c.args.number c.args.count _ c.forget_first.ensures
