-- A spool that gains a record is part of the records.
use Rattle.std.proofs.Common.{ap, refl, ◌∙◌}
use Rattle.bsc_control.specs.Stored.{apart_from_records}
use Rattle.bsc_keeping.proofs.Filled.{peer_filled}
use Rattle.bsc_keeping.proofs.fills.ControlFills.add_arrived.Goals as goal

pub returns-in-Ok-clause-fills : goal.returns-in-Ok-clause-fills
returns-in-Ok-clause-fills g c =
    ap apart_from_records c.keep_arrived.ensures.others
    ∙ peer_filled c.args.self.now c.args.number _ refl
