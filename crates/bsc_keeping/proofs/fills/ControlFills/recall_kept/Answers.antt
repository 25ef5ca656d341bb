-- What a sending side recalls is known of its records.
use Rattle.std.proofs.Common.{ap, ◌∙◌}
use Rattle.bsc_control.specs.Stored.{apart_from_records}
use Rattle.bsc_keeping.proofs.Filled.{side_recalled}
use Rattle.bsc_keeping.proofs.fills.ControlFills.recall_kept.Goals as goal

pub returns-in-Ok-clause-fills : goal.returns-in-Ok-clause-fills
returns-in-Ok-clause-fills g c =
    ap apart_from_records c.recall.ensures.state
    ∙ side_recalled c.args.self.now c.args.self.now.task c.args.terminal c.args.select c.args.kept

pub returns-in-Err-clause-fills : goal.returns-in-Err-clause-fills
returns-in-Err-clause-fills g c =
    ap apart_from_records c.recall.ensures.state
    ∙ side_recalled c.args.self.now c.args.self.now.task c.args.terminal c.args.select c.args.kept
