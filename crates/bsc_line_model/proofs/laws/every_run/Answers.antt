-- `every_run`: every run leaves a line with the channels of before.
use Rattle.bsc_line_model.proofs.RunsKeep.{runs_keep_line}
use Rattle.bsc_line_model.proofs.laws.every_run.Goals as goal

pub returns : goal.returns
returns c = runs_keep_line
