-- `headline`: every run that leaves the line trusted keeps the records.
use Rattle.bsc_line_model.proofs.RunsKeep.{runs_keep}
use Rattle.bsc_line_model.proofs.laws.headline.Goals as goal

pub returns : goal.returns
returns c = runs_keep c.bid_laws.ensures
