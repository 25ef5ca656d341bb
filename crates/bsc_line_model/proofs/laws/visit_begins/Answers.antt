-- `visit_begins`: a line on which a visit begins.
use Rattle.bsc_line_model.proofs.Examples.{visit_begins}
use Rattle.bsc_line_model.proofs.laws.visit_begins.Goals as goal

pub returns : goal.returns
returns c = visit_begins
