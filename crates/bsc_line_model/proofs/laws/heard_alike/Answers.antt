-- `heard_alike`: trust requires fair hearing if all terminals hear alike.
use Rattle.bsc_line_model.proofs.HeardAlike.{alike_is_fair, fair_is_alike}
use Rattle.bsc_line_model.proofs.laws.heard_alike.Goals as goal

pub returns : goal.returns
returns c = record { fair = alike_is_fair; only = fair_is_alike }
