-- What is heard was admitted, and what is ignored was not and has no effect.
use Rattle.bsc_connections.proofs.Admissions.{hears_what_is_admitted}
use Rattle.bsc_connections.proofs.laws.admissions.Goals as goal

pub returns : goal.returns
returns g c = hears_what_is_admitted _
