-- Every step has as many silences as are due.
use Rattle.bsc_connections.proofs.Silences.{tells_each_silence}
use Rattle.bsc_connections.proofs.laws.silences.Goals as goal

pub returns : goal.returns
returns g c = tells_each_silence _
