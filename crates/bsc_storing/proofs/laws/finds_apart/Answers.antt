use Rattle.bsc_storing.proofs.Doubts.{found_apart}
use Rattle.bsc_storing.proofs.laws.finds_apart.Goals as goal

pub returns : goal.returns
returns c = found_apart
