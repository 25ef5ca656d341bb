use Rattle.bsc_storing.proofs.Doubts.{release_agrees}
use Rattle.bsc_storing.proofs.laws.release_of_bid.Goals as goal

pub returns : goal.returns
returns c = release_agrees
