-- What trust means, from the reason that each event leaves.
use Rattle.bsc_trust.proofs.Trusting.{stays_for_ever, none_exactly_if_fine}
use Rattle.bsc_trust.proofs.laws.trust.Goals as goal

pub returns-clause-lasts : goal.returns-clause-lasts
returns-clause-lasts c = stays_for_ever

pub returns-clause-means : goal.returns-clause-means
returns-clause-means c = none_exactly_if_fine
