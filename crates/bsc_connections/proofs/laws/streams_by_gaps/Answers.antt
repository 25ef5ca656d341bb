-- Over gaps, the connections of every session carry what its history has.
use Rattle.std.proofs.Common.{refl}
use Rattle.bsc_connections.specs.Streams.{GivesByGaps}
use Rattle.bsc_connections.proofs.Sessions.{carries_history}
use Rattle.bsc_connections.proofs.Streams.{gaps_fit, loses_nothing}
use Rattle.bsc_connections.proofs.laws.streams_by_gaps.Goals as goal

pub returns-clause-history : goal.returns-clause-history
returns-clause-history g c = carries_history _ GivesByGaps gaps_fit

pub returns-clause-ended : goal.returns-clause-ended
returns-clause-ended g c = loses_nothing _ _ _ (λ gaps. refl)
