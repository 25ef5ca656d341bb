-- Over socket records, the connections of every session carry what its history has.
use Rattle.bsc_connections.specs.Streams.{GivesRecords}
use Rattle.bsc_connections.proofs.Sessions.{carries_history}
use Rattle.bsc_connections.proofs.Streams.{records_fit}
use Rattle.bsc_connections.proofs.laws.streams.Goals as goal

pub returns-clause-history : goal.returns-clause-history
returns-clause-history g c = carries_history _ GivesRecords records_fit

pub returns-clause-records : goal.returns-clause-records
returns-clause-records g c = λ old new given heard gives none.
    record { whole = gives.records; carried = gives.carried; rest_begins_none = gives.rest none }
