-- Why a station cannot be fed.
use Rattle.bsc_clients.specs.declared.error.ClientsError.{ClientsError}
use Rattle.bsc_clients.specs.declared.error.ClientsError.TheVariants as clients
use Rattle.bsc_clients.specs.declared.command.error.FeedError.{FeedError}
use Rattle.bsc_clients.specs.declared.command.error.FeedError.TheVariants as feed

-- The error for a station that could not be reached.
abbrev pub reach_error : ClientsError → FeedError
reach_error clients.Address = feed.Address
reach_error clients.NotPermitted = feed.NotPermitted
reach_error clients.NobodyThere = feed.NobodyThere
reach_error clients.Memory = feed.Memory
reach_error _ = feed.Sockets
