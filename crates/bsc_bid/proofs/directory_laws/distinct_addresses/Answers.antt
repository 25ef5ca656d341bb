-- `distinct_addresses`: if all addresses of a line differ, those of each terminal do.
use Rattle.bsc_bid.proofs.EachTerminal.{each_distinct}
use Rattle.bsc_bid.proofs.directory_laws.distinct_addresses.Goals as goal

pub returns : goal.returns
returns c = each_distinct
