-- The networks of a list.
use Rattle.std.specs.Prelude.{List, take}
use Rattle.bsc_trust.specs.declared.network.Network.{Network}
use Rattle.bsc_trust.specs.declared.networks.Networks.{Networks}

-- The networks that are listed, in the order in which they were added.
abbrev pub listed : Networks → List Network
listed networks = take networks.count networks.networks
