-- What the tables have of a channel.
use Rattle.std.specs.Prelude.{ℕ, List, codes}
use Rattle.bsc_spool.specs.declared.channel.Channel.{Channel}
use Rattle.bsc_spool.specs.declared.channel.Channel.TheVariants.{From, To}

-- The word for the direction.
abbrev pub way_of : Channel → List ℕ
way_of (From terminal) = codes "from"
way_of (To selection) = codes "to"

-- The codes of the address.
abbrev pub address_of : Channel → List ℕ
address_of (From terminal) = terminal
address_of (To selection) = selection
