-- The names of channels in messages.
use Rattle.std.specs.Prelude.{ℕ, ◌&&◌, nat_le, List, [], ◌∷◌, ◌++◌, if◌then◌else◌, codes}
use Rattle.std.specs.List.{flat_map}
use Rattle.bsc_frame.specs.Addresses.{padded}
use Rattle.bsc_spool.specs.declared.channel.Channel.{Channel}
use Rattle.bsc_spool.specs.declared.channel.Channel.TheVariants as channel
use Rattle.bsc_spool.specs.declared.named.NamedChannel.{NamedChannel}
use Rattle.bsc_spool.specs.declared.named.NamedChannel.TheVariants.{From, To}

-- A channel as a fault names it.
abbrev pub named : Channel → NamedChannel
named (channel.From address) = From (padded address)
named (channel.To address) = To (padded address)

-- What is printed of a code: a character from `!` to `~`, and nothing of the zeros after the last.
abbrev pub letter : ℕ → List ℕ
letter code = if nat_le 33 code && nat_le code 126 then code ∷ [] else []

-- The name of a channel in print.
abbrev pub name_text : NamedChannel → List ℕ
name_text (From address) = codes "from " ++ flat_map letter address
name_text (To address) = codes "to " ++ flat_map letter address
