-- The channels of the line of a store.
use Rattle.std.specs.Prelude.{◌==◌, ◌||◌, ◌-◌, not, ℕ, Bool, true, false, List, length}
use Rattle.std.specs.Prelude.{Option, Some, None, option_map, slice_get, if◌then◌else◌}
use Rattle.bsc_bid.specs.Terminal.{TerminalValue}
use Rattle.bsc_bid.specs.declared.way.Way.{Way}
use Rattle.bsc_bid.specs.declared.way.Way.TheVariants.{FromTerminal, ToTerminal}
use Rattle.bsc_spool.specs.declared.channel.Channel.{Channel}
use Rattle.bsc_spool.specs.declared.channel.Channel.TheVariants.{From, To}
use Rattle.bsc_bid.specs.declared.speaker.Speaker.{Speaker}
use Rattle.bsc_bid.specs.declared.speaker.Speaker.TheVariants.{Control, Terminal}
use Rattle.bsc_options.specs.declared.store_works.StoreChannel.{StoreChannel}
use Rattle.bsc_text.specs.Channels.{channel_name}
use Rattle.bsc_storing.specs.declared.kept_line.KeptLine.{KeptLine}
use Rattle.bsc_bid.specs.declared.channel.ChannelName.{ChannelName}

-- The name of the channel to a selection address.
abbrev pub to_terminal : StoreChannel → ChannelName
to_terminal c = record { terminal = c.terminal; way = ToTerminal c.select }

-- The name of the channel from a terminal, if it is that of the terminal with this number.
abbrev pub from_terminal : StoreChannel → ℕ → Option ChannelName
from_terminal c number =
    if not (c.terminal == number) || not (c.select == 0) then None
    else Some (record { terminal = c.terminal; way = FromTerminal })

-- The name of the channel on which a station sends, by what a user calls it: the control station
-- sends to the selection addresses, a terminal on its one channel.
abbrev pub sending_name : Speaker → StoreChannel → Option ChannelName
sending_name Control c = Some (to_terminal c)
sending_name (Terminal number) c = from_terminal c number

-- The name of the channel on which a station receives.
abbrev pub receiving_name : Speaker → StoreChannel → Option ChannelName
receiving_name Control c = from_terminal c c.terminal
receiving_name (Terminal number) c =
    if number == c.terminal then Some (to_terminal c) else None

-- Whether the station sends on a channel, and whether it receives on it.
abbrev pub sends_on : Speaker → ChannelName → Way → Bool
sends_on Control name (ToTerminal select) = true
sends_on Control name FromTerminal = false
sends_on (Terminal number) name FromTerminal = number == name.terminal
sends_on (Terminal number) name (ToTerminal select) = false

abbrev pub receives_on : Speaker → ChannelName → Way → Bool
receives_on Control name FromTerminal = true
receives_on Control name (ToTerminal select) = false
receives_on (Terminal number) name (ToTerminal select) = number == name.terminal
receives_on (Terminal number) name FromTerminal = false

-- The channel of this terminal in this direction, if there is one.
abbrev pub channel_of : Option TerminalValue → Way → Option Channel
channel_of None way = None
channel_of (Some t) FromTerminal = Some (From t.poll)
channel_of (Some t) (ToTerminal s) = option_map To (slice_get t.selects s)

-- The channel with this name, if the line has one.
abbrev pub channel_at : KeptLine → ChannelName → Option Channel
channel_at line name = channel_of (slice_get line.terminals.items name.terminal) name.way

-- The name of the channel at this place of a terminal: first the one from it, and then those to its
-- selection addresses.
abbrev pub name_at : ℕ → ℕ → ChannelName
name_at t place =
    record { terminal = t; way = if place == 0 then FromTerminal else ToTerminal (place - 1) }

-- Whether one station is the control station and the other a terminal.
abbrev pub are_two_ends : Speaker → Speaker → Bool
are_two_ends Control (Terminal number) = true
are_two_ends (Terminal number) Control = true
are_two_ends one other = false

-- A channel by its name, and its name.
abbrev pub named_at : KeptLine → Option ChannelName → Option (ChannelName × Channel)
named_at line None = None
named_at line (Some name) = option_map (λ c. (name, c)) (channel_at line name)

-- The number of selection addresses of a terminal.
abbrev pub addresses_of : Option TerminalValue → ℕ
addresses_of None = 0
addresses_of (Some t) = length t.selects

-- The name of a channel in print.
abbrev pub name_shown : KeptLine → ChannelName → List ℕ
name_shown line name =
    channel_name (addresses_of (slice_get line.terminals.items name.terminal)) name.terminal
    name.way
