-- The value of a line as contracts see it, and its channels.
use Rattle.std.specs.Prelude.{ℕ, ◌<◌, Bool, true, false, List, [], length, slice_index_or}
use Rattle.std.specs.Prelude.{slice_set, Option}
use Rattle.bsc_bid.specs.declared.phase.Phase.{Phase}
use Rattle.bsc_bid.specs.Channel.{Channel, channel}
use Rattle.bsc_bid.specs.Receiver.{new_receiver}
use Rattle.bsc_tributary.specs.declared.mode.Mode.TheVariants as mode
use Rattle.bsc_tributary.specs.Tributary.{TributaryValue, tributary_of, spool_at}
use Rattle.bsc_bid.specs.declared.way.Way.{Way}
use Rattle.bsc_bid.specs.declared.way.Way.TheVariants.{FromTerminal, ToTerminal}
use Rattle.bsc_control.specs.Peer.{no_peer, no_outbound}
use Rattle.bsc_control.specs.Control.{ControlValue, peer_at}
use Rattle.bsc_control.specs.Kept.{outbound_of}
use Rattle.bsc_line_model.specs.declared.transmission.Transmission.{Transmission}

-- a line: its control station and its terminals, the pending transmission, whether each
-- transmission so far was heard fairly, and the channel that the last whole call named
pub record LineValue : Type 0 where
  pub control : ControlValue
  pub terminals : List TributaryValue
  pub pending : Option Transmission
  pub trusted : Bool
  pub addressed : Option (ℕ × Way)

abbrev pub line_of : ControlValue → List TributaryValue → Option Transmission → Bool →
    Option (ℕ × Way) → LineValue
line_of control terminals pending trusted addressed =
    record {
      control = control;
      terminals = terminals;
      pending = pending;
      trusted = trusted;
      addressed = addressed;
    }

-- the default that is read past the end of the list
abbrev pub no_terminal : TributaryValue
no_terminal =
    tributary_of no_peer.terminal mode.Control false false no_outbound.sender (new_receiver true)
    no_outbound.queue []

-- the terminal of this number
abbrev pub terminal_in : List TributaryValue → ℕ → TributaryValue
terminal_in ts t = slice_index_or ts t no_terminal

abbrev pub terminal_at : LineValue → ℕ → TributaryValue
terminal_at l t = terminal_in l.terminals t

-- the line with another terminal t, and with another control station
abbrev pub with_terminal : LineValue → ℕ → TributaryValue → LineValue
with_terminal l t x = record l { terminals = slice_set l.terminals t x }

abbrev pub with_control : LineValue → ControlValue → LineValue
with_control l c = record l { control = c }

-- the number of terminals
abbrev pub terminal_count : LineValue → ℕ
terminal_count l = length l.terminals

-- the terminal has an address for this way
abbrev pub IsWay : TributaryValue → Way → Type 0
IsWay x FromTerminal = Unit {0}
IsWay x (ToTerminal s) = s < length x.terminal.selects

-- a channel of the line: one from each terminal, and one to each selection address
pub record IsChannel (l : LineValue) (t : ℕ) (way : Way) : Type 0 where
  pub there : t < terminal_count l
  pub its_way : IsWay (terminal_at l t) way

-- the offered and known records of a channel are those of the queue at its sending end, its spooled
-- records those of the spool at its receiving end
abbrev pub channel_of : LineValue → ℕ → Way → Channel
channel_of l t FromTerminal =
    channel (terminal_at l t).queue (peer_at l.control t).spool.records
channel_of l t (ToTerminal s) =
    channel (outbound_of l.control t s).queue (spool_at (terminal_at l t).spools s).records

-- the phase of the channel's sender
abbrev pub phase_of : LineValue → ℕ → Way → Phase
phase_of l t FromTerminal = (terminal_at l t).sender.phase
phase_of l t (ToTerminal s) = (outbound_of l.control t s).sender.phase
