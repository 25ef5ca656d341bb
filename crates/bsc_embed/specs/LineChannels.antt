-- What a program in C reads of the channels of a line.
use Rattle.std.specs.Prelude.{◌≡◌, ◌<◌, ◌≤◌, ℕ, List, length, slice_get, if◌then◌else◌, Some}
use Rattle.std.specs.Prelude.{Result, Ok, Err}
use Rattle.bsc_bid.specs.Sender.{is_in_doubt}
use Rattle.bsc_bid.specs.declared.way.Way.{Way}
use Rattle.bsc_bid.specs.declared.way.Way.TheVariants.{FromTerminal, ToTerminal}
use Rattle.bsc_line_model.specs.Line.{LineValue, terminal_count, IsChannel, channel_of, phase_of}
use Rattle.bsc_line_model.specs.Offers.{IsNoWay}
use Rattle.bsc_embed.specs.Buffers.{Holds}
use Rattle.bsc_embed.specs.declared.interface.counts.Sending.{Sending}
use Rattle.bsc_embed.specs.declared.interface.fault.Fault.{Fault}
use Rattle.bsc_embed.specs.declared.interface.fault.Fault.TheVariants.{NoSuchTerminal}
use Rattle.bsc_embed.specs.declared.interface.fault.Fault.TheVariants.{NoSuchAddress, NoSuchRecord}
use Rattle.bsc_embed.specs.declared.interface.fault.Fault.TheVariants.{NoRoom}

-- The line does not have this channel: no terminal has this number, or the terminal has no such
-- selection address (own).
abbrev pub IsNoChannel : LineValue → ℕ → Way → Fault → Type 0
IsNoChannel line terminal way NoSuchTerminal = terminal_count line ≤ terminal
IsNoChannel line terminal way NoSuchAddress =
    (terminal < terminal_count line) × IsNoWay line terminal way
IsNoChannel line terminal way _ = ⊥

-- Whether the line has this channel.
abbrev pub IsFound : LineValue → ℕ → Way → Result (Unit {0}) Fault → Type 0
IsFound line terminal way (Ok done) = IsChannel line terminal way
IsFound line terminal way (Err f) = IsNoChannel line terminal way f

-- What the sending end of a channel has (own).
abbrev pub sending_of : LineValue → ℕ → Way → Sending
sending_of line terminal way =
    record {
      offered = length (channel_of line terminal way).offered;
      known = (channel_of line terminal way).known;
      in_doubt = if is_in_doubt (phase_of line terminal way) then 1 else 0;
    }

-- The records that arrived on a channel, in order (own).
abbrev pub arrivals_of : LineValue → ℕ → Way → List (List ℕ)
arrivals_of line terminal way = (channel_of line terminal way).spooled

-- What the sending end of a channel has is given, or the channel does not exist: `new` and `old`
-- are what is given after and before.
abbrev pub SendingOn :
    ℕ → Way → Sending → Sending → LineValue → Result (Unit {0}) Fault → Type 0
SendingOn terminal way new old line (Ok done) =
    IsChannel line terminal way × (new ≡ sending_of line terminal way)
SendingOn terminal way new old line (Err f) = IsNoChannel line terminal way f × (new ≡ old)

-- The number of records that arrived on a channel is given, or the channel does not exist.
abbrev pub ArrivalsOn : ℕ → Way → ℕ → ℕ → LineValue → Result (Unit {0}) Fault → Type 0
ArrivalsOn terminal way new old line (Ok done) =
    IsChannel line terminal way × (new ≡ length (arrivals_of line terminal way))
ArrivalsOn terminal way new old line (Err f) = IsNoChannel line terminal way f × (new ≡ old)

-- The record that arrived on a channel at this index, counted from 0.
pub record HasArrived (line : LineValue) (terminal : ℕ) (way : Way) (index : ℕ) (chars : List ℕ)
    : Type 0 where
  pub channel : IsChannel line terminal way
  pub arrived : slice_get (arrivals_of line terminal way) index ≡ Some chars

-- The record that arrived at this index is put at the front of the buffer.
pub record GivesArrived (terminal : ℕ) (way : Way) (index : ℕ) (new : List ℕ) (len : ℕ)
    (old : List ℕ) (line : LineValue) : Type 0 where
  pub chars : List ℕ
  pub arrived : HasArrived line terminal way index chars
  pub room : length chars ≤ length old
  pub given : Holds chars old new len

-- The record that arrived at this index does not fit into the buffer.
pub record HasNoRoom (terminal : ℕ) (way : Way) (index : ℕ) (old : List ℕ) (line : LineValue)
    : Type 0 where
  pub chars : List ℕ
  pub arrived : HasArrived line terminal way index chars
  pub short : length old < length chars

-- Nothing is put into the buffer, for this reason.
abbrev pub IsNotArrived : ℕ → Way → ℕ → List ℕ → LineValue → Fault → Type 0
IsNotArrived terminal way index old line NoSuchRecord =
    IsChannel line terminal way × (length (arrivals_of line terminal way) ≤ index)
IsNotArrived terminal way index old line NoRoom = HasNoRoom terminal way index old line
IsNotArrived terminal way index old line f = IsNoChannel line terminal way f

-- A record that arrived on a channel is given: the buffer and the length after, and before.
abbrev pub ArrivedOn : ℕ → Way → ℕ → List ℕ → ℕ → List ℕ → ℕ → LineValue
    → Result (Unit {0}) Fault → Type 0
ArrivedOn terminal way index new len old old_len line (Ok done) =
    GivesArrived terminal way index new len old line
ArrivedOn terminal way index new len old old_len line (Err f) =
    IsNotArrived terminal way index old line f × (new ≡ old) × (len ≡ old_len)

-- What a terminal has as the sending end.
abbrev pub SendingFrom : ℕ → Sending → Sending → LineValue → Result (Unit {0}) Fault → Type 0
SendingFrom terminal = SendingOn terminal FromTerminal

-- What the control station has as the sending end to a selection address.
abbrev pub SendingTo : ℕ → ℕ → Sending → Sending → LineValue → Result (Unit {0}) Fault → Type 0
SendingTo terminal select = SendingOn terminal (ToTerminal select)

-- How many records arrived at the control station from a terminal.
abbrev pub ArrivalsFrom : ℕ → ℕ → ℕ → LineValue → Result (Unit {0}) Fault → Type 0
ArrivalsFrom terminal = ArrivalsOn terminal FromTerminal

-- How many records arrived at a terminal for a selection address.
abbrev pub ArrivalsTo : ℕ → ℕ → ℕ → ℕ → LineValue → Result (Unit {0}) Fault → Type 0
ArrivalsTo terminal select = ArrivalsOn terminal (ToTerminal select)

-- A record that arrived at the control station from a terminal.
abbrev pub ArrivedFrom : ℕ → ℕ → List ℕ → ℕ → List ℕ → ℕ → LineValue
    → Result (Unit {0}) Fault → Type 0
ArrivedFrom terminal = ArrivedOn terminal FromTerminal

-- A record that arrived at a terminal for a selection address.
abbrev pub ArrivedTo : ℕ → ℕ → ℕ → List ℕ → ℕ → List ℕ → ℕ → LineValue
    → Result (Unit {0}) Fault → Type 0
ArrivedTo terminal select = ArrivedOn terminal (ToTerminal select)
