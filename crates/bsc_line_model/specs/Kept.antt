-- What holds of every line. That at most one terminal is out of control mode holds if the line is
-- trusted.
use Rattle.std.specs.Prelude.{◌≡◌, ◌<◌, ℕ, true, IsTrue, List, length, slice_index_or, Option, None}
use Rattle.std.specs.Prelude.{Some}
use Rattle.bsc_bid.specs.Terminal.{TerminalValue, HasDistinctAddresses}
use Rattle.bsc_bid.specs.Setup.{SetupValue}
use Rattle.bsc_tributary.specs.declared.mode.Mode.{Mode}
use Rattle.bsc_tributary.specs.declared.mode.Mode.TheVariants.{Control, Receiving, Sending}
use Rattle.bsc_tributary.specs.Tributary.{TributaryValue}
use Rattle.bsc_tributary.specs.Kept.{IsTributary, IsNewTerminal}
use Rattle.bsc_bid.specs.declared.way.Way.{Way}
use Rattle.bsc_bid.specs.declared.way.Way.TheVariants.{FromTerminal, ToTerminal}
use Rattle.bsc_control.specs.Control.{ControlValue, peer_at}
use Rattle.bsc_control.specs.Kept.{IsControl, IsNewControl}
use Rattle.bsc_control.specs.Peer.{no_peer}
use Rattle.bsc_line_model.specs.Line.{LineValue, terminal_in}
use Rattle.bsc_line_model.specs.Together.{AreTogether}

-- a terminal of the line: the control station knows its addresses, and the settings are the same
-- at both ends
pub record IsMember (c : ControlValue) (t : ℕ) (x : TributaryValue) : Type 0 where
  pub tributary : IsTributary x
  pub addresses : x.terminal ≡ (peer_at c t).terminal
  pub setup : x.sender.setup ≡ c.setup

-- the stations of a line
pub record AreStations (c : ControlValue) (ts : List TributaryValue) : Type 0 where
  pub control : IsControl c
  pub count : length c.peers ≡ length ts
  pub members : (t : ℕ) → t < length ts → IsMember c t (terminal_in ts t)

-- a terminal is in control mode, or its channel is the addressed one and its mode is that of the
-- way: it receives if the way is to it, and sends if the way is from it
abbrev pub IsTuned : Option (ℕ × Way) → ℕ → Mode → Type 0
IsTuned addressed t Control = Unit {0}
IsTuned addressed t (Receiving s) = addressed ≡ Some (t, ToTerminal s)
IsTuned addressed t Sending = addressed ≡ Some (t, FromTerminal)

-- at most one terminal is out of control mode, and it is the addressed one
abbrev pub AreTuned : Option (ℕ × Way) → List TributaryValue → Type 0
AreTuned addressed ts = (t : ℕ) → t < length ts → IsTuned addressed t (terminal_in ts t).mode

-- a line: its stations, and, if it is trusted, how they fit together
pub record IsLine (l : LineValue) : Type 0 where
  pub stations : AreStations l.control l.terminals
  pub tuned : IsTrue l.trusted → AreTuned l.addressed l.terminals
  pub together : IsTrue l.trusted → AreTogether l

-- the addresses of each terminal differ
abbrev pub AreEachDistinct : List TerminalValue → Type 0
AreEachDistinct given =
    (t : ℕ) → t < length given →
    HasDistinctAddresses (slice_index_or given t no_peer.terminal)

-- there is a new terminal for each that was given, in their order
pub record AreNewTerminals (setup : SetupValue) (given : List TerminalValue)
    (ts : List TributaryValue) : Type 0 where
  pub count : length ts ≡ length given
  pub each : (t : ℕ) → t < length given →
      IsNewTerminal setup (slice_index_or given t no_peer.terminal) (terminal_in ts t)

-- a new line has new stations made of these values, nothing pending and no channel addressed, and
-- it is trusted
pub record IsNewLine (setup : SetupValue) (given : List TerminalValue) (poll_list : List ℕ)
    (l : LineValue) : Type 0 where
  pub control : IsNewControl setup given poll_list l.control
  pub terminals : AreNewTerminals setup given l.terminals
  pub pending : l.pending ≡ None
  pub trusted : l.trusted ≡ true
  pub addressed : l.addressed ≡ None
