-- What stays of a station that is filled with records, and what changes.
use Rattle.std.specs.Prelude.{◌≡◌, ℕ, Bool, List}
use Rattle.bsc_bid.specs.declared.kept.KeptSender.{KeptSender}
use Rattle.bsc_bid.specs.Receiver.{ReceiverValue}
use Rattle.bsc_bid.specs.Terminal.{TerminalValue}
use Rattle.bsc_spool.specs.Queue.{with_offered}
use Rattle.bsc_spool.specs.Spool.{GainsRecord}
use Rattle.bsc_tributary.specs.declared.mode.Mode.{Mode}
use Rattle.bsc_tributary.specs.Stored.{after_recall}
use Rattle.bsc_tributary.specs.Tributary.{spool_at}
use Rattle.bsc_control.specs.Control.{ControlValue, peer_at, with_peer}
use Rattle.bsc_control.specs.Peer.{offered_to}
use Rattle.bsc_control.specs.Stored.{recalled_during}
use Rattle.bsc_station.specs.LineTerminal.{LineTerminalValue, line_terminal_of, with_own_queue}
use Rattle.bsc_station.specs.LineTerminal.{with_spool}

-- What a terminal is apart from its records, and what is known of them.
pub record ApartFromKept : Type 0 where
  pub number : ℕ
  pub terminal : TerminalValue
  pub mode : Mode
  pub ready : Bool
  pub urgent : Bool
  pub receiver : ReceiverValue

abbrev pub apart_from_kept : LineTerminalValue → ApartFromKept
apart_from_kept l =
    record {
      number = l.number;
      terminal = l.tributary.terminal;
      mode = l.tributary.mode;
      ready = l.tributary.ready;
      urgent = l.tributary.urgent;
      receiver = l.tributary.receiver;
    }

-- The control station to which a record was offered, for this selection address of this terminal,
-- and one that recalls what was kept of that.
abbrev pub offered_at : ControlValue → ℕ → ℕ → List ℕ → ControlValue
offered_at c t s r = with_peer c t (offered_to (peer_at c t) s r)

abbrev pub recalled_at : ControlValue → ℕ → ℕ → KeptSender → ControlValue
recalled_at c t s k = recalled_during c c.task t s k

-- It gains a record that had arrived from this terminal.
pub record GainsFrom (old : ControlValue) (t : ℕ) (r : List ℕ) (new : ControlValue) : Type 0 where
  pub gains : GainsRecord (peer_at old t).spool r (peer_at new t).spool
  pub others : new ≡ with_peer old t (record (peer_at old t) { spool = (peer_at new t).spool })

-- The same of a terminal, which has one channel on which it sends.
abbrev pub own_offered : LineTerminalValue → ℕ → ℕ → List ℕ → LineTerminalValue
own_offered l t s r = with_own_queue l (with_offered l.tributary.queue r)

abbrev pub own_recalled : LineTerminalValue → ℕ → ℕ → KeptSender → LineTerminalValue
own_recalled l t s k = line_terminal_of l.number (after_recall l.tributary k)

pub record GainsFor (old : LineTerminalValue) (s : ℕ) (r : List ℕ) (new : LineTerminalValue)
    : Type 0 where
  pub gains : GainsRecord (spool_at old.tributary.spools s) r (spool_at new.tributary.spools s)
  pub others : new ≡ with_spool old s (spool_at new.tributary.spools s)
