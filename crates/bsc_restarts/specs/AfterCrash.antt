-- A station that begins again from what a crash left.
use Rattle.std.specs.Prelude.{◌≡◌, ◌<◌, ℕ, nat_lt, Bool, List, [], length, Option, Some}
use Rattle.std.specs.Prelude.{if◌then◌else◌}
use Rattle.bsc_block.specs.Records.{forgotten}
use Rattle.bsc_spool.specs.Queue.{waiting}
use Rattle.bsc_bid.specs.Stored.{FitsOffered, kept_of}
use Rattle.bsc_bid.specs.declared.kept.KeptSender.{KeptSender}
use Rattle.bsc_tributary.specs.Kept.{IsNewTerminal, IsTributary}
use Rattle.bsc_tributary.specs.Tributary.{TributaryValue, spool_at}
use Rattle.bsc_control.specs.Control.{ControlValue, peer_at, terminals}
use Rattle.bsc_control.specs.Kept.{IsControl, IsNewControl, outbound_of}
use Rattle.bsc_control.specs.Peer.{PeerValue}
use Rattle.bsc_control.specs.Stored.{apart_from_records}
use Rattle.bsc_spool.specs.Contents.{Contents, records_from}
use Rattle.bsc_spool.specs.declared.channel.Channel.{Channel}
use Rattle.bsc_spool.specs.declared.channel.Channel.TheVariants.{From}
use Rattle.bsc_station.specs.LineTerminal.{LineTerminalValue}
use Rattle.bsc_station.specs.Feeding.{kept_at_control}
use Rattle.bsc_keeping.specs.Filled.{IsControlFilledFrom, IsTerminalFilledFrom}
use Rattle.bsc_keeping.specs.Own.{channel_to, receiving_of, sending_of, sends_from, spools_of}
use Rattle.bsc_keeping.specs.Own.{terminal_at}
use Rattle.bsc_bid.specs.declared.speaker.Speaker.TheVariants.{Control}
use Rattle.bsc_restarts.specs.BegunAgain.{HasSides, IsControlBegunAgain, IsTerminalBegunAgain}
use Rattle.bsc_restarts.specs.BegunAgain.{SidesFit}
use Rattle.bsc_restarts.specs.Kept.{HasStation}

-- What a terminal says is to be kept of the one channel on which it sends, which records of that it
-- does not know to have arrived, and which records arrived for a selection address.
abbrev pub kept_at_terminal : LineTerminalValue → ℕ → ℕ → Option KeptSender
kept_at_terminal l t s = Some (kept_of l.tributary.sender l.tributary.queue)

abbrev pub waiting_at_terminal : LineTerminalValue → ℕ → ℕ → List (List ℕ)
waiting_at_terminal l t s = waiting l.tributary.queue

abbrev pub arrived_at_terminal : LineTerminalValue → ℕ → List (List ℕ)
arrived_at_terminal l s =
    if nat_lt s (length l.tributary.terminal.selects)
    then (spool_at l.tributary.spools s).records else []

-- Of a control station, which records it does not know to have arrived of those for a selection
-- address of a terminal, and which records arrived from a terminal.
abbrev pub waiting_at_control : ControlValue → ℕ → ℕ → List (List ℕ)
waiting_at_control c t s = waiting (outbound_of c t s).queue

abbrev pub arrived_at_control : ControlValue → ℕ → List (List ℕ)
arrived_at_control c t =
    if nat_lt t (length c.peers) then (peer_at c t).spool.records else []

-- A crash left all that is to be kept of a terminal.
abbrev pub LeavesTerminal : (Channel → Contents) → LineTerminalValue → Type 0
LeavesTerminal left l =
    HasStation kept_at_terminal waiting_at_terminal arrived_at_terminal left
    (sends_from (Some l.tributary.terminal)) (spools_of l.tributary.terminal) l

-- Or of a control station.
abbrev pub LeavesControl : (Channel → Contents) → ControlValue → Type 0
LeavesControl left c =
    HasStation kept_at_control waiting_at_control arrived_at_control left
    (sending_of (terminals c) Control) (receiving_of (terminals c) Control) c

-- The terminal `whole` is the terminal t as it would be if it had forgotten no record that arrived:
-- its records are those that are left, and t has the same, but for the first of them.
pub record IsWholeTerminal (left : Channel → Contents) (t whole : TributaryValue) : Type 0 where
  pub others : record whole { spools = t.spools } ≡ t
  pub spools : length whole.spools ≡ length t.spools
  pub all : (s : ℕ) → s < length t.terminal.selects
      → (spool_at whole.spools s).records ≡ records_from 0 (left (channel_to t.terminal s)).arrived
  pub same : (s : ℕ) → s < length t.terminal.selects
      → (places : ℕ) × ((spool_at t.spools s).records
      ≡ forgotten places (spool_at whole.spools s).records)

-- A new terminal that is filled from it is then that terminal begun again, with all its records.
abbrev pub TerminalBeginsAfterCrash : Type 0
TerminalBeginsAfterCrash =
    (left : Channel → Contents) (forgets_printed : Bool) (l new filled : LineTerminalValue)
    → IsTributary l.tributary
    → FitsOffered (kept_of l.tributary.sender l.tributary.queue)
    (length l.tributary.queue.offered)
    → IsNewTerminal l.tributary.sender.setup l.tributary.terminal new.tributary
    → LeavesTerminal left l
    → IsTerminalFilledFrom left forgets_printed (sends_from (Some l.tributary.terminal))
    (spools_of l.tributary.terminal) new filled
    → (whole : TributaryValue) × IsWholeTerminal left l.tributary whole
    × IsTerminalBegunAgain left forgets_printed whole filled.tributary

-- What a control station keeps for a terminal, and what it would keep if it had forgotten no record
-- that arrived from it, of which this is left.
pub record IsWholePeer (it : Contents) (p whole : PeerValue) : Type 0 where
  pub others : record whole { spool = p.spool } ≡ p
  pub all : whole.spool.records ≡ records_from 0 it.arrived
  pub places : ℕ
  pub same : p.spool.records ≡ forgotten places whole.spool.records

-- The control station `whole` is c as it would be if it had forgotten no record that arrived.
pub record IsWholeControl (left : Channel → Contents) (c whole : ControlValue) : Type 0 where
  pub others : record whole { peers = c.peers } ≡ c
  pub peers : length whole.peers ≡ length c.peers
  pub addresses : terminals whole ≡ terminals c
  pub each : (t : ℕ) → t < length c.peers
      → IsWholePeer (left (From (terminal_at (terminals c) t).poll)) (peer_at c t)
      (peer_at whole t)

-- A new control station that is filled from it is then that one begun again, with all its records.
abbrev pub ControlBeginsAfterCrash : Type 0
ControlBeginsAfterCrash =
    (left : Channel → Contents) (forgets_printed : Bool) (c new filled : ControlValue)
    → IsControl c → HasSides c → SidesFit c
    → IsNewControl c.setup (terminals c) c.poll_list new
    → apart_from_records filled ≡ apart_from_records new
    → LeavesControl left c
    → IsControlFilledFrom left forgets_printed (sending_of (terminals c) Control)
    (receiving_of (terminals c) Control) new filled
    → (whole : ControlValue) × IsWholeControl left c whole
    × IsControlBegunAgain left forgets_printed whole filled
