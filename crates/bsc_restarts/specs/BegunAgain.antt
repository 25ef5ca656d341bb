-- A station that begins again from what its store has.
use Rattle.std.specs.Prelude.{◌≡◌, ◌<◌, ℕ, Bool, List, length, drop, Some}
use Rattle.bsc_bid.specs.Stored.{kept_of, FitsOffered}
use Rattle.bsc_bid.specs.declared.kept.KeptSender.{KeptSender}
use Rattle.bsc_block.specs.Records.{after_forgotten, forgotten}
use Rattle.bsc_spool.specs.Contents.{Contents, records_from}
use Rattle.bsc_spool.specs.declared.channel.Channel.{Channel}
use Rattle.bsc_spool.specs.declared.channel.Channel.TheVariants.{From}
use Rattle.bsc_control.specs.Control.{ControlValue, peer_at, terminals}
use Rattle.bsc_control.specs.Control.{restarted as restarted_control}
use Rattle.bsc_control.specs.Kept.{IsControl, IsNewControl, outbound_of}
use Rattle.bsc_control.specs.Peer.{restarted_outbound, sent_forgotten}
use Rattle.bsc_control.specs.Stored.{apart_from_records, kept_of_side}
use Rattle.bsc_keeping.specs.Filled.{IsControlFilledFrom, IsTerminalFilledFrom, forgotten_of}
use Rattle.bsc_keeping.specs.Filled.{recalled_of}
use Rattle.bsc_keeping.specs.Own.{channel_to, receiving_of, sending_of, sends_from, spools_of}
use Rattle.bsc_keeping.specs.Own.{terminal_at}
use Rattle.bsc_bid.specs.declared.speaker.Speaker.TheVariants.{Control}
use Rattle.bsc_station.specs.LineTerminal.{LineTerminalValue}
use Rattle.bsc_spool.specs.Queue.{waiting, with_forgotten}
use Rattle.bsc_tributary.specs.Kept.{IsNewTerminal, IsTributary}
use Rattle.bsc_tributary.specs.Tributary.{TributaryValue, restarted, spool_at}

-- What a store has of a channel on which a station sends is all that is to be kept of it: how many
-- records are known, how many are unanswered or in doubt, and the records that are not known.
pub record HasSent (it : Contents) (kept : KeptSender) (unknown : List (List ℕ)) : Type 0 where
  pub numbers : recalled_of it ≡ kept
  pub rest : records_from it.known it.offered ≡ unknown

-- What it has of a channel on which the station receives is all that is to be kept of it: the
-- records that arrived, but for those that are forgotten from the beginning.
abbrev pub HasReceived : Contents → Bool → List (List ℕ) → Type 0
HasReceived it forgets_printed records =
    records_from (forgotten_of forgets_printed it) it.arrived
    ≡ drop (forgotten_of forgets_printed it) records

-- The records with which the station begins on that channel.
abbrev pub begun_received : Contents → Bool → List (List ℕ)
begun_received it forgets_printed =
    after_forgotten (forgotten_of forgets_printed it)
    (records_from (forgotten_of forgets_printed it) it.arrived)

-- The store has all that is to be kept of a terminal.
pub record HasTerminal (has : Channel → Contents) (forgets_printed : Bool) (t : TributaryValue)
    : Type 0 where
  pub sent : HasSent (has (From t.terminal.poll)) (kept_of t.sender t.queue) (waiting t.queue)
  pub received : (s : ℕ) → s < length t.terminal.selects
      → HasReceived (has (channel_to t.terminal s)) forgets_printed (spool_at t.spools s).records

-- The terminal n is as the terminal t after a restart; of its records those that are known to have
-- arrived are forgotten, and of those that arrived those that are forgotten from the beginning. How
-- much room there is in its spools, and how often it was refused, is not said.
pub record IsTerminalBegunAgain (has : Channel → Contents) (forgets_printed : Bool)
    (t n : TributaryValue) : Type 0 where
  pub others : record n { queue = t.queue; spools = t.spools } ≡ restarted t
  pub queue : n.queue ≡ with_forgotten t.queue t.queue.known
  pub spools : length n.spools ≡ length t.spools
  pub arrived : (s : ℕ) → s < length t.terminal.selects
      → (spool_at n.spools s).records
      ≡ forgotten (forgotten_of forgets_printed (has (channel_to t.terminal s)))
      (spool_at t.spools s).records

-- A new terminal with the settings and the addresses of a terminal, filled from a store that has
-- all that is to be kept of that, is that terminal begun again.
abbrev pub TerminalBeginsAgain : Type 0
TerminalBeginsAgain = (has : Channel → Contents) (forgets_printed : Bool) (t : TributaryValue)
    (new filled : LineTerminalValue) → IsTributary t
    → FitsOffered (kept_of t.sender t.queue) (length t.queue.offered)
    → IsNewTerminal t.sender.setup t.terminal new.tributary
    → HasTerminal has forgets_printed t
    → IsTerminalFilledFrom has forgets_printed (sends_from (Some t.terminal))
    (spools_of t.terminal) new filled
    → IsTerminalBegunAgain has forgets_printed t filled.tributary

-- A control station has a sending side for each selection address of each terminal.
abbrev pub HasSides : ControlValue → Type 0
HasSides c =
    (t : ℕ) → length (peer_at c t).outbounds ≡ length (terminal_at (terminals c) t).selects

-- What is kept of each of these fits the records that were offered.
abbrev pub SidesFit : ControlValue → Type 0
SidesFit c =
    (t s : ℕ) → s < length (peer_at c t).outbounds
    → FitsOffered (kept_of_side (outbound_of c t s)) (length (outbound_of c t s).queue.offered)

-- The store has all that is to be kept of a control station.
pub record HasControl (has : Channel → Contents) (forgets_printed : Bool) (c : ControlValue)
    : Type 0 where
  pub sent : (t s : ℕ) → s < length (peer_at c t).outbounds
      → HasSent (has (channel_to (terminal_at (terminals c) t) s))
      (kept_of_side (outbound_of c t s)) (waiting (outbound_of c t s).queue)
  pub received : (t : ℕ) → t < length c.peers
      → HasReceived (has (From (terminal_at (terminals c) t).poll)) forgets_printed
      (peer_at c t).spool.records

-- The same of a control station as of a terminal: n is as c after a restart.
pub record IsControlBegunAgain (has : Channel → Contents) (forgets_printed : Bool)
    (c n : ControlValue) : Type 0 where
  pub others : apart_from_records n ≡ apart_from_records (restarted_control c)
  pub sides : (t s : ℕ) → s < length (peer_at c t).outbounds
      → outbound_of n t s
      ≡ sent_forgotten (restarted_outbound (outbound_of c t s)) (outbound_of c t s).queue.known
  pub arrived : (t : ℕ) → t < length c.peers
      → (peer_at n t).spool.records
      ≡ forgotten (forgotten_of forgets_printed (has (From (terminal_at (terminals c) t).poll)))
      (peer_at c t).spool.records

abbrev pub ControlBeginsAgain : Type 0
ControlBeginsAgain = (has : Channel → Contents) (forgets_printed : Bool)
    (c new filled : ControlValue) → IsControl c → HasSides c → SidesFit c
    → IsNewControl c.setup (terminals c) c.poll_list new
    → apart_from_records filled ≡ apart_from_records new
    → HasControl has forgets_printed c
    → IsControlFilledFrom has forgets_printed (sending_of (terminals c) Control)
    (receiving_of (terminals c) Control) new filled
    → IsControlBegunAgain has forgets_printed c filled
