-- The store of a station that has begun again still has all that is to be kept of it.
use Rattle.std.specs.Prelude.{◌≡◌, ◌≤◌, Bool, List, length, Some}
use Rattle.bsc_bid.specs.Stored.{FitsOffered, kept_of}
use Rattle.bsc_bid.specs.Terminal.{TerminalValue}
use Rattle.bsc_tributary.specs.Kept.{IsNewTerminal, IsTributary}
use Rattle.bsc_control.specs.Control.{ControlValue, terminals}
use Rattle.bsc_control.specs.Kept.{IsControl, IsNewControl}
use Rattle.bsc_control.specs.Stored.{apart_from_records}
use Rattle.bsc_spool.specs.Contents.{Contents}
use Rattle.bsc_spool.specs.declared.channel.Channel.{Channel}
use Rattle.bsc_station.specs.LineTerminal.{LineTerminalValue}
use Rattle.bsc_station.specs.Feeding.{kept_at_control}
use Rattle.bsc_keeping.specs.Filled.{IsControlFilledFrom, IsTerminalFilledFrom, KeepsFrom}
use Rattle.bsc_keeping.specs.Own.{receiving_of, sending_of, sends_from, spools_of}
use Rattle.bsc_keeping.specs.declared.keeper.Keeper.{Keeper}
use Rattle.bsc_bid.specs.declared.speaker.Speaker.{Speaker}
use Rattle.bsc_bid.specs.declared.speaker.Speaker.TheVariants.{Control}
use Rattle.bsc_restarts.specs.AfterCrash.{LeavesControl, LeavesTerminal, arrived_at_control}
use Rattle.bsc_restarts.specs.AfterCrash.{arrived_at_terminal, kept_at_terminal, waiting_at_control}
use Rattle.bsc_restarts.specs.AfterCrash.{waiting_at_terminal}
use Rattle.bsc_restarts.specs.BegunAgain.{HasSides, SidesFit}
use Rattle.bsc_restarts.specs.Kept.{HasStation, Knows}

-- Of no channel more records are kept as printed than arrived.
abbrev pub PrintsArrived : (Channel → Contents) → Type 0
PrintsArrived has = (channel : Channel) → (has channel).printed ≤ length (has channel).arrived

-- What a crash left of a terminal is all that is to be kept of the one that begins again from it.
abbrev pub TerminalKeptOnceBegun : Type 0
TerminalKeptOnceBegun =
    (left : Channel → Contents) (forgets_printed : Bool) (l new filled : LineTerminalValue)
    → IsTributary l.tributary
    → FitsOffered (kept_of l.tributary.sender l.tributary.queue)
    (length l.tributary.queue.offered)
    → IsNewTerminal l.tributary.sender.setup l.tributary.terminal new.tributary
    → PrintsArrived left → LeavesTerminal left l
    → IsTerminalFilledFrom left forgets_printed (sends_from (Some l.tributary.terminal))
    (spools_of l.tributary.terminal) new filled
    → HasStation kept_at_terminal waiting_at_terminal arrived_at_terminal left
    (sends_from (Some l.tributary.terminal)) (spools_of l.tributary.terminal) filled

-- So it is of a control station.
abbrev pub ControlKeptOnceBegun : Type 0
ControlKeptOnceBegun =
    (left : Channel → Contents) (forgets_printed : Bool) (c new filled : ControlValue)
    → IsControl c → HasSides c → SidesFit c
    → IsNewControl c.setup (terminals c) c.poll_list new
    → apart_from_records filled ≡ apart_from_records new
    → PrintsArrived left → LeavesControl left c
    → IsControlFilledFrom left forgets_printed (sending_of (terminals c) Control)
    (receiving_of (terminals c) Control) new filled
    → HasStation kept_at_control waiting_at_control arrived_at_control left
    (sending_of (terminals c) Control) (receiving_of (terminals c) Control) filled

-- What keeps its records knows how much of each channel the store has.
abbrev pub KnownOnceBegun : Type 0 → Type 0
KnownOnceBegun K =
    (has : Channel → Contents) (ts : List TerminalValue) (owner : Speaker) (keeper : Keeper K)
    → KeepsFrom has (sending_of ts owner) (receiving_of ts owner) keeper
    → Knows has (sending_of ts owner) (receiving_of ts owner) keeper
