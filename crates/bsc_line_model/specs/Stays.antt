-- Every event keeps the invariant of a line. The invariants of the stations' own types are premises
-- here: that a terminal is a terminal, and a control station a control station.
use Rattle.std.specs.Prelude.{◌≡◌, ◌≢◌, ℕ, ◌<◌, ◌≤◌, Bool, true, List, length, Some}
use Rattle.bsc_frame.specs.declared.message.Heard.{Heard}
use Rattle.bsc_spool.specs.Queue.{with_offered}
use Rattle.bsc_bid.specs.Setup.{SetupValue}
use Rattle.bsc_bid.specs.Terminal.{TerminalValue}
use Rattle.bsc_tributary.specs.Tributary.{TributaryValue, after_release}
use Rattle.bsc_tributary.specs.Tributary.{restarted as restarted_tributary}
use Rattle.bsc_tributary.specs.Kept.{IsTributary, KeepsSetupAndMode}
use Rattle.bsc_control.specs.Control.{ControlValue, peer_at, with_peer}
use Rattle.bsc_control.specs.Control.{restarted as restarted_control}
use Rattle.bsc_control.specs.Peer.{offered_to, with_outbound, outbound_released}
use Rattle.bsc_control.specs.Kept.{IsControl, outbound_of}
use Rattle.bsc_bid.specs.declared.speaker.Speaker.{Speaker}
use Rattle.bsc_bid.specs.declared.speaker.Speaker.TheVariants.{Control, Terminal}
use Rattle.bsc_line_model.specs.declared.transmission.Transmission.{Transmission}
use Rattle.bsc_line_model.specs.Line.{LineValue, terminal_at, terminal_count, with_terminal}
use Rattle.bsc_line_model.specs.Line.{with_control}
use Rattle.bsc_line_model.specs.Carries.{IsCarriedDown, IsCarriedUp}
use Rattle.bsc_line_model.specs.Offers.{full_length, select_count, count_from, count_to}
use Rattle.bsc_line_model.specs.Runs.{PassesSilence}
use Rattle.bsc_line_model.specs.Restarts.{IsParty, restarted}
use Rattle.bsc_line_model.specs.Kept.{IsLine, IsNewLine}

-- a new line keeps the invariant
abbrev pub NewLineStays : Type 0
NewLineStays =
    (setup : SetupValue) (given : List TerminalValue) (poll_list : List ℕ) (l : LineValue) →
    IsNewLine setup given poll_list l → IsControl l.control → IsLine l

-- the terminals hear the control station's transmission
abbrev pub DownStays : Type 0
DownStays =
    (sent : Transmission) (hears : ℕ → Heard) (old new : LineValue) → IsLine old →
    old.pending ≡ Some sent → sent.speaker ≡ Control →
    IsCarriedDown sent.message hears old new → IsLine new

-- the control station hears a terminal's transmission
abbrev pub UpStays : Type 0
UpStays =
    (sent : Transmission) (heard : Heard) (old new : LineValue) → IsLine old →
    old.pending ≡ Some sent → sent.speaker ≢ Control →
    IsCarriedUp sent.message heard old new → IsLine new

-- a silence passes
abbrev pub SilenceStays : Type 0
SilenceStays = (old new : LineValue) → IsLine old → PassesSilence old new → IsLine new

-- a record is offered at a terminal
abbrev pub OfferAtStays : Type 0
OfferAtStays =
    (l : LineValue) (t : ℕ) (r : List ℕ) (x : TributaryValue) → IsLine l → t < terminal_count l →
    length r ≤ full_length l → IsTributary x →
    x ≡ record (terminal_at l t) { queue = with_offered (terminal_at l t).queue r } →
    IsLine (with_terminal l t x)

-- the ready flag of a terminal is set
abbrev pub ReadyStays : Type 0
ReadyStays =
    (l : LineValue) (t : ℕ) (ready : Bool) (x : TributaryValue) → IsLine l →
    t < terminal_count l → IsTributary x → x ≡ record (terminal_at l t) { ready = ready } →
    IsLine (with_terminal l t x)

-- the urgent flag of a terminal is set
abbrev pub UrgentAtStays : Type 0
UrgentAtStays =
    (l : LineValue) (t : ℕ) (x : TributaryValue) → IsLine l → t < terminal_count l →
    IsTributary x → x ≡ record (terminal_at l t) { urgent = true } → IsLine (with_terminal l t x)

-- a terminal's doubt is ended by the count of the records in the control station's spool, or the
-- release is refused
abbrev pub ReleaseFromStays : Type 0
ReleaseFromStays =
    (l : LineValue) (t : ℕ) (x : TributaryValue) → IsLine l → t < terminal_count l →
    KeepsSetupAndMode (terminal_at l t) x →
    x ≡ after_release (terminal_at l t) (count_from l t) → IsLine (with_terminal l t x)

-- a record is offered at the control station for a selection address
abbrev pub OfferForStays : Type 0
OfferForStays =
    (l : LineValue) (t s : ℕ) (r : List ℕ) (c : ControlValue) → IsLine l →
    t < terminal_count l → s < select_count l t → length r ≤ full_length l → IsControl c →
    c ≡ with_peer l.control t (offered_to (peer_at l.control t) s r) → IsLine (with_control l c)

-- the urgent flag that the control station has for a terminal is set
abbrev pub UrgentForStays : Type 0
UrgentForStays =
    (l : LineValue) (t : ℕ) (c : ControlValue) → IsLine l → t < terminal_count l →
    IsControl c → c ≡ with_peer l.control t (record (peer_at l.control t) { urgent = true }) →
    IsLine (with_control l c)

-- whether the control station polls a terminal is set
abbrev pub PolledStays : Type 0
PolledStays =
    (l : LineValue) (t : ℕ) (polled : Bool) (c : ControlValue) → IsLine l → t < terminal_count l →
    IsControl c → c ≡ with_peer l.control t (record (peer_at l.control t) { polled = polled }) →
    IsLine (with_control l c)

-- the control station's doubt is ended by the count of the records in a terminal's spool, or the
-- release is refused
abbrev pub ReleaseToStays : Type 0
ReleaseToStays =
    (l : LineValue) (t s : ℕ) (c : ControlValue) → IsLine l → t < terminal_count l →
    s < select_count l t → IsControl c →
    c ≡ with_peer l.control t (with_outbound (peer_at l.control t) s
    (outbound_released (outbound_of l.control t s) (count_to l t s))) → IsLine (with_control l c)

-- the station is one of its type once it began again
abbrev pub IsStationAgain : LineValue → Speaker → Type 0
IsStationAgain l Control = IsControl (restarted_control l.control)
IsStationAgain l (Terminal t) = IsTributary (restarted_tributary (terminal_at l t))

-- a station begins again
abbrev pub RestartStays : Type 0
RestartStays =
    (l : LineValue) (party : Speaker) → IsLine l → IsParty l party → IsStationAgain l party →
    IsLine (restarted l party)
