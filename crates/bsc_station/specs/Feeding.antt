-- What of a control station and of a terminal is to be kept, and what they do for programs.
use Rattle.std.specs.Prelude.{◌≡◌, ◌<◌, ℕ, zero, suc, Bool, true, false, ◌&&◌, nat_lt, List, []}
use Rattle.std.specs.Prelude.{◌∷◌, ◌++◌, length, Option, None, Some, Result, OnOk, if◌then◌else◌}
use Rattle.std.specs.declared.alloc.AllocError.{AllocError}
use Rattle.bsc_bid.specs.Sender.{release_step}
use Rattle.bsc_bid.specs.declared.kept.KeptSender.{KeptSender}
use Rattle.bsc_bid.specs.declared.sender.ReleaseError.{ReleaseError}
use Rattle.bsc_control.specs.Control.{ControlValue, peer_at, with_peer}
use Rattle.bsc_control.specs.Kept.{IsControl, outbound_of}
use Rattle.bsc_control.specs.Peer.{offered_to, outbound_released, with_outbound}
use Rattle.bsc_control.specs.Stored.{kept_of_side}
use Rattle.bsc_bid.specs.Ways.{IsSelection, select_of}
use Rattle.bsc_bid.specs.declared.way.Way.{Way}
use Rattle.bsc_bid.specs.declared.way.Way.TheVariants.{FromTerminal, ToTerminal}
use Rattle.bsc_station.specs.LineTerminal.{LineTerminalValue, line_terminal_of, with_own_queue}
use Rattle.bsc_tributary.specs.Kept.{IsTributary}
use Rattle.bsc_tributary.specs.Tributary.{after_release}

-- What is to be kept of the sending side of this selection address of this terminal, if there is
-- such an address.
abbrev pub kept_at_control : ControlValue → ℕ → ℕ → Option KeptSender
kept_at_control c t s =
    if nat_lt t (length c.peers) && nat_lt s (length (peer_at c t).outbounds)
    then Some (kept_of_side (outbound_of c t s)) else None

-- A terminal with one more record to send.
abbrev pub terminal_with : LineTerminalValue → ℕ → ℕ → List ℕ → LineTerminalValue
terminal_with l terminal select chars =
    let queue = l.tributary.queue in
    with_own_queue l (record queue { offered = queue.offered ++ chars ∷ [] })

-- A control station with one more record for this selection address of this terminal.
abbrev pub control_with : ControlValue → ℕ → ℕ → List ℕ → ControlValue
control_with c terminal select chars =
    with_peer c terminal (offered_to (peer_at c terminal) select chars)

-- Whether a record is kept is no matter of the station.
abbrev pub needs_no_keeping : {S : Type 0} → S → ℕ → Way → ℕ → Type 0
needs_no_keeping station t way number = Unit {0}

-- The records that were offered on a channel of the control station: none on one from a terminal.
abbrev pub offered_control : ControlValue → ℕ → Way → List (List ℕ)
offered_control c t FromTerminal = []
offered_control c t (ToTerminal s) = (outbound_of c t s).queue.offered

-- A record was offered for a selection address of a terminal, which there is.
pub record IsOfferedTo (c : ControlValue) (t : ℕ) (way : Way) (chars : List ℕ)
    (new : ControlValue) : Type 0 where
  pub control : IsControl c
  pub terminal : t < length c.peers
  pub address : IsSelection way (length (peer_at c t).outbounds)
  pub state : new ≡ control_with c t (select_of way) chars

abbrev pub OffersToControl : ControlValue → ℕ → Way → List ℕ → Result ℕ AllocError → ControlValue
    → Type 0
OffersToControl c t way chars result new = OnOk result (IsOfferedTo c t way chars new)

-- The doubt of a selection address is ended, as the rules of a bid say.
pub record ReleasesControl (c : ControlValue) (t : ℕ) (way : Way) (count : ℕ)
    (result : Result (Unit {0}) ReleaseError) (new : ControlValue) : Type 0 where
  pub state : new
      ≡ with_peer c t (with_outbound (peer_at c t) (select_of way)
      (outbound_released (outbound_of c t (select_of way)) count))
  pub answer : result
      ≡ (release_step (outbound_of c t (select_of way)).sender
      (outbound_of c t (select_of way)).queue count).answer
  pub control : IsControl new

-- A control station refuses what is asked of a terminal only.
pub record IsNoTerminal (c : ControlValue) (obeyed : Bool) (new : ControlValue) : Type 0 where
  pub refused : obeyed ≡ false
  pub same : new ≡ c

-- The records that were offered on a channel of a terminal, which knows only itself: none on one
-- to it.
abbrev pub offered_terminal : LineTerminalValue → ℕ → Way → List (List ℕ)
offered_terminal l zero FromTerminal = l.tributary.queue.offered
offered_terminal l zero (ToTerminal s) = []
offered_terminal l (suc t) way = []

-- A record was offered at a terminal.
pub record IsOfferedAt (l : LineTerminalValue) (t : ℕ) (way : Way) (chars : List ℕ)
    (new : LineTerminalValue) : Type 0 where
  pub tributary : IsTributary l.tributary
  pub state : new ≡ terminal_with l t (select_of way) chars

abbrev pub OffersToTerminal : LineTerminalValue → ℕ → Way → List ℕ → Result ℕ AllocError
    → LineTerminalValue → Type 0
OffersToTerminal l t way chars result new = OnOk result (IsOfferedAt l t way chars new)

-- The doubt of a terminal is ended, as the rules of a bid say.
pub record ReleasesTerminal (l : LineTerminalValue) (count : ℕ)
    (result : Result (Unit {0}) ReleaseError) (new : LineTerminalValue) : Type 0 where
  pub state : new ≡ line_terminal_of l.number (after_release l.tributary count)
  pub answer : result ≡ (release_step l.tributary.sender l.tributary.queue count).answer
  pub tributary : IsTributary new.tributary

-- A terminal starts or stops accepting selections.
pub record ReadiesTerminal (l : LineTerminalValue) (ready obeyed : Bool) (new : LineTerminalValue)
    : Type 0 where
  pub is_terminal : obeyed ≡ true
  pub state : new ≡ line_terminal_of l.number (record l.tributary { ready = ready })

-- A terminal asks for the line.
pub record UrgesTerminal (l : LineTerminalValue) (obeyed : Bool) (new : LineTerminalValue)
    : Type 0 where
  pub is_terminal : obeyed ≡ true
  pub state : new ≡ line_terminal_of l.number (record l.tributary { urgent = true })
