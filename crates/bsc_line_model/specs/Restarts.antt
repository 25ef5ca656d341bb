-- What it does to a line that a station begins again.
use Rattle.std.specs.Prelude.{◌≡◌, ◌<◌, ◌≤◌, nat_eq, Bool, true, false, Option, None, Some}
use Rattle.std.specs.Prelude.{Result, Ok, Err, if◌then◌else◌}
use Rattle.bsc_tributary.specs.Tributary.{restarted as restarted_tributary}
use Rattle.bsc_control.specs.Control.{restarted as restarted_control}
use Rattle.bsc_line_model.specs.declared.error.LineError.{LineError}
use Rattle.bsc_line_model.specs.declared.error.LineError.TheVariants.{NoSuchTerminal}
use Rattle.bsc_bid.specs.declared.speaker.Speaker.{Speaker}
use Rattle.bsc_bid.specs.declared.speaker.Speaker.TheVariants.{Control, Terminal}
use Rattle.bsc_line_model.specs.declared.transmission.Transmission.{Transmission}
use Rattle.bsc_line_model.specs.Line.{LineValue, terminal_at, terminal_count, with_terminal}
use Rattle.bsc_line_model.specs.Line.{with_control}

-- whether both are the same station
abbrev pub is_same_party : Speaker → Speaker → Bool
is_same_party Control Control = true
is_same_party Control (Terminal u) = false
is_same_party (Terminal t) Control = false
is_same_party (Terminal t) (Terminal u) = nat_eq t u

-- the pending transmission once this station begins again: its own is lost, and that of another
-- station stays
abbrev pub pending_without : Speaker → Option Transmission → Option Transmission
pending_without party None = None
pending_without party (Some sent) =
    if is_same_party party sent.speaker then None else Some sent

-- the line with this station as it begins again
abbrev pub with_restarted : LineValue → Speaker → LineValue
with_restarted l Control = with_control l (restarted_control l.control)
with_restarted l (Terminal t) = with_terminal l t (restarted_tributary (terminal_at l t))

-- the line after this station began again: no channel moves, and what was trusted and addressed
-- stays
abbrev pub restarted : LineValue → Speaker → LineValue
restarted l party =
    record (with_restarted l party) { pending = pending_without party l.pending }

-- the station is one of the line
abbrev pub IsParty : LineValue → Speaker → Type 0
IsParty l Control = Unit {0}
IsParty l (Terminal t) = t < terminal_count l

-- the line has no such station
abbrev pub IsNoParty : LineValue → Speaker → Type 0
IsNoParty l Control = ⊥
IsNoParty l (Terminal t) = terminal_count l ≤ t

-- a station begins again, or there is none of this number
abbrev pub Restarts : LineValue → Speaker → Result (Unit {0}) LineError → LineValue → Type 0
Restarts old party (Ok done) new = IsParty old party × (new ≡ restarted old party)
Restarts old party (Err NoSuchTerminal) new = IsNoParty old party × (new ≡ old)
Restarts old party (Err _) new = ⊥
