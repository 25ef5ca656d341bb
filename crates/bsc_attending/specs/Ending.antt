-- What a station leaves when it ends, what it prints then, and its result; and what it knows of its
-- connections when it begins.
use Rattle.std.specs.Prelude.{◌≡◌, ◌⊎◌, ◌++◌, ℕ, zero, suc, List, length, Option}
use Rattle.std.specs.Prelude.{Result, IsErrAnd}
use Rattle.std.specs.Io.KnownBytes.{Appends}
use Rattle.std.specs.declared.net.ip_addr.IpAddr.{IpAddr}
use Rattle.bsc_control.specs.Control.{peer_at}
use Rattle.bsc_station.specs.Ends.{control_end, station_standing, terminal_end}
use Rattle.bsc_report.specs.Printed.{station_report}
use Rattle.bsc_report.specs.TrustReport.{trust_report}
use Rattle.bsc_station.specs.declared.standing.Standing.{Standing}
use Rattle.bsc_text.specs.declared.form.Form.{Form}
use Rattle.bsc_trust.specs.Trust.{after_joined}
use Rattle.bsc_trust.specs.declared.trust.Trust.{Trust}
use Rattle.bsc_attending.specs.declared.error.AttendingError.{AttendingError}
use Rattle.bsc_attending.specs.declared.preparing.Prepared.{Prepared}
use Rattle.bsc_attending.specs.declared.preparing.Prepared.TheVariants as prepared
use Rattle.bsc_attending.specs.declared.attending.Left.{Left}
use Rattle.bsc_attending.specs.declared.attending.Left.TheVariants.{Control, Terminal}
use Rattle.bsc_attending.specs.Errors.{IsCutShort, IsPrintFault}
use Rattle.bsc_attending.specs.Errors.{control_outcome_of, terminal_outcome_of}

-- The connections at the first places, this many, were told in their order, each with the address
-- by which its peer is named, if that is known.
abbrev pub JoinsFirst : (ℕ → Option IpAddr → Type 0) → ℕ → Trust → Trust → Type 0
JoinsFirst names zero old new = new ≡ old
JoinsFirst names (suc place) old new =
    (mid : Trust) × JoinsFirst names place old mid
    × ((peer : Option IpAddr) × names place peer × (new ≡ after_joined mid place peer))

-- The number of channels on which a station receives: of a control station one from each terminal,
-- of a terminal one for each of its selection addresses.
abbrev pub channels_of : Prepared → ℕ
channels_of (prepared.Control c) = length c.peers
channels_of (prepared.Terminal l) = length l.tributary.terminal.selects

-- A station leaves what one of its kind leaves.
abbrev pub IsLeftBy : Prepared → Left → Type 0
IsLeftBy (prepared.Control control) (Control trust) = Unit {0}
IsLeftBy (prepared.Terminal terminal) (Terminal closed) = Unit {0}
IsLeftBy station left = ⊥

-- Both are control stations, or both are terminals.
abbrev pub IsSameKind : Prepared → Prepared → Type 0
IsSameKind (prepared.Control before) (prepared.Control after) = Unit {0}
IsSameKind (prepared.Terminal before) (prepared.Terminal after) = Unit {0}
IsSameKind before after = ⊥

-- The report of a station, with the records that arrived in a form, or without them.
abbrev pub report_of : Option Form → Prepared → List ℕ
report_of form (prepared.Control c) =
    station_report form (λ t. length (peer_at c t).outbounds) (λ t. t) (control_end c)
    (length c.peers)
report_of form (prepared.Terminal l) =
    station_report form (λ _. length l.tributary.terminal.selects) (λ _. l.number)
    (λ _ way. terminal_end l.tributary way) 1

-- What a station prints at its end: its report, and after that of a control station what this can
-- tell of its line.
abbrev pub ending_text : Option Form → Prepared → Left → List ℕ
ending_text form station (Control trust) = report_of form station ++ trust_report trust
ending_text form station (Terminal closed) = report_of form station

-- The state of the channels on which a station sends.
abbrev pub standing_in : Prepared → Standing
standing_in (prepared.Control c) =
    station_standing (λ t. length (peer_at c t).outbounds) (control_end c) (length c.peers)
standing_in (prepared.Terminal l) =
    station_standing (λ _. length l.tributary.terminal.selects)
    (λ _ way. terminal_end l.tributary way) 1

-- The result of a station that left this, in this state of the channels on which it sends.
abbrev pub result_of : Left → Standing → Result (Unit {0}) AttendingError
result_of (Control trust) standing = control_outcome_of trust standing
result_of (Terminal closed) standing = terminal_outcome_of closed standing

-- The report of a station was appended, and this is the state of the channels on which it sends.
abbrev pub ReportsIn : Option Form → Prepared → Option (List ℕ) → Option (List ℕ)
    → Standing → Type 0
ReportsIn form station old new standing =
    (standing ≡ standing_in station) × Appends old new (report_of form station)

-- What a station prints at its end was appended, and the result is that of the state in which it
-- ended and of what it left.
pub record Concludes (form : Option Form) (ended : Prepared) (left : Left)
    (result : Result (Unit {0}) AttendingError) (old new : Option (List ℕ)) : Type 0 where
  pub printed : Appends old new (ending_text form ended left)
  pub result_is : result ≡ result_of left (standing_in ended)

-- The report was not printed, or the station concluded.
abbrev pub IsConcluded : Option Form → Prepared → Left → Result (Unit {0}) AttendingError
    → Option (List ℕ) → Option (List ℕ) → Type 0
IsConcluded form ended left result old new =
    IsErrAnd result IsPrintFault ⊎ Concludes form ended left result old new

-- For a writer, `contents` is what was written to it.
module _ {W : Type 0} (contents : W → Option (List ℕ)) where
  -- A station that began so ended in this state, and concluded: what it prints at its end was the
  -- last that was written.
  pub record HasEnded (form : Option Form) (begun ended : Prepared)
      (result : Result (Unit {0}) AttendingError) (new : W) : Type 0 where
    pub left : Left
    pub leaves : IsLeftBy begun left
    pub keeps : IsLeftBy ended left
    pub before : W
    pub concludes : Concludes form ended left result (contents before) (contents new)

  -- A station was cut short, or ended.
  abbrev pub HasRun : Option Form → Prepared → Prepared → Result (Unit {0}) AttendingError → W
      → Type 0
  HasRun form begun ended result new =
      IsErrAnd result IsCutShort ⊎ HasEnded form begun ended result new
