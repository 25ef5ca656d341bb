-- What offers, flags and releases do to a line.
use Rattle.std.specs.Prelude.{◌≡◌, ◌<◌, ◌≤◌, ℕ, Bool, true, List, length, Result, Ok, Err}
use Rattle.bsc_block.specs.declared.record.RecordError.{RecordError}
use Rattle.bsc_block.specs.Records.{record_of}
use Rattle.bsc_spool.specs.Queue.{with_offered}
use Rattle.bsc_bid.specs.declared.sender.ReleaseError.{ReleaseError}
use Rattle.bsc_bid.specs.declared.sender.ReleaseError.TheVariants as r
use Rattle.bsc_bid.specs.Sender.{release_step}
use Rattle.bsc_tributary.specs.Tributary.{spool_at, after_release}
use Rattle.bsc_bid.specs.declared.way.Way.{Way}
use Rattle.bsc_bid.specs.declared.way.Way.TheVariants.{FromTerminal, ToTerminal}
use Rattle.bsc_control.specs.Peer.{offered_to, with_outbound, outbound_released}
use Rattle.bsc_control.specs.Control.{peer_at, with_peer}
use Rattle.bsc_control.specs.Kept.{outbound_of}
use Rattle.bsc_line_model.specs.declared.error.LineError.{LineError}
use Rattle.bsc_line_model.specs.declared.error.LineError.TheVariants.{NoSuchTerminal, NoSuchAddress}
use Rattle.bsc_line_model.specs.declared.error.LineError.TheVariants.{BadRecord, Memory, NotInDoubt}
use Rattle.bsc_line_model.specs.declared.error.LineError.TheVariants.{CountMismatch}
use Rattle.bsc_line_model.specs.Line.{LineValue, terminal_at, terminal_count, with_terminal}
use Rattle.bsc_line_model.specs.Line.{with_control}

-- the full length of the line's records
abbrev pub full_length : LineValue → ℕ
full_length l = l.control.setup.format.full

-- the record of these codes, or why they are not a record
abbrev pub or_bad : Result (List ℕ) RecordError → Result (List ℕ) LineError
or_bad (Ok r) = Ok r
or_bad (Err e) = Err (BadRecord e)

abbrev pub read_for : ℕ → List ℕ → Result (List ℕ) LineError
read_for full codes = or_bad (record_of full codes)

-- the number of selection addresses of a terminal
abbrev pub select_count : LineValue → ℕ → ℕ
select_count l t = length (terminal_at l t).terminal.selects

-- a record is offered at a terminal
abbrev pub offered_at : LineValue → ℕ → List ℕ → LineValue
offered_at l t r =
    with_terminal l t
    (record (terminal_at l t) { queue = with_offered (terminal_at l t).queue r })

-- a record is offered at the control station for a selection address
abbrev pub offered_for : LineValue → ℕ → ℕ → List ℕ → LineValue
offered_for l t s r =
    with_control l (with_peer l.control t (offered_to (peer_at l.control t) s r))

-- an offer at a terminal, and each refusal of it
abbrev pub OffersAt :
    LineValue → ℕ → List ℕ → Result (Unit {0}) LineError → LineValue → Type 0
OffersAt old t codes (Ok done) new =
    (t < terminal_count old) × (record_of (full_length old) codes ≡ Ok codes)
    × (new ≡ offered_at old t codes)
OffersAt old t codes (Err NoSuchTerminal) new = (terminal_count old ≤ t) × (new ≡ old)
OffersAt old t codes (Err (BadRecord e)) new =
    (t < terminal_count old) × (record_of (full_length old) codes ≡ Err e) × (new ≡ old)
OffersAt old t codes (Err Memory) new =
    (t < terminal_count old) × (record_of (full_length old) codes ≡ Ok codes) × (new ≡ old)
OffersAt old t codes (Err _) new = ⊥

-- an offer for a selection address, and each refusal of it
abbrev pub OffersFor :
    LineValue → ℕ → ℕ → List ℕ → Result (Unit {0}) LineError → LineValue → Type 0
OffersFor old t s codes (Ok done) new =
    (t < terminal_count old) × (s < select_count old t)
    × (record_of (full_length old) codes ≡ Ok codes) × (new ≡ offered_for old t s codes)
OffersFor old t s codes (Err NoSuchTerminal) new = (terminal_count old ≤ t) × (new ≡ old)
OffersFor old t s codes (Err NoSuchAddress) new =
    (t < terminal_count old) × (select_count old t ≤ s) × (new ≡ old)
OffersFor old t s codes (Err (BadRecord e)) new =
    (t < terminal_count old) × (s < select_count old t)
    × (record_of (full_length old) codes ≡ Err e) × (new ≡ old)
OffersFor old t s codes (Err Memory) new =
    (t < terminal_count old) × (s < select_count old t)
    × (record_of (full_length old) codes ≡ Ok codes) × (new ≡ old)
OffersFor old t s codes (Err _) new = ⊥

-- a flag of terminal t is set if the terminal exists
abbrev pub Sets :
    LineValue → ℕ → LineValue → Result (Unit {0}) LineError → LineValue → Type 0
Sets old t set (Ok done) new = (t < terminal_count old) × (new ≡ set)
Sets old t set (Err NoSuchTerminal) new = (terminal_count old ≤ t) × (new ≡ old)
Sets old t set (Err _) new = ⊥

-- the ready flag of a terminal is set to this
abbrev pub ready_set : LineValue → ℕ → Bool → LineValue
ready_set l t ready = with_terminal l t (record (terminal_at l t) { ready = ready })

-- the urgent flag of a terminal is set
abbrev pub urgent_set_at : LineValue → ℕ → LineValue
urgent_set_at l t = with_terminal l t (record (terminal_at l t) { urgent = true })

-- the urgent flag that the control station has for a terminal is set
abbrev pub urgent_set_for : LineValue → ℕ → LineValue
urgent_set_for l t =
    with_control l (with_peer l.control t (record (peer_at l.control t) { urgent = true }))

-- whether the control station polls a terminal is set to this
abbrev pub polled_set : LineValue → ℕ → Bool → LineValue
polled_set l t polled =
    with_control l (with_peer l.control t (record (peer_at l.control t) { polled = polled }))

-- the answer of a release, as the line's
abbrev pub told : Result (Unit {0}) ReleaseError → Result (Unit {0}) LineError
told (Ok done) = Ok tt
told (Err r.NotInDoubt) = Err NotInDoubt
told (Err r.CountMismatch) = Err CountMismatch

-- the number of records that arrived at the control station from a terminal
abbrev pub count_from : LineValue → ℕ → ℕ
count_from l t = length (peer_at l.control t).spool.records

-- the number of records that arrived at a terminal for a selection address
abbrev pub count_to : LineValue → ℕ → ℕ → ℕ
count_to l t s = length (spool_at (terminal_at l t).spools s).records

-- the terminal's doubt is ended by the count of the records in the control station's spool
pub record ReleasesFrom (old : LineValue) (t : ℕ) (result : Result (Unit {0}) LineError)
    (new : LineValue) : Type 0 where
  pub there : t < terminal_count old
  pub answer : result ≡ told (release_step (terminal_at old t).sender
      (terminal_at old t).queue (count_from old t)).answer
  pub becomes : new ≡ with_terminal old t (after_release (terminal_at old t) (count_from old t))

-- the control station's doubt is ended by the count of the records in the terminal's spool
pub record ReleasesTo (old : LineValue) (t s : ℕ) (result : Result (Unit {0}) LineError)
    (new : LineValue) : Type 0 where
  pub there : t < terminal_count old
  pub select : s < select_count old t
  pub answer : result ≡ told (release_step (outbound_of old.control t s).sender
      (outbound_of old.control t s).queue (count_to old t s)).answer
  pub becomes : new ≡ with_control old (with_peer old.control t
      (with_outbound (peer_at old.control t) s
      (outbound_released (outbound_of old.control t s) (count_to old t s))))

abbrev pub ReleasesWay :
    LineValue → ℕ → Way → Result (Unit {0}) LineError → LineValue → Type 0
ReleasesWay old t FromTerminal result new = ReleasesFrom old t result new
ReleasesWay old t (ToTerminal s) result new = ReleasesTo old t s result new

-- the terminal does not have this way
abbrev pub IsNoWay : LineValue → ℕ → Way → Type 0
IsNoWay l t FromTerminal = ⊥
IsNoWay l t (ToTerminal s) = select_count l t ≤ s

-- a release, and each refusal of it
abbrev pub Releases :
    LineValue → ℕ → Way → Result (Unit {0}) LineError → LineValue → Type 0
Releases old t way (Err NoSuchTerminal) new = (terminal_count old ≤ t) × (new ≡ old)
Releases old t way (Err NoSuchAddress) new =
    (t < terminal_count old) × IsNoWay old t way × (new ≡ old)
Releases old t way result new = ReleasesWay old t way result new
