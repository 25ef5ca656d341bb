-- What a station does for programs, and what keeps its records.
use Rattle.std.specs.Prelude.{◌≡◌, ℕ, Bool, true, false, List, Option, None, Some, Result, Ok}
use Rattle.std.specs.Prelude.{Err, OnErr, slice_get}
use Rattle.std.specs.declared.alloc.AllocError.{AllocError}
use Rattle.bsc_bid.specs.declared.sender.ReleaseError.{ReleaseError}
use Rattle.bsc_connections.specs.declared.awaited.LiveError.{LiveError}
use Rattle.bsc_connections.specs.declared.awaited.LiveError.TheVariants.{Memory, Unkept}
use Rattle.bsc_bid.specs.declared.way.Way.{Way}
use Rattle.bsc_feed.specs.declared.fault.Fault.{Fault}
use Rattle.bsc_feed.specs.Answering.{Serving, serving}
use Rattle.bsc_feed.specs.Faults.{release_fault}
use Rattle.bsc_feed.specs.declared.fault.Fault.TheVariants.{NoSuchTerminal, NotATerminal, NotKept}
use Rattle.bsc_feed.specs.declared.fault.Fault.TheVariants.{OutOfMemory}
use Rattle.bsc_spool.specs.declared.fault.StoreFault.{StoreFault}
use Rattle.bsc_monitor.specs.declared.attendance.Presence.{Presence}
use Rattle.bsc_keeping.specs.declared.keeps.Keeps as keeps_of
use Rattle.bsc_station.specs.Offering.{OffersBy}
use Rattle.bsc_station.specs.declared.line_station.LineStation as line_of
use Rattle.bsc_serving.specs.declared.fed.Fed.{Fed}

module _ {S Q V : Type 0} (offered : S → ℕ → Way → List (List ℕ))
    (has_kept : Q → ℕ → Way → List ℕ → Type 0) where
  -- The record with this number on a channel was kept.
  pub record HasKeptNumber (fed : Fed S Q V) (t : ℕ) (way : Way) (number : ℕ) : Type 0 where
    pub chars : List ℕ
    pub at : slice_get (offered fed.station.now t way) number ≡ Some chars
    pub kept : has_kept fed.keeps.now t way chars

-- The station, what keeps its records, what watches it, and whether it is to end are the same.
pub record IsSameFed {S Q V : Type 0} (old new : Fed S Q V) : Type 0 where
  pub station : new.station.ghost_name ≡ old.station.ghost_name
  pub keeps : new.keeps.ghost_name ≡ old.keeps.ghost_name
  pub watch : new.watch ≡ old.watch
  pub stopped : new.stopped ≡ old.stopped

-- Why a station has to end that has this answer to an offer, once the record is kept.
abbrev pub failure_after : Result ℕ AllocError → Option LiveError → Option LiveError
failure_after (Ok number) before = before
failure_after (Err error) before = Some Memory

-- The answers to an offer, and to what is asked of a terminal only.
abbrev pub if_offered : Result ℕ AllocError → Result ℕ Fault
if_offered (Ok number) = Ok number
if_offered (Err error) = Err OutOfMemory

abbrev pub if_terminal : Bool → Result (Unit {0}) Fault
if_terminal true = Ok tt
if_terminal false = Err NotATerminal

module _ {S Q V : Type 0} (offers : S → ℕ → Way → List ℕ → Result ℕ AllocError → S → Type 0)
    (keeps_offer : Q → ℕ → Way → List ℕ → Result (List ℕ) StoreFault → Q → Type 0) where
  -- The station offers a record if it was kept; else it offers nothing, and has to end.
  abbrev pub OffersIfKept : Result (List ℕ) StoreFault → Fed S Q V → ℕ → Way → List ℕ
      → Result ℕ Fault → Fed S Q V → Type 0
  OffersIfKept (Ok given) old t way chars result new =
      (given ≡ chars)
      × ((answer : Result ℕ AllocError) × offers old.station.now t way chars answer new.station.now
      × OnErr answer (new.station.now ≡ old.station.now)
      × (result ≡ if_offered answer) × (new.failure ≡ failure_after answer old.failure))
  OffersIfKept (Err fault) old t way chars result new =
      (result ≡ Err NotKept) × (new.station.now ≡ old.station.now)
      × (new.failure ≡ Some Unkept)

  -- A record is kept, and then the station offers it.
  pub record KeepsAndOffers (old : Fed S Q V) (t : ℕ) (way : Way) (chars : List ℕ)
      (result : Result ℕ Fault) (new : Fed S Q V) : Type 0 where
    pub given : Result (List ℕ) StoreFault
    pub keeps : keeps_offer old.keeps.now t way chars given new.keeps.now
    pub done : OffersIfKept given old t way chars result new
    pub same : IsSameFed old new

-- What is answered to a release that the station did, and why the station has to end, by whether
-- the release is kept.
abbrev pub AnswersKept : Result (Unit {0}) LiveError → Option LiveError
    → Result (Unit {0}) Fault → Option LiveError → Type 0
AnswersKept (Ok done) before result after = (result ≡ Ok tt) × (after ≡ before)
AnswersKept (Err error) before result after = (result ≡ Err NotKept) × (after ≡ Some error)

module _ {S Q V : Type 0}
    (keeps : Q → S → Result (Unit {0}) LiveError → Q → Type 0) where
  -- What the station has changed is kept, or it has to end.
  pub record KeepsRelease (old : Fed S Q V) (result : Result (Unit {0}) Fault) (new : Fed S Q V)
      : Type 0 where
    pub kept : Result (Unit {0}) LiveError
    pub keeping : keeps old.keeps.now old.station.now kept new.keeps.now
    pub answers : AnswersKept kept old.failure result new.failure
    pub unchanged : new.station.now ≡ old.station.now
    pub same : IsSameFed old new

module _ {S Q V : Type 0}
    (releases : S → ℕ → Way → ℕ → Result (Unit {0}) ReleaseError → S → Type 0)
    (keeps : Q → S → Result (Unit {0}) LiveError → Q → Type 0) where
  -- What becomes of the records of a station that has this answer to a release.
  abbrev pub KeepsIfDone : Result (Unit {0}) ReleaseError → Fed S Q V → Result (Unit {0}) Fault
      → Fed S Q V → Type 0
  KeepsIfDone (Ok done) old result new = KeepsRelease keeps old result new
  KeepsIfDone (Err error) old result new = (result ≡ Err (release_fault error)) × (new ≡ old)

  -- The station releases, and what it has changed is kept.
  pub record ReleasesAndKeeps (old : Fed S Q V) (t : ℕ) (way : Way) (count : ℕ)
      (result : Result (Unit {0}) Fault) (new : Fed S Q V) : Type 0 where
    pub answer : Result (Unit {0}) ReleaseError
    pub between : Fed S Q V
    pub released : releases old.station.now t way count answer between.station.now
    pub refused : OnErr answer (between.station.now ≡ old.station.now)
    pub keeps_rest : (between.keeps.now ≡ old.keeps.now) × (between.failure ≡ old.failure)
    pub same : IsSameFed old between
    pub keeping : KeepsIfDone answer between result new

module _ {S Q V : Type 0} (obeys : V → ℕ → Bool → V → Type 0) where
  -- A terminal is called again, or no more, and nothing of the station changes, or of what is kept.
  pub record ObeysPoll (old : Fed S Q V) (t : ℕ) (polled : Bool)
      (result : Result (Unit {0}) Fault) (new : Fed S Q V) : Type 0 where
    pub obeyed : obeys old.watch.now t polled new.watch.now
    pub done : result ≡ Ok tt
    pub station : new.station ≡ old.station
    pub keeps : new.keeps ≡ old.keeps
    pub watch : new.watch.ghost_name ≡ old.watch.ghost_name
    pub failure : new.failure ≡ old.failure
    pub stopped : new.stopped ≡ old.stopped

  -- So it is if the terminal is known; if the station does not call it, nothing changes.
  abbrev pub PollsIfKnown : Option Presence → Fed S Q V → ℕ → Bool → Result (Unit {0}) Fault
      → Fed S Q V → Type 0
  PollsIfKnown None old t polled result new = (result ≡ Err NoSuchTerminal) × (new ≡ old)
  PollsIfKnown (Some presence) old t polled result new = ObeysPoll old t polled result new

-- What a program asks of a terminal, of which this is known.
abbrev pub PollsBy : {S Q V : Type 0} → (V → ℕ → Option Presence) → (V → ℕ → Bool → V → Type 0)
    → Fed S Q V → ℕ → Bool → Result (Unit {0}) Fault → Fed S Q V → Type 0
PollsBy shows obeys old t polled result new =
    PollsIfKnown obeys (shows old.watch.now t) old t polled result new

-- The station is asked for what only a terminal does, and nothing else changes. `asks` says what it
-- means that it does so, or is no terminal.
pub record AsksTerminal {S Q V : Type 0} (asks : S → Bool → S → Type 0) (old : Fed S Q V)
    (result : Result (Unit {0}) Fault) (new : Fed S Q V) : Type 0 where
  pub is_terminal : Bool
  pub asked : asks old.station.now is_terminal new.station.now
  pub answer : result ≡ if_terminal is_terminal
  pub keeps : new.keeps.now ≡ old.keeps.now
  pub failure : new.failure ≡ old.failure
  pub same : IsSameFed old new

module _ {S Q V Z : Type 0} (line : line_of.Ghosts S Z) (keeping : keeps_of.Ghosts Q S)
    (shows : V → ℕ → Option Presence) (obeys : V → ℕ → Bool → V → Type 0) where
  -- What programs may ask of a station that they feed, and what that does.
  abbrev pub serving_fed : Serving (Fed S Q V)
  serving_fed =
      serving (OffersBy (λ (f : Fed S Q V). line.offered f.station.now)
      (HasKeptNumber line.offered keeping.has_kept)
      (KeepsAndOffers line.offers keeping.keeps_offer))
      (λ (f : Fed S Q V). line.full f.station.now)
      (ReleasesAndKeeps line.releases keeping.keeps)
      (λ (f : Fed S Q V) ready. AsksTerminal (λ old. line.readies old ready) f)
      (AsksTerminal line.urges) (PollsBy shows obeys)
      (λ (f : Fed S Q V) terminal. shows f.watch.now terminal)
      (λ (f : Fed S Q V) new. new ≡ record f { stopped = true })
