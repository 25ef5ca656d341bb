-- A station whose process may end at any moment of its run.
use Rattle.std.specs.Prelude.{◌≢◌, ◌⊎◌, ℕ, Bool, true, List, [], Option, Result}
use Rattle.bsc_bid.specs.declared.kept.KeptSender.{KeptSender}
use Rattle.bsc_bid.specs.declared.station.Station as station_of
use Rattle.bsc_spool.specs.Contents.{Contents}
use Rattle.bsc_spool.specs.declared.channel.Channel.{Channel}
use Rattle.bsc_spool.specs.declared.ends.Receiving.{Receiving}
use Rattle.bsc_spool.specs.declared.ends.Sending.{Sending}
use Rattle.bsc_spool.specs.declared.fault.StoreFault.{StoreFault}
use Rattle.bsc_spool.specs.declared.store.Store as store_of
use Rattle.bsc_bid.specs.Ways.{select_of}
use Rattle.bsc_bid.specs.declared.way.Way.{Way}
use Rattle.bsc_station.specs.declared.line_station.LineStation as line_of
use Rattle.bsc_station.specs.declared.party.Party as party_of
use Rattle.bsc_keeping.specs.FedRuns.{for_programs}
use Rattle.bsc_keeping.specs.Keeping.{KeepsStep}
use Rattle.bsc_keeping.specs.Offers.{KeepsOffer}
use Rattle.bsc_keeping.specs.Runs.{ForPrograms, KeptRun, KeptStep, Moment, if_fed}
use Rattle.bsc_keeping.specs.declared.keeper.Keeper.{Keeper}
use Rattle.bsc_restarts.specs.Crashes.{CrashLeaves, KeepsGiven}
use Rattle.bsc_restarts.specs.Kept.{HasStation, Knows}

-- What a station says is to be kept of the channels on which it sends, which records of these it
-- does not know to have arrived, which records arrived on the others, what is known of its store,
-- and the ends of its channels.
module _ {S K : Type 0} (kept_at : S → ℕ → ℕ → Option KeptSender)
    (waits : S → ℕ → ℕ → List (List ℕ)) (records : S → ℕ → List (List ℕ))
    (store : store_of.Ghosts K) (sending : List Sending) (receiving : List Receiving) where
  -- The store has all that is to be kept of the station, and what keeps its records knows how much
  -- of each channel that is.
  pub record IsKeptIn (has : K → Channel → Contents) (now : Moment S K) : Type 0 where
    pub knows : Knows (has now.keeper.store) sending receiving now.keeper
    pub has_all : HasStation kept_at waits records (has now.keeper.store) sending receiving
        now.station

  -- Whatever a crash leaves at any moment of a step, it is all that is to be kept of the station as
  -- it is before the step or after it. If something is sent in the step, all is kept that is to be
  -- kept after it.
  pub record LeavesEither (has : K → Channel → Contents) (old : Moment S K)
      (sent : List (List ℕ)) (new : Moment S K) : Type 0 where
    pub crash : (left : Channel → Contents)
        → CrashLeaves store has old.keeper.store new.keeper.store left
        → HasStation kept_at waits records left sending receiving old.station
        ⊎ HasStation kept_at waits records left sending receiving new.station
    pub before_sent : sent ≢ [] → IsKeptIn has new

  -- While what keeps the records goes from one state to another, a crash leaves all that is to be
  -- kept of the station as it was or as it is then.
  abbrev pub CrashLeavesEither : (K → Channel → Contents) → S → S → Keeper K → Keeper K → Type 0
  CrashLeavesEither has before after old new =
      (left : Channel → Contents) → CrashLeaves store has old.store new.store left
      → HasStation kept_at waits records left sending receiving before
      ⊎ HasStation kept_at waits records left sending receiving after

  -- If all is kept at the beginning of a run, it is at each moment between its steps; and in every
  -- step from such a moment it is as said, also while a record that a program offers is kept, and
  -- the end of a doubt.
  pub record OutlivesCrashes {Z : Type 0} (station : station_of.Ghosts S)
      (party : party_of.Ghosts S Z) (forgets_sent : S → S → Type 0)
      (forgets_arrived : S → ℕ → ℕ → S → Type 0) (polls : S → ℕ → Bool → S → Type 0)
      (does : ForPrograms S) : Type 0 where
    pub between : (has : K → Channel → Contents) → KeepsGiven store has
        → (first now : Moment S K) → IsKeptIn has first
        → KeptRun station party kept_at store forgets_sent forgets_arrived polls does true first
        now
        → store.sound now.keeper.store → IsKeptIn has now
    pub within : (has : K → Channel → Contents) → KeepsGiven store has → (old new : Moment S K)
        (sent : List (List ℕ)) (goes_on : Bool) → IsKeptIn has old
        → KeptStep station party kept_at store sent goes_on old new
        → store.sound new.keeper.store → LeavesEither has old sent new
    pub offering : (has : K → Channel → Contents) → KeepsGiven store has → (old : Moment S K)
        (terminal : ℕ) (way : Way) (chars : List ℕ) (given : Result (List ℕ) StoreFault)
        (keeper : Keeper K) (new : S) → IsKeptIn has old
        → does.offers old.station terminal way chars new
        → KeepsOffer store terminal (select_of way) chars given old.keeper keeper
        → CrashLeavesEither has old.station new old.keeper keeper
    pub releasing : (has : K → Channel → Contents) → KeepsGiven store has → (old : Moment S K)
        (terminal : ℕ) (way : Way) (count : ℕ) (printed : ℕ → Option ℕ)
        (result : Result (Unit {0}) StoreFault) (keeper : Keeper K) (new : S) → IsKeptIn has old
        → does.releases old.station terminal way count new
        → KeepsStep party kept_at store printed new result old.keeper keeper
        → CrashLeavesEither has old.station new old.keeper keeper

  -- So it is of a station that programs can feed, if the flag says so.
  abbrev pub OutlivesFed : {Z : Type 0} → station_of.Ghosts S → party_of.Ghosts S Z
      → line_of.Ghosts S Z → Bool → Type 0
  OutlivesFed station party line is_fed =
      OutlivesCrashes station party line.forgets_sent line.forgets_arrived line.polls
      (if_fed is_fed (for_programs line))
