-- A station that runs, and what it does for programs that can feed it.
use Rattle.std.specs.Prelude.{◌⊎◌, ℕ, Bool, List, Option, Ok}
use Rattle.bsc_bid.specs.declared.station.Station as station_of
use Rattle.bsc_spool.specs.declared.store.Store as store_of
use Rattle.bsc_station.specs.declared.line_station.LineStation as line_of
use Rattle.bsc_station.specs.declared.party.Party as party_of
use Rattle.bsc_keeping.specs.Printed.{KeepsPrinted, OffersUnkept, PrintsNoMore}
use Rattle.bsc_keeping.specs.LiveRuns.{Course, Run, State}
use Rattle.bsc_keeping.specs.Runs.{ForPrograms, KeptRun, Moment, if_fed}
use Rattle.bsc_keeping.specs.declared.keeps.Keeps as keeps_of
use Rattle.bsc_keeping.specs.declared.printed.Printed.{Printed}

-- An offer and a release that succeed, and whether the station accepts selections or asks for the
-- line.
abbrev pub for_programs : {S Z : Type 0} → line_of.Ghosts S Z → ForPrograms S
for_programs line =
    record {
      asks = Unit {0};
      offers = λ old t way chars new. (number : ℕ) × line.offers old t way chars (Ok number) new;
      releases = λ old t way count new. line.releases old t way count (Ok tt) new;
      sets = λ old new.
          ((ready : Bool) × (is_terminal : Bool) × line.readies old ready is_terminal new)
          ⊎ ((is_terminal : Bool) × line.urges old is_terminal new);
    }

-- A station runs, as far as its course says, with what keeps what it changes. It does what programs
-- ask for if the flag says that they can feed it.
abbrev pub RunsFed : {S Q Z : Type 0} → station_of.Ghosts S → line_of.Ghosts S Z
    → keeps_of.Ghosts Q S → Bool → Course → State S Q → State S Q → Type 0
RunsFed station line keeps is_fed =
    Run station keeps.keeps keeps.keeps_offer keeps.prints line.forgets_sent line.forgets_arrived
    line.polls (if_fed is_fed (for_programs line))

-- The same of a station whose records are kept in a store; the flag says whether all of it
-- succeeded.
abbrev pub RunsKeptFed : {S K Z : Type 0} → station_of.Ghosts S → party_of.Ghosts S Z
    → line_of.Ghosts S Z → store_of.Ghosts K → Bool → Bool → Moment S K → Moment S K → Type 0
RunsKeptFed station party line store is_fed =
    KeptRun station party line.kept_at store line.forgets_sent line.forgets_arrived line.polls
    (if_fed is_fed (for_programs line))

-- The same of a station without a store, whose records are printed in place of being kept;
-- `contents` says what the output holds.
abbrev pub RunsPrintedFed : {S W Z : Type 0} → station_of.Ghosts S → party_of.Ghosts S Z
    → line_of.Ghosts S Z → (W → Option (List ℕ)) → Bool → Course → State S (Printed W)
    → State S (Printed W) → Type 0
RunsPrintedFed station party line contents is_fed =
    Run station (KeepsPrinted party contents) OffersUnkept PrintsNoMore line.forgets_sent
    line.forgets_arrived line.polls (if_fed is_fed (for_programs line))
