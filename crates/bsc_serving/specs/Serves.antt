-- What the programs of a station do to it.
use Rattle.std.specs.Prelude.{◌≡◌, Bool, false, Option, None, Some, Result, Ok, Err}
use Rattle.bsc_connections.specs.declared.awaited.LiveError.{LiveError}
use Rattle.bsc_feed.specs.Answering.{Serving}
use Rattle.bsc_feed.specs.Clients.{Nexts}
use Rattle.bsc_feed.specs.Texts.{Telling}
use Rattle.bsc_feed.specs.declared.client.Client.{Client}
use Rattle.bsc_station.specs.declared.party.Party as party_of
use Rattle.bsc_serving.specs.declared.fed.Fed.{Fed}

-- What is known of a station with memory of type M, what it does for programs, and why it has to
-- end, if it has.
module _ {S M : Type 0} (party : party_of.Ghosts S M) (serves : Serving S)
    (fails : S → Option LiveError) where
  -- A station is asked by programs, one step of a program after another, and by nobody else. It is
  -- asked for nothing once it has to end.
  pub data IsAsked : S → S → Type 0 where
    unasked : {station : S} → IsAsked station station
    asked : {old mid new : S} (client next : Client) (told : Option Telling) → fails old ≡ None
        → Nexts party serves client old told next mid → IsAsked mid new → IsAsked old new

  -- The same in one turn of serving, which fails exactly if the station then has to end, and with
  -- the reason of that.
  pub record IsServed (old : S) (failure : Option LiveError) (new : S) : Type 0 where
    pub is_asked : IsAsked old new
    pub fails_so : fails new ≡ failure

-- Why a turn of serving has failed.
abbrev pub failure_of : {A : Type 0} → Result A LiveError → Option LiveError
failure_of (Ok done) = None
failure_of (Err error) = Some error

-- What serving returns: why the station has to end, or whether a program asked it to end.
abbrev pub served_as : Option LiveError → Bool → Result Bool LiveError
served_as (Some error) stopped = Err error
served_as None stopped = Ok stopped

-- Programs are served at a station whose records are kept by this. It is asked only by steps of
-- programs, none of which begins once it has to end. The result, the station and what keeps its
-- records are as the last of these steps left them.
pub record ServesPrograms {S Q V : Type 0} (asks : Fed S Q V → Fed S Q V → Type 0) (station : S)
    (keeps : Q) (result : Result Bool LiveError) (new_station : S) (new_keeps : Q)
    : Type 0 where
  pub begun : Fed S Q V
  pub last : Fed S Q V
  pub station_is : begun.station.now ≡ station
  pub keeps_is : begun.keeps.now ≡ keeps
  pub goes_on : begun.stopped ≡ false
  pub fine : begun.failure ≡ None
  pub are_asked : asks begun last
  pub answer : result ≡ served_as last.failure last.stopped
  pub station_left : new_station ≡ last.station.now
  pub keeps_left : new_keeps ≡ last.keeps.now
