-- What a line of a client does, and how it is answered.
use Rattle.std.specs.Prelude.{◌≡◌, ◌⊎◌, ℕ, Bool, true, List, length, Option, Some, None, Result}
use Rattle.std.specs.Prelude.{Ok, Err}
use Rattle.std.specs.Prelude.{slice_set, unwrap_or}
use Rattle.bsc_block.specs.Records.{record_of}
use Rattle.bsc_block.specs.declared.record.RecordError.{RecordError}
use Rattle.bsc_bid.specs.declared.way.Way.{Way}
use Rattle.bsc_station.specs.Ends.{End, sending, receiving}
use Rattle.bsc_monitor.specs.declared.attendance.Presence.{Presence}
use Rattle.bsc_station.specs.Offering.{OffersBy}
use Rattle.bsc_station.specs.declared.party.Party as party_of
use Rattle.bsc_feed.specs.declared.fault.Fault.{Fault}
use Rattle.bsc_feed.specs.declared.fault.Fault.TheVariants.{LineTooLong, NoSuchChannel, NotSending}
use Rattle.bsc_feed.specs.declared.fault.Fault.TheVariants.{OutOfMemory}
use Rattle.bsc_feed.specs.declared.served.Served as served_of
use Rattle.bsc_feed.specs.declared.told.Told.{Told}
use Rattle.bsc_feed.specs.declared.told.Told.TheVariants.{Kept, Done, Refused}
use Rattle.bsc_feed.specs.Commands.{Asked, asked_in, offer, status, release, ready, urgent, poll}
use Rattle.bsc_feed.specs.Commands.{follow, stop, takes_memory}
use Rattle.bsc_feed.specs.Faults.{record_fault}
use Rattle.bsc_feed.specs.Following.{FollowsValue}
use Rattle.bsc_feed.specs.Places.{IsFound, end_at, terminal_at, way_at}

-- The answer to an offer with this result.
abbrev pub kept_or : Result ℕ Fault → Told
kept_or (Ok number) = Kept number
kept_or (Err fault) = Refused fault

-- The answer to another command with this result.
abbrev pub done_or : Result (Unit {0}) Fault → Told
done_or (Ok done) = Done
done_or (Err fault) = Refused fault

-- The number of records of the channel with this end that the other end knows of: those that
-- arrived, or those that are known to have arrived.
abbrev pub counted : Option End → ℕ
counted None = 0
counted (Some (sending offered known doubt)) = known
counted (Some (receiving records)) = length records

-- What a line asks for, or why it asks for nothing; a line that is too long is not there.
abbrev pub asked_of : Option (List ℕ) → Result Asked Fault
asked_of None = Err LineTooLong
asked_of (Some line) = asked_in line

-- What offering a record does: the station before, the terminal, the direction, the characters, the
-- result, the station after.
abbrev pub Offering : Type 0 → Type 1
Offering S = S → ℕ → Way → List ℕ → Result ℕ Fault → S → Type 0

-- What a release does: the station before, the terminal, the direction, the count, the result, the
-- station after.
abbrev pub Releasing : Type 0 → Type 1
Releasing S = S → ℕ → Way → ℕ → Result (Unit {0}) Fault → S → Type 0

-- What a station does for clients: the full length of its records, what it knows of the terminals
-- that it calls, and what each of its calls does.
pub record Serving (S : Type 0) : Type 1 where
  pub offers : Offering S
  pub full : S → ℕ
  pub releases : Releasing S
  pub readies : S → Bool → Result (Unit {0}) Fault → S → Type 0
  pub urges : S → Result (Unit {0}) Fault → S → Type 0
  pub polls : S → ℕ → Bool → Result (Unit {0}) Fault → S → Type 0
  pub shows : S → ℕ → Option Presence
  pub stops : S → S → Type 0

abbrev pub serving : {S : Type 0} → Offering S → (S → ℕ) → Releasing S
    → (S → Bool → Result (Unit {0}) Fault → S → Type 0)
    → (S → Result (Unit {0}) Fault → S → Type 0)
    → (S → ℕ → Bool → Result (Unit {0}) Fault → S → Type 0) → (S → ℕ → Option Presence)
    → (S → S → Type 0) → Serving S
serving offers full releases readies urges polls shows stops = record {
  offers = offers;
  full = full;
  releases = releases;
  readies = readies;
  urges = urges;
  polls = polls;
  shows = shows;
  stops = stops;
}

-- The same of a station that is served.
abbrev pub serving_of : {S Z : Type 0} → served_of.Ghosts S Z → Serving S
serving_of served =
    serving (OffersBy served.offered served.is_kept served.offers) served.full served.releases
    served.readies served.urges served.polls served.shows served.stops

module _ {S : Type 0} (offers : Offering S) (full : S → ℕ) where
  -- A record of these codes is offered at the place of a channel on which the station sends: the
  -- codes must be a record, and the station offers it or says why it does not.
  abbrev pub OffersCodes : ℕ → Result (List ℕ) RecordError → S → Told → S → Type 0
  OffersCodes place (Err error) old told new =
      (told ≡ Refused (record_fault error)) × (new ≡ old)
  OffersCodes place (Ok chars) old told new =
      (result : Result ℕ Fault) × (told ≡ kept_or result)
      × offers old (terminal_at place) (way_at place) chars result new

  -- The same, if the station sends on the channel with this end.
  abbrev pub OffersAt : ℕ → List ℕ → Option End → S → Told → S → Type 0
  OffersAt place given (Some (sending offered known doubt)) old told new =
      OffersCodes place (record_of (full old) given) old told new
  OffersAt place given _ old told new = (told ≡ Refused NotSending) × (new ≡ old)

module _ {S : Type 0} (releases : Releasing S) where
  -- The doubt of a channel is ended, if the station sends on the channel with this end.
  abbrev pub ReleasesAt : ℕ → ℕ → Option End → S → Told → S → Type 0
  ReleasesAt place count (Some (sending offered known doubt)) old told new =
      (result : Result (Unit {0}) Fault) × (told ≡ done_or result)
      × releases old (terminal_at place) (way_at place) count result new
  ReleasesAt place count _ old told new = (told ≡ Refused NotSending) × (new ≡ old)

-- What is known of a station with memory of type M.
module _ {S M : Type 0} (party : party_of.Ghosts S M) where
  -- A record of these codes is offered, if there is such a channel and the station sends on it.
  abbrev pub Offers : Offering S → (S → ℕ) → Option ℕ → List ℕ → S → Told → S → Type 0
  Offers offers full None given old told new = (told ≡ Refused NoSuchChannel) × (new ≡ old)
  Offers offers full (Some place) given old told new =
      OffersAt offers full place given (end_at party old place) old told new

  -- The doubt of a channel is ended, if there is such a channel and the station sends on it.
  abbrev pub Releases : Releasing S → Option ℕ → ℕ → S → Told → S → Type 0
  Releases releases None count old told new = (told ≡ Refused NoSuchChannel) × (new ≡ old)
  Releases releases (Some place) count old told new =
      ReleasesAt releases place count (end_at party old place) old told new

  -- A channel is followed from a number on, if there is such a channel: from the number that was
  -- asked for, or else from how many records it has now.
  abbrev pub FollowsIf : Option ℕ → Option ℕ → S → FollowsValue → Told → FollowsValue → Type 0
  FollowsIf None from station old told new = (told ≡ Refused NoSuchChannel) × (new ≡ old)
  FollowsIf (Some place) from station old told new =
      (told ≡ Done)
      × (new ≡ slice_set old place
      (Some (unwrap_or from (counted (end_at party station place)))))

-- The same, and what it does for clients.
module _ {S M : Type 0} (party : party_of.Ghosts S M) (serves : Serving S) where
  -- A command does what it asks for and nothing else, and is answered; the answer to `status` is
  -- the state of each channel, which is told after it.
  abbrev pub Does : Asked → FollowsValue → S → Option Told → FollowsValue → S → Type 0
  Does (offer channel given) follows old answer after new =
      (found : Option ℕ) × (told : Told) × IsFound party old channel found
      × Offers party serves.offers serves.full found given old told new
      × (answer ≡ Some told) × (after ≡ follows)
  Does status follows old answer after new =
      (answer ≡ None) × (after ≡ follows) × (new ≡ old)
  Does (release channel count) follows old answer after new =
      (found : Option ℕ) × (told : Told) × IsFound party old channel found
      × Releases party serves.releases found count old told new
      × (answer ≡ Some told) × (after ≡ follows)
  Does (ready takes) follows old answer after new =
      (result : Result (Unit {0}) Fault) × serves.readies old takes result new
      × (answer ≡ Some (done_or result)) × (after ≡ follows)
  Does urgent follows old answer after new =
      (result : Result (Unit {0}) Fault) × serves.urges old result new
      × (answer ≡ Some (done_or result)) × (after ≡ follows)
  Does (poll terminal polled) follows old answer after new =
      (result : Result (Unit {0}) Fault) × serves.polls old terminal polled result new
      × (answer ≡ Some (done_or result)) × (after ≡ follows)
  Does (follow channel from) follows old answer after new =
      (found : Option ℕ) × (told : Told) × IsFound party old channel found
      × FollowsIf party found from old follows told after × (answer ≡ Some told) × (new ≡ old)
  Does stop follows old answer after new =
      serves.stops old new × (answer ≡ Some Done) × (after ≡ follows)

  -- A line that asks for nothing does nothing and is refused; any other does what it asks for.
  abbrev pub DoesIf : Result Asked Fault → FollowsValue → S → Option Told → FollowsValue → S
      → Type 0
  DoesIf (Err fault) follows old answer after new =
      (answer ≡ Some (Refused fault)) × (after ≡ follows) × (new ≡ old)
  DoesIf (Ok asked) follows old answer after new = Does asked follows old answer after new

  -- A line does what it says, and is answered; or it offers a record, memory runs out before it is
  -- read, and it does nothing.
  abbrev pub Answers : Option (List ℕ) → FollowsValue → S → Option Told → FollowsValue → S
      → Type 0
  Answers line follows old answer after new =
      DoesIf (asked_of line) follows old answer after new
      ⊎ (takes_memory (asked_of line) ≡ true)
      × DoesIf (Err OutOfMemory) follows old answer after new
