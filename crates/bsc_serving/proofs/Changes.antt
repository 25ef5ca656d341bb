-- What a step of a program changes is what the station does for one of its calls.
use Rattle.std.proofs.Common.{◌≡◌, ℕ, Bool, true, false, List, Option, Some, None, Result, Ok, Err}
use Rattle.std.proofs.Common.{sym, subst, inl, inr}
use Rattle.bsc_block.specs.Records.{record_of}
use Rattle.bsc_block.specs.declared.record.RecordError.{RecordError}
use Rattle.bsc_bid.specs.declared.way.Way.{Way}
use Rattle.bsc_station.specs.Ends.{End, sending, receiving}
use Rattle.bsc_station.specs.declared.party.Party as party_of
use Rattle.bsc_feed.specs.declared.client.Client.{Client}
use Rattle.bsc_feed.specs.declared.fault.Fault.{Fault}
use Rattle.bsc_feed.specs.Answering.{Answers, Does, DoesIf, Offers, OffersAt, OffersCodes, Releases}
use Rattle.bsc_feed.specs.Answering.{ReleasesAt, Serving, asked_of}
use Rattle.bsc_feed.specs.Clients.{Nexts, NextsIn}
use Rattle.bsc_feed.specs.Commands.{Asked, offer, status, release, ready, urgent, poll, follow, stop}
use Rattle.bsc_feed.specs.Following.{FollowsValue}
use Rattle.bsc_feed.specs.Lines.{line_of}
use Rattle.bsc_feed.specs.Places.{end_at}
use Rattle.bsc_feed.specs.Texts.{Telling}

-- what is so of each call, and where nothing changes
module _ {S M : Type 0} (party : party_of.Ghosts S M) (serves : Serving S) (Goes : S → S → Type 0)
    (stays : (s : S) → Goes s s)
    (if_offered : (old : S) (t : ℕ) (way : Way) (chars : List ℕ) (result : Result ℕ Fault) (new : S)
    → serves.offers old t way chars result new → Goes old new)
    (if_released : (old : S) (t : ℕ) (way : Way) (count : ℕ) (result : Result (Unit {0}) Fault)
    (new : S) → serves.releases old t way count result new → Goes old new)
    (if_readied : (old : S) (takes : Bool) (result : Result (Unit {0}) Fault) (new : S)
    → serves.readies old takes result new → Goes old new)
    (if_urged : (old : S) (result : Result (Unit {0}) Fault) (new : S)
    → serves.urges old result new → Goes old new)
    (if_polled : (old : S) (t : ℕ) (polled : Bool) (result : Result (Unit {0}) Fault) (new : S)
    → serves.polls old t polled result new → Goes old new)
    (if_stopped : (old new : S) → serves.stops old new → Goes old new) where
  same : (old new : S) → new ≡ old → Goes old new
  same old new is = subst (Goes old) (sym is) (stays old)

  by_codes : (place : ℕ) (given : Result (List ℕ) RecordError) (old : S) (told : Telling) (new : S)
      → OffersCodes serves.offers serves.full place given old told new → Goes old new
  by_codes place (Err error) old told new (refused, is) = same old new is
  by_codes place (Ok chars) old told new (result, told_so, offers) =
      if_offered old _ _ chars result new offers

  by_end : (place : ℕ) (given : List ℕ) (end : Option End) (old : S) (told : Telling) (new : S)
      → OffersAt serves.offers serves.full place given end old told new → Goes old new
  by_end place given (Some (sending offered known doubt)) old told new offers =
      by_codes place (record_of (serves.full old) given) old told new offers
  by_end place given (Some (receiving records)) old told new (refused, is) = same old new is
  by_end place given None old told new (refused, is) = same old new is

  by_place : (found : Option ℕ) (given : List ℕ) (old : S) (told : Telling) (new : S)
      → Offers party serves.offers serves.full found given old told new → Goes old new
  by_place None given old told new (refused, is) = same old new is
  by_place (Some place) given old told new offers =
      by_end place given (end_at party old place) old told new offers

  release_at : (place count : ℕ) (end : Option End) (old : S) (told : Telling) (new : S)
      → ReleasesAt serves.releases place count end old told new → Goes old new
  release_at place count (Some (sending offered known doubt)) old told new (result, told_so, releases) =
      if_released old _ _ count result new releases
  release_at place count (Some (receiving records)) old told new (refused, is) = same old new is
  release_at place count None old told new (refused, is) = same old new is

  release_on : (found : Option ℕ) (count : ℕ) (old : S) (told : Telling) (new : S)
      → Releases party serves.releases found count old told new → Goes old new
  release_on None count old told new (refused, is) = same old new is
  release_on (Some place) count old told new releases =
      release_at place count (end_at party old place) old told new releases

  by_command : (command : Asked) (follows : FollowsValue) (old : S) (answer : Option Telling)
      (after : FollowsValue) (new : S)
      → Does party serves command follows old answer after new → Goes old new
  by_command (offer channel given) follows old answer after new does =
      by_place does.0 given old does.1 new does.3
  by_command status follows old answer after new does = same old new does.2
  by_command (release channel count) follows old answer after new does =
      release_on does.0 count old does.1 new does.3
  by_command (ready takes) follows old answer after new does =
      if_readied old takes does.0 new does.1
  by_command urgent follows old answer after new does = if_urged old does.0 new does.1
  by_command (poll terminal polled) follows old answer after new does =
      if_polled old terminal polled does.0 new does.1
  by_command (follow channel from) follows old answer after new does = same old new does.5
  by_command stop follows old answer after new does = if_stopped old new does.0

  by_line : (command : Result Asked Fault) (follows : FollowsValue) (old : S)
      (answer : Option Telling) (after : FollowsValue) (new : S)
      → DoesIf party serves command follows old answer after new → Goes old new
  by_line (Err fault) follows old answer after new does = same old new does.2
  by_line (Ok command) follows old answer after new does =
      by_command command follows old answer after new does

  by_answer : (line : Option (List ℕ)) (follows : FollowsValue) (old : S) (answer : Option Telling)
      (after : FollowsValue) (new : S)
      → Answers party serves line follows old answer after new → Goes old new
  by_answer line follows old answer after new (inl does) =
      by_line (asked_of line) follows old answer after new does
  by_answer line follows old answer after new (inr (takes, does)) = same old new does.2

  by_telling : (telling : Option ℕ) (waits : Bool) (old : Client) (before : S)
      (told : Option Telling) (new : Client) (after : S)
      → NextsIn party serves telling waits old before told new after → Goes before after
  by_telling (Some place) waits old before told new after nexts = same before after nexts.3
  by_telling None false old before told new after nexts = same before after nexts.2
  by_telling None true old before told new after nexts =
      by_answer (line_of old.lines.ended) old.follows before nexts.0 nexts.1 after nexts.2

  -- a step of a program
  pub goes_by_step : (old : Client) (before : S) (told : Option Telling) (new : Client) (after : S)
      → Nexts party serves old before told new after → Goes before after
  goes_by_step old before told new after nexts =
      by_telling old.telling old.waits old before told new after nexts
