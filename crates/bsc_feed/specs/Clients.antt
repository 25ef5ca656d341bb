-- The steps of a client.
use Rattle.std.specs.Prelude.{◌≡◌, ℕ, ◌+◌, Bool, true, false, not, ◌&&◌, List, [], Option, Some}
use Rattle.std.specs.Prelude.{None}
use Rattle.std.specs.Prelude.{replicate}
use Rattle.bsc_text.specs.InputLines.{is_skipped}
use Rattle.bsc_station.specs.declared.party.Party as party_of
use Rattle.bsc_feed.specs.declared.client.Client.{Client}
use Rattle.bsc_feed.specs.declared.limits.TheConstants.{MAX_PLACES}
use Rattle.bsc_feed.specs.declared.told.Told.{Told}
use Rattle.bsc_feed.specs.declared.told.Told.TheVariants.{Done, State}
use Rattle.bsc_feed.specs.Answering.{Answers, Serving}
use Rattle.bsc_feed.specs.Following.{FollowsValue, TellsNext}
use Rattle.bsc_feed.specs.Lines.{Fed, line_of}
use Rattle.bsc_feed.specs.States.{IsNextPlace}

-- Whether a line of which this is read waits for its answer: one that is skipped does not, and one
-- that is too long does.
abbrev pub is_answered : Option (List ℕ) → Bool
is_answered None = true
is_answered (Some line) = not (is_skipped line)

-- Nothing has arrived from the client, and it follows nothing.
pub record IsNew (client : Client) : Type 0 where
  pub begun : client.lines.begun ≡ []
  pub waits : client.waits ≡ false
  pub telling : client.telling ≡ None
  pub follows : client.follows ≡ replicate MAX_PLACES None

-- Octets of a client are taken up to the end of a line, which then waits for its answer unless it
-- is skipped.
abbrev pub TakesLine : Client → List ℕ → ℕ → Bool → Client → Type 0
TakesLine old octets taken ended new =
    Fed old.lines octets (taken, ended) new.lines
    × (new ≡ record old {
      lines = new.lines;
      waits = ended && is_answered (line_of new.lines.ended);
    })

-- The same, and none while a line waits, as the flag says.
abbrev pub TakesUnless : Bool → Client → List ℕ → ℕ → Client → Type 0
TakesUnless true old octets taken new = (taken ≡ 0) × (new ≡ old)
TakesUnless false old octets taken new = (ended : Bool) × TakesLine old octets taken ended new

-- What taking octets of a client does.
abbrev pub TakesOctets : Client → List ℕ → ℕ → Client → Type 0
TakesOctets old octets taken new = TakesUnless old.waits old octets taken new

-- The state of the channel at this place is told, and then that of those after it; or there is no
-- more channel, which ends the answer.
abbrev pub TellsPlace : Option ℕ → Client → Told → Client → Type 0
TellsPlace None old told new = (told ≡ Done) × (new ≡ record old { telling = None })
TellsPlace (Some place) old told new =
    (told ≡ State place) × (new ≡ record old { telling = Some (place + 1) })

-- What is known of a station with memory of type M.
module _ {S M : Type 0} (party : party_of.Ghosts S M) where
  -- The state of the first channel at this place or after it is told, or that there is none.
  abbrev pub TellsState : S → Client → ℕ → Told → Client → Type 0
  TellsState station old from told new =
      (found : Option ℕ) × IsNextPlace party station from found × TellsPlace found old told new

  -- The answer to a line is told. Without one, the state of each channel is.
  abbrev pub TellsAnswer : Option Told → S → Client → Option Told → Client → Type 0
  TellsAnswer (Some answer) station old told new = (told ≡ Some answer) × (new ≡ old)
  TellsAnswer None station old told new =
      (first : Told) × TellsState station old 0 first new × (told ≡ Some first)

-- The same, and what it does for clients.
module _ {S M : Type 0} (party : party_of.Ghosts S M) (serves : Serving S) where
  -- What is told next to a client, by what is told to it and whether a line waits: more of an
  -- answer, the answer to the line, or else what happened on a channel that it follows. Only a line
  -- changes the station.
  abbrev pub NextsIn : Option ℕ → Bool → Client → S → Option Told → Client → S → Type 0
  NextsIn (Some place) waits old before told new after =
      (first : Told) × TellsState party before old place first new × (told ≡ Some first)
      × (after ≡ before)
  NextsIn None false old before told new after =
      TellsNext party before old.follows told new.follows
      × (new ≡ record old { follows = new.follows }) × (after ≡ before)
  NextsIn None true old before told new after =
      (answer : Option Told) × (follows : FollowsValue)
      × Answers party serves (line_of old.lines.ended) old.follows before answer follows after
      × TellsAnswer party answer after (record old { waits = false; follows = follows }) told new

  -- What is told next to a client.
  abbrev pub Nexts : Client → S → Option Told → Client → S → Type 0
  Nexts old before told new after = NextsIn old.telling old.waits old before told new after
