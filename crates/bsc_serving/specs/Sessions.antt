-- The session of a program, step by step.
use Rattle.std.specs.Prelude.{◌≡◌, ◌≢◌, ◌⊎◌, ℕ, false, List, [], ◌∷◌, ◌++◌, drop}
use Rattle.std.specs.Prelude.{Option, Some, None}
use Rattle.std.specs.Io.KnownBytes.{Appends, Consumes}
use Rattle.std.specs.declared.io.Read as read_of
use Rattle.std.specs.declared.io.Write as write_of
use Rattle.bsc_feed.specs.Answering.{Serving}
use Rattle.bsc_feed.specs.Clients.{Nexts, TakesOctets}
use Rattle.bsc_feed.specs.Sessions.{Event, octets_in}
use Rattle.bsc_feed.specs.Sessions.{Session as SessionOf}
use Rattle.bsc_feed.specs.Texts.{Telling, told_text}
use Rattle.bsc_feed.specs.declared.client.Client.{Client}
use Rattle.bsc_station.specs.declared.party.Party as party_of
use Rattle.bsc_serving.specs.declared.session.Session.{Session}
use Rattle.bsc_serving.specs.declared.session.Step.{Step}
use Rattle.bsc_serving.specs.declared.session.Step.TheVariants.{Closed}

-- What is known of the connection of a program.
module _ {T : Type 0} (read : read_of.Ghosts T) (write : write_of.Ghosts T) where
  -- Octets are written from the front of what is told.
  pub record Writes (old new : Session T) : Type 0 where
    pub sent : List ℕ
    pub told : old.outbox ≡ sent ++ new.outbox
    pub written : Appends (write.contents old.stream) (write.contents new.stream) sent
    pub client : new.client ≡ old.client
    pub inbox : new.inbox ≡ old.inbox

  -- Octets of the program are taken that were read before.
  pub record Takes (old new : Session T) : Type 0 where
    pub taken : ℕ
    pub takes : TakesOctets old.client old.inbox taken new.client
    pub inbox : new.inbox ≡ drop taken old.inbox
    pub outbox : new.outbox ≡ old.outbox

  -- Octets are read, once all that were read before are taken; or there are none to read.
  pub record Reads (old new : Session T) : Type 0 where
    pub all_taken : old.inbox ≡ []
    pub given : new.inbox ≢ []
        → Consumes (read.remaining old.stream) (read.remaining new.stream) new.inbox
    pub client : new.client ≡ old.client
    pub outbox : new.outbox ≡ old.outbox

  abbrev pub TakesOrReads : Session T → Session T → Type 0
  TakesOrReads old new = Takes old new ⊎ Reads old new

-- The same, what is known of a station with memory of type M, and what it does for programs.
module _ {S M T : Type 0} (party : party_of.Ghosts S M) (serves : Serving S)
    (read : read_of.Ghosts T) (write : write_of.Ghosts T) where
  -- What is told next to a program is to be written then, unless its session ends; where nothing is
  -- told, octets of the program are taken or read.
  abbrev pub GoesOn : Option Telling → Session T → S → Step → Session T → Type 0
  GoesOn (Some told) old station result new =
      ((result ≡ Closed) ⊎ (new.outbox ≡ told_text party serves.shows station told))
      × (new.client ≡ old.client) × (new.inbox ≡ old.inbox)
  GoesOn None old station result new = TakesOrReads read write old new

  -- A step where nothing is left to write: a line of the program is obeyed and answered, or the
  -- program is told what happened, or it is heard.
  pub record Tells (old : Session T) (before : S) (result : Step) (new : Session T) (after : S)
      : Type 0 where
    pub told : Option Telling
    pub client : Client
    pub nexts : Nexts party serves old.client before told client after
    pub goes_on : GoesOn told (record old { client = client }) after result new

  -- A step of a session, by what is left to write of what was told: that is written first, and
  -- nothing is asked of the station before all of it is.
  abbrev pub StepsBy : List ℕ → Session T → S → Step → Session T → S → Type 0
  StepsBy [] old before result new after = Tells old before result new after
  StepsBy (octet ∷ more) old before result new after = Writes read write old new × (after ≡ before)

  -- A step of a session.
  abbrev pub StepsOn : Session T → S → Step → Session T → S → Type 0
  StepsOn old before result new after = StepsBy old.outbox old before result new after

  -- The same as events of the client that the session serves: the client and the station go through
  -- these events. The octets that are taken in them are those that were read, in order: before the
  -- step, or in it as the next that the program said. Where no line waits the station is as it was.
  pub record IsStepOfClient (old : Session T) (before : S) (new : Session T) (after : S) : Type 0
    where
      pub events : List (Event S)
      pub goes : SessionOf party serves old.client before events new.client after
      pub given : List ℕ
      pub octets : old.inbox ++ given ≡ octets_in events ++ new.inbox
      pub read_next : given ≢ []
          → Consumes (read.remaining old.stream) (read.remaining new.stream) given
      pub quiet : old.client.waits ≡ false → after ≡ before

  -- It is so in every step of a session.
  abbrev pub AreStepsOfClients : Type 0
  AreStepsOfClients =
      (old new : Session T) (before after : S) (result : Step)
      → StepsOn old before result new after → IsStepOfClient old before new after
