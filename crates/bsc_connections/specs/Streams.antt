-- What the streams of one connection carry in a session.
use Rattle.std.specs.Prelude.{◌≡◌, ◌≢◌, ◌⊎◌, ℕ, List, [], ◌∷◌, ◌++◌, map, take, None}
use Rattle.std.specs.Prelude.{Bool, Option, Some, slice_get}
use Rattle.std.specs.List.{AllByRecursion, concat, flat_map}
use Rattle.std.specs.Io.KnownBytes.{Appends, Consumes}
use Rattle.std.specs.declared.net.socket_addr.SocketAddr.{SocketAddr}
use Rattle.bsc_carrier.specs.Front.{BeginsRecord}
use Rattle.bsc_carrier.specs.Record.{IsCarried, socket_record}
use Rattle.bsc_carrier.specs.Stream.{Splits}
use Rattle.bsc_connections.specs.declared.socket_records.SocketRecords.{SocketRecords}
use Rattle.bsc_connections.specs.Parts.{ConnectionParts, SessionParts}
use Rattle.bsc_connections.specs.declared.connection.Taken.TheVariants.{Closed}
use Rattle.bsc_connections.specs.Connections.{ConnectionValue, Takes}
use Rattle.bsc_connections.specs.declared.limits.TheConstants.{KEPT}
use Rattle.bsc_connections.specs.Framings.{GapsValue}
use Rattle.bsc_connections.specs.Histories.{Happening, HasJoined, arrived_at, all_sent, NobodyJoins}
use Rattle.bsc_connections.specs.Attending.{Session, Attends}

-- The octets that have arrived since the last complete record.
abbrev pub begun_of : SocketRecords → List ℕ
begun_of records = records.assembler.begun

-- These octets arrived after those of the record that had begun before. Together they are the
-- records of the transmissions that arrived, each once and in order, followed by what has begun
-- now.
pub record GivesRecords (old : SocketRecords) (given : List ℕ) (arrived : List (List ℕ))
    (new : SocketRecords) : Type 0 where
  pub records : begun_of old ++ given ≡ flat_map socket_record arrived ++ begun_of new
  pub carried : AllByRecursion IsCarried arrived
  pub rest : ¬ BeginsRecord (begun_of old) → ¬ BeginsRecord (begun_of new)

-- Gaps divide these octets, and the end of the input counts as one. Those between one gap and the
-- next arrived as one transmission, the first 2,049 of them. Those after the last gap have begun a
-- transmission, of which the first 2,049 are kept.
pub record CutsAtGaps (octets : List ℕ) (arrived : List (List ℕ)) (begun : List ℕ) : Type 0 where
  pub between : List (List ℕ)
  pub later : List ℕ
  pub whole : octets ≡ concat between ++ later
  pub some : AllByRecursion (λ octets. octets ≢ []) between
  pub first : arrived ≡ map (take KEPT) between
  pub kept_of : begun ≡ take KEPT later

-- These octets arrived after those that had arrived since the last gap.
abbrev pub GivesByGaps : GapsValue → List ℕ → List (List ℕ) → GapsValue → Type 0
GivesByGaps old given arrived new =
    (sooner : List ℕ) → old.begun ≡ take KEPT sooner
    → CutsAtGaps (sooner ++ given) arrived new.begun

-- The transmissions that a connection carried: those that arrived from it, heard or ignored, and
-- those that were sent on it.
pub record Carried : Type 0 where
  pub arrived : List (List ℕ)
  pub sent : List (List ℕ)

-- All that a history has of one place: what arrived there, and all that was sent.
abbrev pub carried_at : ℕ → List Happening → Carried
carried_at place history = record { arrived = arrived_at place history; sent = all_sent history }

module _ {R W F : Type 0} (parts : ConnectionParts R W F)
    (gives : F → List ℕ → List (List ℕ) → F → Type 0) where
  -- A connection was open and is open. Its reader gave some octets, in which these transmissions
  -- arrived. The octets that carry the transmissions that were sent were written to its writer,
  -- each once and in order.
  pub record Carries (carried : Carried) (old new : ConnectionValue R W F) : Type 0 where
    pub reader_before : R
    pub reader_now : R
    pub writer_before : W
    pub writer_now : W
    pub was_open : old.ends ≡ Some (reader_before, writer_before)
    pub is_open : new.ends ≡ Some (reader_now, writer_now)
    pub given : List ℕ
    pub read : Consumes (parts.reader.remaining reader_before) (parts.reader.remaining reader_now)
        given
    pub arrivals : gives old.framing given carried.arrived new.framing
    pub written : Appends (parts.writer.contents writer_before) (parts.writer.contents writer_now)
        (flat_map parts.framing.framed carried.sent)

  -- The connection at this place was open, and carried these transmissions.
  abbrev pub CarriedAt : ℕ → Carried → List (ConnectionValue R W F) → ConnectionValue R W F
      → Type 0
  CarriedAt place carried before now =
      (was : ConnectionValue R W F) × (slice_get before place ≡ Some was) × Carries carried was now

  -- Nobody joined at this place: the connection was open from the start, and its streams carried
  -- everything the history has of it.
  abbrev pub CarriesFromStart : ℕ → List Happening → List (ConnectionValue R W F)
      → ConnectionValue R W F → Type 0
  CarriesFromStart place history before now =
      NobodyJoins place history × CarriedAt place (carried_at place history) before now

  -- A peer joined at this place, and none after it. Nothing had arrived from it then, and the
  -- streams of its connection carried everything the history has of it since.
  pub record CarriesSinceJoining (place : ℕ) (history : List Happening)
      (now : ConnectionValue R W F) : Type 0 where
    pub sooner : List Happening
    pub peer : Option SocketAddr
    pub replaces : Bool
    pub later : List Happening
    pub is : history ≡ sooner ++ HasJoined place peer replaces ∷ later
    pub last : NobodyJoins place later
    pub joined : ConnectionValue R W F
    pub nothing_arrived : parts.framing.starts joined.framing
    pub carries : Carries (carried_at place later) joined now

-- In every session, the streams of a connection that is open at its end carried everything the
-- history has of it and nothing else: what arrived at its place, and all that was sent.
abbrev pub CarriesHistory : {S R W F M T : Type 0} → SessionParts S R W F M T
    → (F → List ℕ → List (List ℕ) → F → Type 0) → Type 0
CarriesHistory {S} {R} {W} {F} {M} {T} parts gives =
    (old new : Session S (ConnectionValue R W F) M T) (history : List Happening)
    (place : ℕ) (now : ConnectionValue R W F)
    → Attends parts old history new
    → slice_get new.connections place ≡ Some now → now.ends ≢ None
    → CarriesFromStart parts.connection gives place history old.connections now
    ⊎ CarriesSinceJoining parts.connection gives place history now

-- If no whole record had begun before, the octets split into the records of what arrived and what
-- has begun now. A stream splits in only one way, so what arrived is all that the octets contain.
abbrev pub SplitsAll : SocketRecords → List ℕ → List (List ℕ) → SocketRecords → Type 0
SplitsAll old given arrived new =
    GivesRecords old given arrived new → ¬ BeginsRecord (begun_of old)
    → Splits (begun_of old ++ given) arrived (begun_of new)

-- When a read closes a connection over gaps without an error, no transmission has begun that had
-- not arrived: the end of the input had ended it before.
abbrev pub LosesNothing : {R W : Type 0} → ConnectionParts R W GapsValue → Type 0
LosesNothing {R} {W} parts =
    (old new : ConnectionValue R W GapsValue) → Takes parts old (Closed None) new
    → old.framing.begun ≡ []
