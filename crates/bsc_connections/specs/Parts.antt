-- What is known of the parts of a session: the relations of their traits, under one name.
use Rattle.std.specs.Prelude.{ℕ, List, Bool, Result}
use Rattle.std.specs.declared.io.Read as read
use Rattle.std.specs.declared.io.Write as write
use Rattle.bsc_bid.specs.declared.station.Station as station_of
use Rattle.bsc_connections.specs.declared.awaited.LiveError.{LiveError}
use Rattle.bsc_connections.specs.declared.awaited.Pace.{Pace}
use Rattle.bsc_connections.specs.declared.awaited.Waiter as waiter_of
use Rattle.bsc_connections.specs.declared.framing.Framing as framing_of
use Rattle.bsc_connections.specs.Histories.{Happening}

-- What is known of the two directions of a connection, and of its framing.
pub record ConnectionParts (R W F : Type 0) : Type 1 where
  pub reader : read.Ghosts R
  pub writer : write.Ghosts W
  pub framing : framing_of.Ghosts F

abbrev pub connection_parts : {R W F : Type 0} → read.Ghosts R → write.Ghosts W
    → framing_of.Ghosts F → ConnectionParts R W F
connection_parts reader writer framing =
    record { reader = reader; writer = writer; framing = framing }

-- What is known of a station, of its connections, of what its monitor does when it is told of
-- something, of what it admits, of who may answer, of the pace that it asks for, and of its waiter.
pub record SessionParts (S R W F M T : Type 0) : Type 1 where
  pub station : station_of.Ghosts S
  pub connection : ConnectionParts R W F
  pub is_told : M → S → Happening → Result Bool LiveError → M → Type 0
  pub admits : M → S → ℕ → List ℕ → Bool
  pub may_answer : M → S → ℕ → Bool
  pub paces : M → Pace
  pub waiter : waiter_of.Ghosts T R W

abbrev pub session_parts : {S R W F M T : Type 0} → station_of.Ghosts S → read.Ghosts R
    → write.Ghosts W → framing_of.Ghosts F
    → (M → S → Happening → Result Bool LiveError → M → Type 0) → (M → S → ℕ → List ℕ → Bool)
    → (M → S → ℕ → Bool) → (M → Pace) → waiter_of.Ghosts T R W
    → SessionParts S R W F M T
session_parts station reader writer framing is_told admits may_answer paces waiter =
    record {
      station = station;
      connection = connection_parts reader writer framing;
      is_told = is_told;
      admits = admits;
      may_answer = may_answer;
      paces = paces;
      waiter = waiter;
    }
