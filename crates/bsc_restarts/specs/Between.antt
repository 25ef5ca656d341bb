-- What a station forgets or is offered between two sessions, which terminals it polls, and what is
-- kept at its end: its store has all that is to be kept of it.
use Rattle.std.specs.Prelude.{◌≡◌, ◌⊎◌, ℕ, Bool, List, Option, Result, Ok}
use Rattle.bsc_bid.specs.declared.kept.KeptSender.{KeptSender}
use Rattle.bsc_bid.specs.Terminal.{TerminalValue}
use Rattle.bsc_control.specs.Control.{ControlValue, terminals}
use Rattle.bsc_control.specs.Kept.{IsControl}
use Rattle.bsc_spool.specs.Contents.{Contents}
use Rattle.bsc_spool.specs.declared.channel.Channel.{Channel}
use Rattle.bsc_spool.specs.declared.ends.Receiving.{Receiving}
use Rattle.bsc_spool.specs.declared.ends.Sending.{Sending}
use Rattle.bsc_spool.specs.declared.fault.StoreFault.{StoreFault}
use Rattle.bsc_spool.specs.declared.store.Store as store_of
use Rattle.bsc_station.specs.declared.party.Party as party_of
use Rattle.bsc_keeping.specs.Keeping.{KeepsStep}
use Rattle.bsc_keeping.specs.Offers.{KeepsOffer}
use Rattle.bsc_keeping.specs.declared.keeper.Keeper.{Keeper}
use Rattle.bsc_restarts.specs.BegunAgain.{HasSides}
use Rattle.bsc_restarts.specs.Crashes.{CrashLeaves, KeepsGiven}
use Rattle.bsc_restarts.specs.Kept.{ChannelsDiffer, HasStation, Knows}

-- What a station says is to be kept of the channels on which it sends, which records of these it
-- does not know to have arrived, and which records arrived on the others.
module _ {S : Type 0} (kept_at : S → ℕ → ℕ → Option KeptSender)
    (waits : S → ℕ → ℕ → List (List ℕ)) (records : S → ℕ → List (List ℕ)) where
  -- If a store has all that is to be kept of a station, so it has once the station has forgotten
  -- records that are known to have arrived, or the first records that arrived on a channel, and
  -- once a terminal is polled or is not.
  pub record OutlivesForgetting (forgets_sent : S → S → Type 0)
      (forgets_arrived : S → ℕ → ℕ → S → Type 0) (polls : S → ℕ → Bool → S → Type 0) : Type 0
    where
      pub sent : (has : Channel → Contents) (sending : List Sending) (receiving : List Receiving)
          (old new : S) → HasStation kept_at waits records has sending receiving old
          → forgets_sent old new → HasStation kept_at waits records has sending receiving new
      pub arrived : (has : Channel → Contents) (sending : List Sending)
          (receiving : List Receiving) (number count : ℕ) (old new : S)
          → HasStation kept_at waits records has sending receiving old
          → forgets_arrived old number count new
          → HasStation kept_at waits records has sending receiving new
      pub polled : (has : Channel → Contents) (sending : List Sending)
          (receiving : List Receiving) (terminal : ℕ) (wanted : Bool) (old new : S)
          → HasStation kept_at waits records has sending receiving old
          → polls old terminal wanted new
          → HasStation kept_at waits records has sending receiving new

  -- If a store has all that is to be kept of a station, a crash leaves that also while all that the
  -- station has changed is kept once more, and how many records were printed.
  abbrev pub OutlivesKeeping : {K Z : Type 0} → party_of.Ghosts S Z → store_of.Ghosts K → Type 0
  OutlivesKeeping {K} party store =
      (has : K → Channel → Contents) → KeepsGiven store has → (sending : List Sending)
      (receiving : List Receiving) → ChannelsDiffer sending receiving
      → (printed : ℕ → Option ℕ) (station : S) (result : Result (Unit {0}) StoreFault)
      (old new : Keeper K) → Knows (has old.store) sending receiving old
      → HasStation kept_at waits records (has old.store) sending receiving station
      → KeepsStep party kept_at store printed station result old new
      → (left : Channel → Contents) → CrashLeaves store has old.store new.store left
      → HasStation kept_at waits records left sending receiving station

  -- A record is kept as offered for this selection address of this terminal, or it is refused. What
  -- a crash leaves at any moment is all that is to be kept of the station as it is without the
  -- record or with it, and once it is kept the store has all of the station with it.
  pub record LeavesOffer {K : Type 0} (store : store_of.Ghosts K) (sending : List Sending)
      (receiving : List Receiving) (has : K → Channel → Contents) (without with_it : S)
      (chars : List ℕ) (result : Result (List ℕ) StoreFault) (old new : Keeper K) : Type 0 where
    pub crash : (left : Channel → Contents) → CrashLeaves store has old.store new.store left
        → HasStation kept_at waits records left sending receiving without
        ⊎ HasStation kept_at waits records left sending receiving with_it
    pub knows : result ≡ Ok chars → store.sound new.store
        → Knows (has new.store) sending receiving new
    pub kept : result ≡ Ok chars → store.sound new.store
        → HasStation kept_at waits records (has new.store) sending receiving with_it

  -- So it is whenever a record is offered to a station that this is said of: what an offer makes of
  -- it is given.
  abbrev pub OutlivesOffers : {K : Type 0} → store_of.Ghosts K → List Sending → List Receiving
      → (S → Type 0) → (S → ℕ → ℕ → List ℕ → S) → Type 0
  OutlivesOffers {K} store sending receiving is_station offered =
      (has : K → Channel → Contents) → KeepsGiven store has → (terminal select : ℕ)
      (chars : List ℕ) (station : S) (result : Result (List ℕ) StoreFault) (old new : Keeper K)
      → is_station station → Knows (has old.store) sending receiving old
      → HasStation kept_at waits records (has old.store) sending receiving station
      → KeepsOffer store terminal select chars result old new
      → LeavesOffer store sending receiving has station (offered station terminal select chars)
      chars result old new

-- This is said of a control station with these terminals.
pub record IsControlOf (ts : List TerminalValue) (c : ControlValue) : Type 0 where
  pub control : IsControl c
  pub sides : HasSides c
  pub addresses : terminals c ≡ ts
