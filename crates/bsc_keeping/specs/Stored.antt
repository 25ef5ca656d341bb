-- What is kept in a store, and printed after that.
use Rattle.std.specs.Prelude.{◌≡◌, ℕ, List, [], ◌∷◌, Option, Some, Result, Ok, Err}
use Rattle.bsc_bid.specs.declared.kept.KeptSender.{KeptSender}
use Rattle.bsc_bid.specs.Ways.{select_of}
use Rattle.bsc_bid.specs.declared.way.Way.{Way}
use Rattle.bsc_spool.specs.declared.change.Change.TheVariants.{Offered}
use Rattle.bsc_spool.specs.declared.channel.Channel.{Channel}
use Rattle.bsc_spool.specs.declared.fault.StoreFault.{StoreFault}
use Rattle.bsc_spool.specs.declared.store.Store as store_of
use Rattle.bsc_connections.specs.declared.awaited.LiveError.{LiveError}
use Rattle.bsc_connections.specs.declared.awaited.LiveError.TheVariants.{Unkept}
use Rattle.bsc_station.specs.declared.party.Party as party_of
use Rattle.bsc_keeping.specs.Keeping.{KeepsStep}
use Rattle.bsc_keeping.specs.Offers.{KeepsOffer, channel_to}
use Rattle.bsc_keeping.specs.declared.keeper.Keeper.{Keeper}
use Rattle.bsc_keeping.specs.declared.stored.Stored.{Stored}

-- What the result of keeping is to a station that is attended.
abbrev pub live_kept : Result (Unit {0}) StoreFault → Result (Unit {0}) LiveError
live_kept (Ok done) = Ok done
live_kept (Err fault) = Err Unkept

-- A store, of which this is known, was made to keep that a record of these characters was offered
-- on the channel of this terminal in this direction, exactly that and nothing after it.
pub record HasKept {K : Type 0} (store : store_of.Ghosts K) (t : ℕ) (way : Way) (chars : List ℕ)
    (keeper : Keeper K) : Type 0 where
  pub before : K
  pub channel : Channel
  pub its : channel_to t (select_of way) keeper.sending.items ≡ Some channel
  pub keeps : store.keeps (Offered channel chars ∷ []) before keeper.store

-- A record that is going to be offered is kept, or is not, as the result says.
pub record KeepsOfferStored {K V : Type 0} (store : store_of.Ghosts K) (old : Stored K V) (t : ℕ)
    (way : Way) (chars : List ℕ) (result : Result (List ℕ) StoreFault) (new : Stored K V)
    : Type 0 where
  pub offer : KeepsOffer store t (select_of way) chars result old.keeper new.keeper
  pub printer : new.printer ≡ old.printer

-- What the station has changed is kept, and how many records were printed, or is not, as the result
-- says.
pub record KeepsStored {S K V Z : Type 0} (party : party_of.Ghosts S Z)
    (kept_at : S → ℕ → ℕ → Option KeptSender) (store : store_of.Ghosts K)
    (printed : V → ℕ → Option ℕ) (old : Stored K V) (station : S)
    (result : Result (Unit {0}) LiveError) (new : Stored K V) : Type 0 where
  pub kept : Result (Unit {0}) StoreFault
  pub step : KeepsStep party kept_at store (printed old.printer) station kept old.keeper new.keeper
  pub answer : result ≡ live_kept kept
  pub printer : new.printer ≡ old.printer

-- Records are printed, and what is kept stays.
pub record PrintsStored {K V : Type 0} (prints : V → V → Type 0) (old new : Stored K V) : Type 0
  where
    pub printer : prints old.printer new.printer
    pub keeper : new.keeper ≡ old.keeper
