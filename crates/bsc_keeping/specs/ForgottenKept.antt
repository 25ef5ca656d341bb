-- What is kept has all that is to be kept of a station also once the station has forgotten records.
use Rattle.std.specs.Prelude.{ℕ, Option}
use Rattle.bsc_bid.specs.declared.kept.KeptSender.{KeptSender}
use Rattle.bsc_spool.specs.declared.store.Store as store_of
use Rattle.bsc_keeping.specs.AllKept.{HasAll}
use Rattle.bsc_keeping.specs.declared.keeper.Keeper.{Keeper}
use Rattle.bsc_station.specs.declared.party.Party as party_of

-- What is known of a station with memory of type Z, what it says of the channels on which it sends,
-- what is known of its store, how many records of each channel its inner monitor has printed, and
-- what it forgets of the records that are known to have arrived, and of those that arrived.
module _ {S M K Z : Type 0} (party : party_of.Ghosts S Z)
    (kept_at : S → ℕ → ℕ → Option KeptSender) (store : store_of.Ghosts K)
    (printed : M → ℕ → Option ℕ) (forgets_sent : S → S → Type 0)
    (forgets_arrived : S → ℕ → ℕ → S → Type 0) where
  -- If all was kept that is to be kept of the station, so it is once it has forgotten either.
  pub record HasAllOnceForgotten : Type 0 where
    pub sent : (keeper : Keeper K) (old new : S) → HasAll party kept_at store printed old keeper
        → forgets_sent old new → HasAll party kept_at store printed new keeper
    pub arrived : (keeper : Keeper K) (number count : ℕ) (old new : S)
        → HasAll party kept_at store printed old keeper → forgets_arrived old number count new
        → HasAll party kept_at store printed new keeper
