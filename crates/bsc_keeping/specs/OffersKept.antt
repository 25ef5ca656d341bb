-- What is kept has all that is to be kept of a station also once a record was offered to it.
use Rattle.std.specs.Prelude.{ℕ, List, Option, Ok}
use Rattle.bsc_bid.specs.declared.kept.KeptSender.{KeptSender}
use Rattle.bsc_spool.specs.declared.store.Store as store_of
use Rattle.bsc_keeping.specs.AllKept.{HasAll}
use Rattle.bsc_keeping.specs.Offers.{KeepsOffer}
use Rattle.bsc_keeping.specs.declared.keeper.Keeper.{Keeper}
use Rattle.bsc_station.specs.declared.party.Party as party_of

-- What is known of a station with memory of type Z, what it says of the channels on which it sends,
-- what is known of its store, how many records of each channel its inner monitor has printed, and
-- the station with one more record to send.
module _ {S M K Z : Type 0} (party : party_of.Ghosts S Z)
    (kept_at : S → ℕ → ℕ → Option KeptSender) (store : store_of.Ghosts K)
    (printed : M → ℕ → Option ℕ) (offered : S → ℕ → ℕ → List ℕ → S) where
  -- If all was kept that is to be kept of the station, so it is once a record is kept as offered
  -- and then offered to the station.
  abbrev pub HasAllOnceOffered : Type 0
  HasAllOnceOffered =
      (station : S) (terminal select : ℕ) (chars : List ℕ) (old new : Keeper K)
      → HasAll party kept_at store printed station old
      → KeepsOffer store terminal select chars (Ok chars) old new
      → HasAll party kept_at store printed (offered station terminal select chars) new
