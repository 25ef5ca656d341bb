-- What a store has of a channel, and that reading gives it.
use Rattle.std.specs.Prelude.{◌≡◌, ◌≤◌, ◌+◌, ℕ, zero, suc, ℤ, pos, List, length, map, drop}
use Rattle.std.specs.Prelude.{slice_get, slice_index_or, Option}
use Rattle.bsc_spool.specs.declared.channel.Channel.{Channel}
use Rattle.bsc_spool.specs.declared.store.Found.{Found}
use Rattle.bsc_spool.specs.declared.store.Progress.{Progress}
use Rattle.bsc_spool.specs.declared.store.Store as store_of

-- What a store has of a channel: the records that were offered, how many of them are known to have
-- arrived, how many of those that follow are unanswered or in doubt, the records that arrived, and
-- how many of these were printed.
pub record Contents : Type 0 where
  pub offered : List Found
  pub known : ℕ
  pub in_doubt : ℕ
  pub arrived : List Found
  pub printed : ℕ

-- The same in numbers.
abbrev pub in_numbers : Contents → Progress
in_numbers it =
    record {
      offered = length it.offered;
      known = it.known;
      in_doubt = it.in_doubt;
      arrived = length it.arrived;
      printed = it.printed;
    }

-- The mark after which the record in this place stands: 0 for the first one, else that of the one
-- before it.
abbrev pub mark_at : List Found → ℕ → ℤ
mark_at records zero = pos 0
mark_at records (suc place) =
    slice_index_or (map (λ (it : Found). it.mark) records) place (pos 0)

-- The characters of the records from this place on.
abbrev pub records_from : ℕ → List Found → List (List ℕ)
records_from place records = map (λ (it : Found). it.«record») (drop place records)

-- The record that follows this many others, after this mark, is the one of the list.
abbrev pub IsNext : List Found → ℤ → ℕ → Option Found → Type 0
IsNext records mark more found =
    (place : ℕ) → place ≤ length records → mark ≡ mark_at records place
    → found ≡ slice_get records (place + more)

-- What is known of a store.
module _ {K : Type 0} (store : store_of.Ghosts K) where
  -- The store was read, any number of times.
  pub data IsRead : K → K → Type 0 where
    never : {old : K} → IsRead old old
    again : {old mid new : K} → IsRead old mid → store.reads mid new → IsRead old new

  -- Reading a store gives what it has, and changes nothing of that, as long as it is sound; and
  -- what is not sound stays so.
  pub record GivesBack (has : K → Channel → Contents) : Type 0 where
    pub was_sound : (old new : K) → store.reads old new → store.sound new → store.sound old
    pub stays : (old new : K) → store.reads old new → store.sound new → (channel : Channel)
        → has new channel ≡ has old channel
    pub counts : (channel : Channel) (it : Progress) (old new : K)
        → store.counts channel it old new → store.sound new
        → it ≡ in_numbers (has old channel)
    pub offered : (channel : Channel) (mark : ℤ) (more : ℕ) (found : Option Found) (old new : K)
        → store.finds_offered channel mark more found old new → store.sound new
        → IsNext (has old channel).offered mark more found
    pub arrived : (channel : Channel) (mark : ℤ) (more : ℕ) (found : Option Found) (old new : K)
        → store.finds_arrived channel mark more found old new → store.sound new
        → IsNext (has old channel).arrived mark more found
