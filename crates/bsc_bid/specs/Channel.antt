-- A channel: the records that one end offers and the other end spools. It has no acknowledgement,
-- retry or buffer.
use Rattle.std.specs.Prelude.{◌≡◌, ◌⊎◌, ℕ, ◌+◌, ◌≤◌, List, [], ◌∷◌, ◌++◌, length, take, drop}
use Rattle.bsc_frame.specs.declared.limits.TheConstants.{MAX_UNITS}
use Rattle.bsc_spool.specs.Queue.{QueueValue}
use Rattle.bsc_bid.specs.declared.phase.Phase.{Phase}
use Rattle.bsc_bid.specs.declared.phase.Phase.TheVariants.{Idle, Unanswered, Held, InDoubt}

-- The offered records, the number of them that the sending end knows to have arrived, and the
-- records that were spooled at the other end.
pub record Channel : Type 0 where
  pub offered : List (List ℕ)
  pub known : ℕ
  pub spooled : List (List ℕ)

-- The channel from a queue to a spool with these records.
abbrev pub channel : QueueValue → List (List ℕ) → Channel
channel q spooled = record { offered = q.offered; known = q.known; spooled = spooled }

-- What happens to a channel: nothing, an offer, the landing of some records, or the sending end
-- learning which records were spooled.
pub data Move : Type 0 where
  Nothing : Move
  Offer : (offered_record : List ℕ) → Move
  Land : (count : ℕ) → Move
  Learn : Move

-- 1 to 7 records land, which means that they are spooled. They are the first records after the
-- known ones, and they land only if all records that were spooled before are known.
pub record Lands (k : ℕ) (old new : Channel) : Type 0 where
  pub some : 1 ≤ k
  pub few : k ≤ MAX_UNITS
  pub all_known : length old.spooled ≡ old.known
  pub there : old.known + k ≤ length old.offered
  pub landed : new ≡ record old { spooled = old.spooled ++ take k (drop old.known old.offered) }

-- The channel before and after a move.
abbrev pub Makes : Move → Channel → Channel → Type 0
Makes Nothing old new = new ≡ old
Makes (Offer r) old new = new ≡ record old { offered = old.offered ++ r ∷ [] }
Makes (Land k) old new = Lands k old new
Makes Learn old new = new ≡ record old { known = length old.spooled }

-- How many records are spooled, from the number that the sending end knows and from its phase.
abbrev pub IsSpooled : Phase → ℕ → ℕ → Type 0
IsSpooled Idle known spooled = spooled ≡ known
IsSpooled (Held end alternation) known spooled = spooled ≡ known
IsSpooled (Unanswered b) known spooled = (spooled ≡ known) ⊎ (spooled ≡ known + b.count)
IsSpooled (InDoubt k) known spooled = (spooled ≡ known) ⊎ (spooled ≡ known + k)

-- The spooled records are the first of the offered ones, in order and each once, and the known
-- records are among them. All spooled records are known, unless a block is unanswered or in doubt,
-- which may or may not have landed.
pub record IsSound (phase : Phase) (c : Channel) : Type 0 where
  pub front : c.spooled ≡ take (length c.spooled) c.offered
  pub known : c.known ≤ length c.spooled
  pub spooled : IsSpooled phase c.known (length c.spooled)
