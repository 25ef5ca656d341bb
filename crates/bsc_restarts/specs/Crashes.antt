-- What a store has once changes were kept in it, and what a crash leaves of it.
use Rattle.std.specs.Prelude.{◌≡◌, ◌≢◌, ◌⊎◌, ⊤, ℕ, ℤ, List, [], ◌∷◌, ◌++◌}
use Rattle.std.specs.List.{AllByRecursion}
use Rattle.bsc_spool.specs.Contents.{Contents}
use Rattle.bsc_spool.specs.declared.change.Change.{Change}
use Rattle.bsc_spool.specs.declared.change.Change.TheVariants.{Arrived, Known, Offered, Printed}
use Rattle.bsc_spool.specs.declared.channel.Channel.{Channel}
use Rattle.bsc_spool.specs.declared.store.Found.{Found}
use Rattle.bsc_spool.specs.declared.store.Store as store_of

-- The channel of a change.
abbrev pub channel_in : Change → Channel
channel_in (Offered its r) = its
channel_in (Known its known in_doubt) = its
channel_in (Arrived its r) = its
channel_in (Printed its count) = its

-- A record with this mark.
abbrev pub found_at : ℤ → List ℕ → Found
found_at mark r = record { mark = mark; «record» = r }

-- What a store has of a channel once a change of this channel was kept. Which mark a record has is
-- up to the store.
abbrev pub HasChanged : Change → Contents → Contents → Type 0
HasChanged (Offered its r) old new =
    (mark : ℤ) × (new ≡ record old { offered = old.offered ++ found_at mark r ∷ [] })
HasChanged (Known its k d) old new = new ≡ record old { known = k; in_doubt = d }
HasChanged (Arrived its r) old new =
    (mark : ℤ) × (new ≡ record old { arrived = old.arrived ++ found_at mark r ∷ [] })
HasChanged (Printed its count) old new = new ≡ record old { printed = count }

-- What a store has is the same on each channel.
abbrev pub IsSame : (Channel → Contents) → (Channel → Contents) → Type 0
IsSame old new = (channel : Channel) → new channel ≡ old channel

-- A change was kept, and of every other channel the store has the same as before.
pub record KeepsOne (change : Change) (old new : Channel → Contents) : Type 0 where
  pub changed : HasChanged change (old (channel_in change)) (new (channel_in change))
  pub others : (channel : Channel) → channel ≢ channel_in change → new channel ≡ old channel

-- These changes were kept, in order.
abbrev pub KeepsEach : List Change → (Channel → Contents) → (Channel → Contents) → Type 0
KeepsEach [] old new = IsSame old new
KeepsEach (change ∷ changes) old new =
    (mid : Channel → Contents) × KeepsOne change old mid × KeepsEach changes mid new

-- All of these channels differ.
abbrev pub AllDiffer : List Channel → Type 0
AllDiffer [] = ⊤
AllDiffer (channel ∷ channels) =
    AllByRecursion (λ (other : Channel). other ≢ channel) channels × AllDiffer channels

-- What is known of a store.
module _ {K : Type 0} (store : store_of.Ghosts K) where
  -- A store that is sound has what was kept in it, and what is not sound stays so.
  pub record KeepsGiven (has : K → Channel → Contents) : Type 0 where
    pub was_sound : (step : List Change) (old new : K) → store.survives step old new
        → store.sound new → store.sound old
    pub keeps : (step : List Change) (old new : K) → store.keeps step old new → store.sound new
        → KeepsEach step (has old) (has new)

  -- This is what a crash may leave at any moment of a call: where nothing was done, what the store
  -- has; where it survives a step, what it had before, or that with all changes of the step.
  pub record CrashLeaves (has : K → Channel → Contents) (old new : K)
      (left : Channel → Contents) : Type 0 where
    pub same : new ≡ old → IsSame (has old) left
    pub step : (step : List Change) → store.survives step old new
        → IsSame (has old) left ⊎ KeepsEach step (has old) left
