-- What is known of a store that was read, if reading gives what it has.
use Rattle.std.proofs.Common.{◌≡◌, ◌∙◌, ℕ, ℤ, Some, refl, subst}
use Rattle.std.specs.List.{slice_get}
use Rattle.bsc_spool.specs.Contents.{Contents, GivesBack, IsNext, IsRead, never, again}
use Rattle.bsc_spool.specs.declared.store.Found.{Found}
use Rattle.bsc_spool.specs.declared.channel.Channel.{Channel}
use Rattle.bsc_spool.specs.declared.store.Store as store_of
use Rattle.bsc_keeping.proofs.FilledFrom.{IsAt, finds_next}

module _ {K : Type 0} (store : store_of.Ghosts K) where
  pub then : (a b c : K) → IsRead store a b → IsRead store b c → IsRead store a c
  then a b c first never = first
  then a b c first (again more last) = again (then _ _ _ first more) last

  -- It was sound before, and has the same.
  pub is_as_before : (has : K → Channel → Contents) → GivesBack store has → (a b : K)
      → IsRead store a b → store.sound b
      → store.sound a × ((channel : Channel) → has b channel ≡ has a channel)
  is_as_before has gives a b never sound = (sound, λ channel. refl)
  is_as_before has gives a b (again more last) sound =
      let was = gives.was_sound _ b last sound in
      let before = is_as_before has gives a _ more was in
      (before.0, λ channel. gives.stays _ b last sound channel ∙ before.1 channel)

  -- The record that is found is the one in this place of what the store had at the beginning.
  pub next_offered : (has : K → Channel → Contents) → GivesBack store has → (a b c : K)
      (channel : Channel) (i : ℕ) (mark : ℤ) (more : ℕ) (it : Found) → IsRead store a b
      → store.sound b → store.sound c → store.finds_offered channel mark more (Some it) b c
      → IsAt (has a channel).offered i mark more
      → slice_get (has a channel).offered i ≡ Some it
  next_offered has gives a b c channel i mark more it read was sound finds at =
      finds_next (has a channel).offered i mark more it at
      (subst (λ (h : Contents). IsNext h.offered mark more (Some it))
      ((is_as_before has gives a b read was).1 channel)
      (gives.offered channel mark more (Some it) b c finds sound))

  pub next_arrived : (has : K → Channel → Contents) → GivesBack store has → (a b c : K)
      (channel : Channel) (i : ℕ) (mark : ℤ) (more : ℕ) (it : Found) → IsRead store a b
      → store.sound b → store.sound c → store.finds_arrived channel mark more (Some it) b c
      → IsAt (has a channel).arrived i mark more
      → slice_get (has a channel).arrived i ≡ Some it
  next_arrived has gives a b c channel i mark more it read was sound finds at =
      finds_next (has a channel).arrived i mark more it at
      (subst (λ (h : Contents). IsNext h.arrived mark more (Some it))
      ((is_as_before has gives a b read was).1 channel)
      (gives.arrived channel mark more (Some it) b c finds sound))
