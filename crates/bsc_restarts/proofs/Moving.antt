-- In a step a station stays as it is, hears a transmission or acts on a silence.
use Rattle.std.proofs.Common.{◌≡◌, ◌⊎◌, Option, inl, inr, subst, sym}
use Rattle.bsc_frame.specs.declared.message.Heard.{Heard}
use Rattle.bsc_frame.specs.declared.message.Message.{Message}

-- G holds of a station and itself, and of one that hears or acts and what it becomes
module _ {S : Type 0} (hears : S → Heard → S → Option Message → Type 0)
    (acts : S → S → Option Message → Type 0) (G : S → S → Type 0) (same : (it : S) → G it it)
    (if_hears : (old new : S) (heard : Heard) (sent : Option Message) → hears old heard new sent
    → G old new)
    (if_acts : (old new : S) (sent : Option Message) → acts old new sent → G old new) where
  pub moves : (old new : S)
      → (new ≡ old)
      ⊎ (((heard : Heard) × (answer : Option Message) × hears old heard new answer)
      ⊎ ((answer : Option Message) × acts old new answer))
      → G old new
  moves old new (inl is) = subst (λ s. G old s) (sym is) (same old)
  moves old new (inr (inl (heard, answer, did))) = if_hears old new heard answer did
  moves old new (inr (inr (answer, did))) = if_acts old new answer did
