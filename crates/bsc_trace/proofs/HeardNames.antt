-- The result of `decode` is what the octets are heard as.
use Rattle.std.proofs.Common.{◌≡◌, ℕ, List, refl}
use Rattle.std.specs.Prelude.{◌↔◌}
use Rattle.bsc_frame.specs.Spells.{Spells, IsFailed, IsNoise, IsHeardAs}
use Rattle.bsc_frame.specs.declared.message.Message.{Message}
use Rattle.bsc_frame.specs.declared.message.Heard.{Heard}
use Rattle.bsc_frame.specs.declared.message.Heard.TheVariants.{Whole, Failed, Noise}

pub is_heard : (octets : List ℕ) (h : Heard) → ((m : Message) → (h ≡ Whole m) ↔ Spells octets m)
    → (h ≡ Failed) ↔ IsFailed octets → (h ≡ Noise) ↔ IsNoise octets → IsHeardAs octets h
is_heard octets (Whole m) whole failed noise = (whole m).0 refl
is_heard octets Failed whole failed noise = failed.0 refl
is_heard octets Noise whole failed noise = noise.0 refl
