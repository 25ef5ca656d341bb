-- What octets are read as is what they spell.
use Rattle.std.proofs.Common.{◌≡◌, ◌↔◌, ℕ, List, refl, subst, sym}
use Rattle.bsc_frame.specs.Reading.{heard}
use Rattle.bsc_frame.specs.Spells.{Spells, IsFailed, IsNoise, IsHeardAs}
use Rattle.bsc_frame.specs.declared.message.Message.{Message}
use Rattle.bsc_frame.specs.declared.message.Heard.{Heard}
use Rattle.bsc_frame.specs.declared.message.Heard.TheVariants.{Whole, Failed, Noise}
use Rattle.bsc_connections.proofs.decoded.Decoded.heard.Goals as goal

-- octets are heard as what they are read as
is_heard : (octets : List ℕ) (h : Heard) → ((m : Message) → (h ≡ Whole m) ↔ Spells octets m)
    → ((h ≡ Failed) ↔ IsFailed octets) → ((h ≡ Noise) ↔ IsNoise octets) → IsHeardAs octets h
is_heard octets (Whole m) whole failed noise = (whole m).0 refl
is_heard octets Failed whole failed noise = failed.0 refl
is_heard octets Noise whole failed noise = noise.0 refl

pub returns-clause-spelled : goal.returns-clause-spelled
returns-clause-spelled c =
    let octets : List ℕ = c.self.inside.octets.now in
    subst (λ (o : List ℕ). IsHeardAs o c.self.inside.heard) c.self.view_is
    (subst (λ (h : Heard). IsHeardAs octets h) (sym c.self.invariant)
    (is_heard octets (heard octets) (c.reading.ensures.whole octets) (c.reading.ensures.failed octets)
    (c.reading.ensures.noise octets)))
