-- `hear` hears what the octets are heard as.
use Rattle.std.proofs.Common.{◌≡◌, ◌↔◌, ℕ, List, refl}
use Rattle.bsc_frame.specs.Spells.{Spells, IsFailed, IsNoise, IsHeardAs}
use Rattle.bsc_frame.specs.declared.message.Message.{Message}
use Rattle.bsc_frame.specs.declared.message.Heard.{Heard}
use Rattle.bsc_frame.specs.declared.message.Heard.TheVariants.{Whole, Failed, Noise}
use Rattle.bsc_bid.proofs.station.Station.hear.Goals as goal

-- what octets are decoded as is what they are heard as
decoded_is_heard : (octets : List ℕ) (h : Heard) → ((m : Message) → (h ≡ Whole m) ↔ Spells octets m)
    → ((h ≡ Failed) ↔ IsFailed octets) → ((h ≡ Noise) ↔ IsNoise octets) → IsHeardAs octets h
decoded_is_heard octets (Whole m) w f n = (w m).0 refl
decoded_is_heard octets Failed w f n = f.0 refl
decoded_is_heard octets Noise w f n = n.0 refl

pub returns : goal.returns
returns g c = (
  c.decode.result,
  (
    decoded_is_heard c.args.octets.now c.decode.result c.decode.ensures.whole
        c.decode.ensures.failed c.decode.ensures.noise,
    c.hear_message.ensures,
  ),
)
