-- What octets that do not begin as a text are heard as.
use Rattle.std.specs.Prelude.{◌≡◌, ◌⊎◌, ◌↔◌, List, ℕ}
use Rattle.bsc_frame.specs.Texts.{TextValue}
use Rattle.bsc_frame.specs.Spells.{Spells, IsFailed, IsNoise}
use Rattle.bsc_frame.specs.declared.message.Message.{Message}
use Rattle.bsc_frame.specs.declared.message.Message.TheVariants.{Eot, Call, Enq, Reply, Text}
use Rattle.bsc_frame.specs.declared.message.Heard.{Heard}
use Rattle.bsc_frame.specs.declared.message.Heard.TheVariants.{Whole, Failed, Noise}
use Rattle.bsc_frame.specs.declared.short.Short.{Short}
use Rattle.bsc_frame.specs.declared.short.Short.TheVariants as short

-- What is heard, from the short message or noise that was decoded.
abbrev pub heard_as : Short → Heard
heard_as short.Eot = Whole Eot
heard_as (short.Call a) = Whole (Call a)
heard_as short.Enq = Whole Enq
heard_as (short.Reply r) = Whole (Reply r)
heard_as short.Noise = Noise

-- The octets are heard as this, by what they spell.
pub record IsHeard (octets : List ℕ) (h : Heard) : Type 0 where
  pub whole : (m : Message) → (h ≡ Whole m) ↔ Spells octets m
  pub failed : (h ≡ Failed) ↔ IsFailed octets
  pub noise : (h ≡ Noise) ↔ IsNoise octets

-- The octets spell a text, or begin as one and spell nothing.
abbrev pub BeginsText : List ℕ → Type 0
BeginsText octets = ((t : TextValue) × Spells octets (Text t)) ⊎ IsFailed octets
