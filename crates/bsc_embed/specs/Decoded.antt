-- What a kind and a content tell of octets.
use Rattle.std.specs.Prelude.{◌≡◌, ◌↔◌, ℕ, List, [], ◌∷◌, drop, Some}
use Rattle.bsc_frame.specs.Spells.{Spells, IsFailed, IsNoise}
use Rattle.bsc_frame.specs.declared.message.Message.{Message}
use Rattle.bsc_frame.specs.declared.message.Message.TheVariants.{Eot, Call, Enq, Reply, Text}
use Rattle.bsc_frame.specs.declared.message.Heard.{Heard}
use Rattle.bsc_frame.specs.declared.message.Heard.TheVariants.{Whole, Failed, Noise}
use Rattle.bsc_embed.specs.declared.kind.Kind.{Kind}
use Rattle.bsc_embed.specs.declared.kind.Kind.TheVariants as kind
use Rattle.bsc_embed.specs.declared.content.Content.{Content}
use Rattle.bsc_embed.specs.declared.content.StoredUnit.{StoredUnit}
use Rattle.bsc_embed.specs.Contents.{message_as}

-- The kind and the content stand for what was heard.
abbrev pub StandsFor : Heard → Kind → Content → Type 0
StandsFor (Whole m) k c = message_as k c ≡ Some m
StandsFor Failed k c = k ≡ kind.Failed
StandsFor Noise k c = k ≡ kind.Noise

-- In each unit the characters after its length are unchanged.
abbrev pub KeepCharsAfter : List StoredUnit → List StoredUnit → Type 0
KeepCharsAfter [] [] = Unit {0}
KeepCharsAfter [] (n ∷ ns) = ⊥
KeepCharsAfter (o ∷ os) [] = ⊥
KeepCharsAfter (o ∷ os) (n ∷ ns) = (drop n.len n.chars ≡ drop n.len o.chars) × KeepCharsAfter os ns

-- Everything except an address is unchanged: the units with their count and end, and the codes
-- after those of the address.
pub record KeepsRestOfCall (old new : Content) : Type 0 where
  pub units : new.units ≡ old.units
  pub count : new.count ≡ old.count
  pub end : new.end ≡ old.end
  pub codes : drop new.address_len new.address ≡ drop new.address_len old.address

-- Everything except a text is unchanged: the address, the units after those of the text, and in
-- each unit the characters after its length.
pub record KeepsRestOfText (old new : Content) : Type 0 where
  pub address : new.address ≡ old.address
  pub address_len : new.address_len ≡ old.address_len
  pub units : drop new.count new.units ≡ drop new.count old.units
  pub chars : KeepCharsAfter old.units new.units

-- Everything that the message does not hold is unchanged.
abbrev pub KeepsRest : Message → Content → Content → Type 0
KeepsRest Eot old new = new ≡ old
KeepsRest (Call a) old new = KeepsRestOfCall old new
KeepsRest Enq old new = new ≡ old
KeepsRest (Reply r) old new = new ≡ old
KeepsRest (Text t) old new = KeepsRestOfText old new

-- What is unchanged in a content after something was heard: all of it if that was no message.
abbrev pub KeepsRestOfHeard : Heard → Content → Content → Type 0
KeepsRestOfHeard (Whole m) old new = KeepsRest m old new
KeepsRestOfHeard Failed old new = new ≡ old
KeepsRestOfHeard Noise old new = new ≡ old

-- The kind and the content tell what the octets are heard as. Everything in the content that the
-- message does not hold is unchanged, and if the octets spell no message all of it is.
pub record Tells (octets : List ℕ) (k : Kind) (old new : Content) : Type 0 where
  pub whole : (m : Message) → (message_as k new ≡ Some m) ↔ Spells octets m
  pub failed : (k ≡ kind.Failed) ↔ IsFailed octets
  pub noise : (k ≡ kind.Noise) ↔ IsNoise octets
  pub kept : (m : Message) → Spells octets m → KeepsRest m old new
  pub unspelled : ((m : Message) → Spells octets m → ⊥) → new ≡ old
