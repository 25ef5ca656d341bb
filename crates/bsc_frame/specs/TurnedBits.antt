-- Octets of which one was changed on the line, as noise does (GA27-3004: VRC and LRC checking). The
-- cases, and which changes are detected, are this project's own.
use Rattle.std.specs.Prelude.{◌≡◌, ◌≢◌, ◌⊎◌, ℕ, ◌^◌, ◌<◌, true, false, List, [], ◌∷◌, slice_index}
use Rattle.std.specs.Prelude.{slice_set, bit_xor}
use Rattle.bsc_octet.specs.Octet.{IsOdd, IsPad}
use Rattle.bsc_frame.specs.Texts.{TextValue}
use Rattle.bsc_frame.specs.Reading.{is_ending_octet}
use Rattle.bsc_frame.specs.declared.message.Message.{Message}
use Rattle.bsc_frame.specs.declared.message.Message.TheVariants.{Call, Text}
use Rattle.bsc_frame.specs.declared.text.End.TheVariants.{Etx}
use Rattle.bsc_octet.specs.declared.controls.TheConstants.{PAD, SYN}

-- The octets with the octet at the place replaced.
abbrev pub with_octet : ℕ → ℕ → List ℕ → List ℕ
with_octet place octet octets = slice_set octets place octet

-- An octet with this bit turned, from 0 for the lowest: 0 becomes 1, and 1 becomes 0.
abbrev pub turned : ℕ → ℕ → ℕ
turned bit octet = bit_xor octet (2 ^ bit)

-- The octets with this bit of the octet at the place turned.
abbrev pub with_turned_bit : ℕ → ℕ → List ℕ → List ℕ
with_turned_bit place bit octets = with_octet place (turned bit (slice_index octets place)) octets

-- The message is a call.
abbrev pub IsSomeCall : Message → Type 0
IsSomeCall m = (a : List ℕ) × (m ≡ Call a)

-- The message is a text.
abbrev pub IsSomeText : Message → Type 0
IsSomeText m = (t : TextValue) × (m ≡ Text t)

-- An octet that may stand in the body of a message: one of odd parity, or PAD in a call.
abbrev pub IsBodyOctet : Message → ℕ → Type 0
IsBodyOctet m octet = IsOdd octet ⊎ (IsSomeCall m × (octet ≡ PAD))

-- A leading pad in place of the first SYN.
abbrev pub IsLeadingPad : ℕ → ℕ → Type 0
IsLeadingPad place octet = (place ≡ 0) × IsPad octet

-- In a call, SYN in place of the PAD after EOT, or PAD in place of the SYN after that PAD.
abbrev pub IsCallFill : ℕ → ℕ → Type 0
IsCallFill place octet = ((place ≡ 3) × (octet ≡ SYN)) ⊎ ((place ≡ 4) × (octet ≡ PAD))

-- The octet, put in this place of what is sent for the message, is still fill there.
abbrev pub IsFillIn : Message → ℕ → ℕ → Type 0
IsFillIn m place octet = IsLeadingPad place octet ⊎ (IsSomeCall m × IsCallFill place octet)

-- A text of one unit of two characters and EM.
abbrev pub two_chars : ℕ → ℕ → Message
two_chars c d = Text (record { units = record { chars = c ∷ d ∷ []; em = true } ∷ []; end = Etx })

-- The octets with the lowest and the highest bit of the octet at the place turned.
abbrev pub with_ends_turned : ℕ → List ℕ → List ℕ
with_ends_turned place octets = with_turned_bit place 0 (with_turned_bit place 7 octets)

-- An octet of odd parity that replaces another: neither ends a unit, and the new one is not SYN.
pub record IsOtherOctet (old new : ℕ) : Type 0 where
  pub octet : new < 256
  pub odd : IsOdd new
  pub differs : new ≢ old
  pub no_fill : new ≢ SYN
  pub no_end : is_ending_octet new ≡ false
  pub was_no_end : is_ending_octet old ≡ false
