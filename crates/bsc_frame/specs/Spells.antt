-- The octets that spell a message: those that are sent for it, and those that other equipment may
-- send in their place, with other pads and fill (GA27-3004: synchronization, pads and SYN time
-- fill). How far each is accepted is this project's own.
use Rattle.std.specs.Prelude.{◌≡◌, ◌≢◌, ◌⊎◌, ℕ, ◌≤◌, Bool, true, false, List, [], ◌∷◌, ◌++◌, length}
use Rattle.std.specs.Prelude.{map}
use Rattle.std.specs.List.{AllByRecursion}
use Rattle.bsc_octet.specs.Octet.{odd_octet, IsPad}
use Rattle.bsc_octet.specs.Check.{check_then}
use Rattle.bsc_frame.specs.Addresses.{IsAddress}
use Rattle.bsc_frame.specs.Texts.{TextUnit, TextValue, IsText}
use Rattle.bsc_frame.specs.Replies.{reply_octets}
use Rattle.bsc_frame.specs.Units.{unit_codes, ending}
use Rattle.bsc_frame.specs.declared.limits.TheConstants.{MAX_HEARD}
use Rattle.bsc_frame.specs.declared.text.End.{End}
use Rattle.bsc_frame.specs.declared.message.Message.{Message}
use Rattle.bsc_frame.specs.declared.message.Message.TheVariants.{Eot, Call, Enq, Reply, Text}
use Rattle.bsc_frame.specs.declared.message.Heard.{Heard}
use Rattle.bsc_frame.specs.declared.message.Heard.TheVariants.{Whole, Failed, Noise}
use Rattle.bsc_octet.specs.declared.controls.TheConstants.{ENQ, EOT, PAD, STX, SYN}

-- Any number of leading pads (GA27-3004: pad format).
abbrev pub ArePads : List ℕ → Type 0
ArePads = AllByRecursion IsPad

-- One octet, any number of times.
abbrev pub AreAll : ℕ → List ℕ → Type 0
AreAll octet = AllByRecursion (λ x. x ≡ octet)

-- The body of a call: EOT, any number of PAD, any number of SYN, the address with odd parity, ENQ
-- (GA27-3004: polling and selection).
pub record IsCall (a body : List ℕ) : Type 0 where
  pub pads : List ℕ
  pub syns : List ℕ
  pub whole : body ≡ EOT ∷ pads ++ syns ++ map odd_octet a ++ ENQ ∷ []
  pub are_pads : AreAll PAD pads
  pub are_syns : AreAll SYN syns
  pub address : IsAddress a

-- Codes with odd parity, each preceded by any number of SYN, which are fill and are not summed
-- (GA27-3004: SYN time fill).
abbrev pub AreFilled : List ℕ → List ℕ → Type 0
AreFilled [] octets = octets ≡ []
AreFilled (c ∷ cs) octets =
    (fill rest : List ℕ) × AreAll SYN fill × (octets ≡ fill ++ odd_octet c ∷ rest)
    × AreFilled cs rest

-- What may stand before the codes of a unit and is summed with them: nothing, or one STX after the
-- check of a unit with US.
abbrev pub IsStart : Bool → List ℕ → Type 0
IsStart after_us start = (start ≡ []) ⊎ ((after_us ≡ true) × (start ≡ STX ∷ []))

-- The units of a text: the codes of each with fill, followed immediately by their check. An STX
-- after the check of a unit with US is the first code of the next sum (GA27-3004: intermediate text
-- blocks).
abbrev pub AreUnits : Bool → List TextUnit → End → List ℕ → Type 0
AreUnits after_us [] end octets = octets ≡ []
AreUnits after_us (u ∷ us) end octets =
    (start front rest : List ℕ) × IsStart after_us start
    × AreFilled (start ++ unit_codes u (ending us end)) front
    × (octets ≡ front ++ check_then (start ++ unit_codes u (ending us end)) rest)
    × AreUnits true us end rest

-- The body of a text: STX, then its units.
pub record IsTextBody (t : TextValue) (body : List ℕ) : Type 0 where
  pub rest : List ℕ
  pub whole : body ≡ STX ∷ rest
  pub units : AreUnits false t.units t.end rest
  pub text : IsText t

-- The body of each message, one on each line.
abbrev pub IsBody : Message → List ℕ → Type 0
IsBody Eot body = body ≡ EOT ∷ []
IsBody (Call a) body = IsCall a body
IsBody Enq body = body ≡ ENQ ∷ []
IsBody (Reply r) body = body ≡ reply_octets r
IsBody (Text t) body = IsTextBody t body

-- A transmission that carries a body: leading pads, at least one SYN, the body, any number of PAD.
pub record Carries (octets body : List ℕ) : Type 0 where
  pub pads : List ℕ
  pub syns : List ℕ
  pub trail : List ℕ
  pub whole : octets ≡ pads ++ syns ++ body ++ trail
  pub are_pads : ArePads pads
  pub are_syns : AreAll SYN syns
  pub some_syn : syns ≢ []
  pub are_trail : AreAll PAD trail

-- The octets spell the message: they carry its body, and they are at most MAX_HEARD.
pub record Spells (octets : List ℕ) (m : Message) : Type 0 where
  pub small : length octets ≤ MAX_HEARD
  pub body : List ℕ
  pub carried : Carries octets body
  pub is_body : IsBody m body

-- The octets failed as a text: they begin with STX after SYN, and spell no message. GA27-3004
-- answers a text whose check or form failed with NAK.
pub record IsFailed (octets : List ℕ) : Type 0 where
  pub small : length octets ≤ MAX_HEARD
  pub rest : List ℕ
  pub carried : Carries octets (STX ∷ rest)
  pub none : (m : Message) → Spells octets m → ⊥

-- Noise: the octets spell no message and did not fail as a text.
abbrev pub IsNoise : List ℕ → Type 0
IsNoise octets = ((m : Message) → Spells octets m → ⊥) × (IsFailed octets → ⊥)

-- What octets are heard as: the message that they spell, a text whose check or form failed, or
-- noise. Exactly one of these holds for any octets, and no octets spell two messages.
abbrev pub IsHeardAs : List ℕ → Heard → Type 0
IsHeardAs octets (Whole m) = Spells octets m
IsHeardAs octets Failed = IsFailed octets
IsHeardAs octets Noise = IsNoise octets
