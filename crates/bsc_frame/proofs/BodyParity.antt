-- Each octet of a body has odd parity, except the PAD of a call.
use Rattle.std.proofs.Common.{◌∙◌, inl, inr, ℕ, false, refl, arith, List, [], ◌∷◌, ◌++◌, map}
use Rattle.std.proofs.Common.{IsTrue}
use Rattle.std.specs.List.{AllByRecursion}
use Rattle.std.specs.Int.Count.{ones}
use Rattle.bsc_octet.specs.Octet.{IsOdd, odd_octet, is_address_code}
use Rattle.bsc_octet.proofs.OddOctets.{is_odd_odd_octet}
use Rattle.bsc_frame.specs.Spells.{AreAll, IsBody, IsCall}
use Rattle.bsc_frame.specs.TurnedBits.{IsBodyOctet}
use Rattle.bsc_frame.specs.declared.message.Message.{Message}
use Rattle.bsc_frame.specs.declared.message.Message.TheVariants.{Eot, Call, Enq, Reply, Text}
use Rattle.bsc_octet.specs.declared.controls.TheConstants.{DLE, ENQ, EOT, NAK, PAD, STX, SYN}
use Rattle.bsc_frame.proofs.ControlSequences.{plain_address_code}
use Rattle.bsc_frame.proofs.OddTexts.{units_odd, fill_odd}
use Rattle.bsc_frame.proofs.Replies.{reply_form}
use Rattle.bsc_octet.proofs.Elements.{all_append}

pub eot_odd : IsOdd EOT
unfolding odd_octet ones
eot_odd = is_odd_odd_octet EOT (omega arith)

pub enq_odd : IsOdd ENQ
unfolding odd_octet ones
enq_odd = is_odd_odd_octet 0x05 (omega arith)

pub nak_odd : IsOdd NAK
unfolding odd_octet ones
nak_odd = is_odd_odd_octet NAK (omega arith)

pub dle_odd : IsOdd DLE
unfolding odd_octet ones
dle_odd = is_odd_odd_octet DLE (omega arith)

pub stx_odd : IsOdd STX
unfolding odd_octet ones
stx_odd = is_odd_odd_octet STX (omega arith)

-- ---- calls

-- the octets of an address have odd parity
pub address_odd : (a : List ℕ) → AllByRecursion (λ c. IsTrue (is_address_code c)) a
    → AllByRecursion IsOdd (map odd_octet a)
address_odd [] h = tt
address_odd (c ∷ a) h = let k = plain_address_code c h.0 in
    (is_odd_odd_octet c (omega (arith, k.high)), address_odd a h.1)

-- the octets of a call after its EOT and PAD have odd parity
pub called_odd : (syns a : List ℕ) → AreAll SYN syns
    → AllByRecursion (λ c. IsTrue (is_address_code c)) a
    → AllByRecursion IsOdd (syns ++ map odd_octet a ++ ENQ ∷ [])
called_odd syns a s h =
    all_append IsOdd (syns ++ map odd_octet a) (ENQ ∷ [])
    (all_append IsOdd syns (map odd_octet a) (fill_odd syns s) (address_odd a h)) (enq_odd, tt)

-- ---- all

-- octets of odd parity may stand in any body
odd_fits : (m : Message) (octets : List ℕ) → AllByRecursion IsOdd octets
    → AllByRecursion (IsBodyOctet m) octets
odd_fits m [] h = tt
odd_fits m (x ∷ octets) h = (inl h.0, odd_fits m octets h.1)

-- PAD may stand in the body of a call
pads_fit : (a pads : List ℕ) → AreAll PAD pads → AllByRecursion (IsBodyOctet (Call a)) pads
pads_fit a [] h = tt
pads_fit a (x ∷ pads) h = (inr ((a, refl), h.0), pads_fit a pads h.1)

-- each octet of the body of a call is one that may stand there
call_fits : (a body : List ℕ) → IsCall a body → AllByRecursion (IsBodyOctet (Call a)) body
call_fits a body c =
    rw c.whole (
      inl eot_odd,
      all_append (IsBodyOctet (Call a)) (c.pads ++ c.syns ++ map odd_octet a) (ENQ ∷ [])
          (all_append (IsBodyOctet (Call a)) (c.pads ++ c.syns) (map odd_octet a)
          (all_append (IsBodyOctet (Call a)) c.pads c.syns (pads_fit a c.pads c.are_pads)
          (odd_fits (Call a) c.syns (fill_odd c.syns c.are_syns)))
          (odd_fits (Call a) (map odd_octet a) (address_odd a c.address.each)))
          (inl enq_odd, tt),
    )

-- each octet of the body of a message is one that may stand there
pub body_fits : (m : Message) (body : List ℕ) → IsBody m body → AllByRecursion (IsBodyOctet m) body
body_fits Eot body h = rw h (inl eot_odd, tt)
body_fits (Call a) body h = call_fits a body h
body_fits Enq body h = rw h (inl enq_odd, tt)
body_fits (Reply r) body h = elim (reply_form r) [
  | inl k ↦ rw (h ∙ k) (inl nak_odd, tt)
  | inr k ↦ rw (h ∙ k.whole) (inl dle_odd, (inl k.odd, tt))
]
body_fits (Text t) body h =
    rw h.whole (odd_fits (Text t) (STX ∷ h.rest)
    (stx_odd, units_odd false t.units t.end h.rest h.units h.text.each))
