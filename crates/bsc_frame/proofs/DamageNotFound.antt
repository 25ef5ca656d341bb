-- Damage that is not detected: two examples.
use Rattle.std.proofs.Common.{◌≡◌, refl, subst, arith, lit<, List, ℕ}
use Rattle.std.specs.Int.Count.{ones}
use Rattle.bsc_octet.specs.Octet.{odd_octet, longitudinal_sum, is_record_char}
use Rattle.bsc_frame.specs.Message.{IsMessage}
use Rattle.bsc_frame.specs.Wire.{wire}
use Rattle.bsc_frame.specs.Spells.{Spells}
use Rattle.bsc_frame.specs.TurnedBits.{two_chars, with_ends_turned}
use Rattle.bsc_frame.specs.declared.message.Message.TheVariants as m
use Rattle.bsc_frame.specs.declared.reply.Reply.TheVariants.{Ack0, Ack1}
use Rattle.bsc_frame.proofs.HeardMessages.{wire_spells}

-- HI and IH are texts whose transmissions differ in two octets
is_text : IsMessage (two_chars 0x49 0x48)
unfolding is_record_char
is_text =
    record {
      some = lit< tt;
      most = omega arith;
      each =
          (record { most = omega arith; each = (refl, (refl, tt)) }, tt);
    }

-- what is sent for IH is what is sent for HI with the lowest and the highest bit of both octets
-- turned
same_wire : wire (two_chars 0x49 0x48)
    ≡ with_ends_turned 3 (with_ends_turned 4 (wire (two_chars 0x48 0x49)))
unfolding odd_octet ones longitudinal_sum
same_wire = refl

-- IH is spelled if HI was sent and damaged in this way
pub other_text : Spells (with_ends_turned 3 (with_ends_turned 4 (wire (two_chars 0x48 0x49))))
    (two_chars 0x49 0x48)
other_text =
    subst (λ (octets : List ℕ). Spells octets (two_chars 0x49 0x48)) same_wire
    (wire_spells (two_chars 0x49 0x48) is_text)

-- ACK1 is spelled if ACK0 was sent with the lowest and the highest bit of its second octet turned
pub other_reply : Spells (with_ends_turned 3 (wire (m.Reply Ack0))) (m.Reply Ack1)
other_reply = wire_spells (m.Reply Ack1) tt
