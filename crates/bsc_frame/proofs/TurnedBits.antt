-- What is heard of a message with one bit turned.
use Rattle.std.proofs.Common.{◌≡◌, ◌↔◌, inl, inr, ℕ, ◌<◌, sym, ap, subst, ◌∙◌, length, get_or}
use Rattle.bsc_frame.specs.Message.{IsMessage}
use Rattle.bsc_frame.specs.Wire.{wire}
use Rattle.bsc_frame.specs.Spells.{Spells, IsFailed, IsNoise}
use Rattle.bsc_frame.specs.TurnedBits.{turned, with_turned_bit, IsSomeCall, IsSomeText, IsFillIn}
use Rattle.bsc_frame.specs.TurnedBits.{IsLeadingPad, IsCallFill}
use Rattle.bsc_frame.specs.declared.message.Message.{Message}
use Rattle.bsc_octet.specs.declared.controls.TheConstants.{PAD, SYN}
use Rattle.bsc_frame.proofs.TurnedOctets.{turned_other, syn_no_pad, syn_no_fill, pad_no_fill}
use Rattle.bsc_frame.proofs.DamagedMessages.{spelled_where, failed_place, sent_of}

-- the first octet of what is sent is SYN
first_syn : (m : Message) → IsMessage m → get_or (wire m) 0 0 ≡ SYN
first_syn m h = let s = sent_of m h in ap (λ w. get_or w 0 0) s.whole

-- an octet with one bit turned is not fill where it stands
turned_no_fill : (m : Message) → IsMessage m → (place bit : ℕ) → bit < 8
    → IsFillIn m place (turned bit (get_or (wire m) place 0)) → ⊥
turned_no_fill m h place bit l (inl k) =
    let first : turned bit (get_or (wire m) place 0) ≡ turned bit SYN =
    ap (λ p. turned bit (get_or (wire m) p 0)) k.0 ∙ ap (turned bit) (first_syn m h) in
    syn_no_pad bit place l (subst (IsLeadingPad place) first k)
turned_no_fill m h place bit l (inr k) = in_call k.0 k.1
  where
    in_call : IsSomeCall m → IsCallFill place (turned bit (get_or (wire m) place 0)) → ⊥
    in_call c (inl f) =
        let here : turned bit (get_or (wire m) 3 0) ≡ SYN =
        sym (ap (λ p. turned bit (get_or (wire m) p 0)) f.0) ∙ f.1 in
        pad_no_fill bit l (sym (ap (λ w. turned bit (get_or (wire w) 3 0)) c.1) ∙ here)
    in_call c (inr f) =
        let here : turned bit (get_or (wire m) 4 0) ≡ PAD =
        sym (ap (λ p. turned bit (get_or (wire m) p 0)) f.0) ∙ f.1 in
        syn_no_fill bit l (sym (ap (λ w. turned bit (get_or (wire w) 4 0)) c.1) ∙ here)

-- with one bit turned no message is spelled
pub turned_spells : (m n : Message) (place bit : ℕ) → IsMessage m → place < length (wire m) → bit
    < 8
    → Spells (with_turned_bit place bit (wire m)) n → ⊥
turned_spells m n place bit h l b k =
    turned_no_fill m h place bit b
    ((spelled_where m n place (turned bit (get_or (wire m) place 0)) h l
    (turned_other bit (get_or (wire m) place 0))).0 k).1

-- the octets failed exactly if the bit stands after the STX of a text
pub turned_failed : (m : Message) (place bit : ℕ) → IsMessage m → place < length (wire m) → bit < 8
    → IsFailed (with_turned_bit place bit (wire m)) ↔ ((2 < place) × IsSomeText m)
turned_failed m place bit h l b =
    failed_place m h place (turned bit (get_or (wire m) place 0)) l
    (turned_other bit (get_or (wire m) place 0))

-- in all other cases the octets are noise
pub turned_noise : (m : Message) (place bit : ℕ) → IsMessage m → place < length (wire m) → bit < 8
    → ((2 < place) × IsSomeText m → ⊥) → IsNoise (with_turned_bit place bit (wire m))
turned_noise m place bit h l b q =
    ((λ n k. turned_spells m n place bit h l b k), (λ f. q ((turned_failed m place bit h l b).0 f)))
