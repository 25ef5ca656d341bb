-- What is heard of a message with one octet replaced by one of the other parity.
use Rattle.std.proofs.Common.{◌≡◌, ◌⊎◌, ◌↔◌, inl, inr, ℕ, zero, suc, ◌<◌, ◌≤◌, ◌==◌, false, refl}
use Rattle.std.proofs.Common.{sym, ap, subst, ◌∙◌, arith, List, [], ◌∷◌, ◌++◌, length, get_or, set}
use Rattle.std.proofs.Common.{length-set, map, append-nil}
use Rattle.bsc_octet.specs.Octet.{IsOdd, odd_octet, HaveOtherParity}
use Rattle.bsc_frame.specs.Addresses.{IsAddress}
use Rattle.bsc_frame.specs.Texts.{TextValue, IsText}
use Rattle.bsc_frame.specs.Units.{units_wire}
use Rattle.bsc_frame.specs.Message.{IsMessage}
use Rattle.bsc_frame.specs.Wire.{wire, framed}
use Rattle.bsc_frame.specs.Spells.{Spells, IsBody, IsFailed}
use Rattle.bsc_frame.specs.TurnedBits.{IsSomeCall, IsSomeText, IsLeadingPad}
use Rattle.bsc_frame.specs.TurnedBits.{IsCallFill, IsFillIn}
use Rattle.bsc_frame.specs.declared.message.Message.{Message}
use Rattle.bsc_frame.specs.declared.message.Message.TheVariants.{Eot, Call, Enq, Reply, Text}
use Rattle.bsc_frame.specs.declared.message.Heard.TheVariants.{Whole, Failed, Noise}
use Rattle.bsc_frame.proofs.ReadingSteps.{test_false}
use Rattle.bsc_frame.proofs.OddTexts.{syn_odd}
use Rattle.bsc_frame.proofs.HeardMessages.{heard_spelled, heard_failed, length_wire, one_message}
use Rattle.bsc_frame.proofs.TextUnits.{wire_units}
use Rattle.bsc_frame.proofs.BodyParity.{eot_odd, enq_odd, nak_odd, dle_odd, stx_odd}
use Rattle.bsc_frame.proofs.Replies.{IsPair, reply_form}
use Rattle.bsc_frame.specs.Replies.{reply_octets}
use Rattle.bsc_frame.specs.declared.reply.Reply.{Reply as ReplyValue}
use Rattle.bsc_frame.proofs.Places.{split_at_place}
use Rattle.bsc_frame.proofs.Insides.{Inside, inside_after_syns, failed_inside, after_first}
use Rattle.bsc_frame.proofs.Insides.{first_is_odd}
use Rattle.bsc_frame.proofs.Insides.{starts_wrong, pad_or_not}
use Rattle.bsc_frame.proofs.DamagedText.{equal_lists_equal_heads, not_both_odd, not_same, lost_text}
use Rattle.bsc_frame.proofs.DamagedCall.{call_tail, spared_call}
use Rattle.bsc_frame.specs.declared.limits.TheConstants.{MAX_HEARD}
use Rattle.bsc_octet.specs.declared.controls.TheConstants.{DLE, ENQ, EOT, NAK, PAD, STX, SYN}
use Rattle.bsc_frame.proofs.DamagedReply.{lost_single, lost_reply}

-- ---- what is sent for each message

-- a body, as it is sent
pub record Sent (m : Message) : Type 0 where
  pub body : List ℕ
  pub whole : wire m ≡ framed body
  pub is_body : IsBody m body

-- what is sent for a message is its body between two SYN and a PAD
pub sent_of : (m : Message) → IsMessage m → Sent m
sent_of Eot h = record { body = EOT ∷ []; whole = refl; is_body = refl }
sent_of (Call a) h = record {
  body = EOT ∷ PAD ∷ SYN ∷ SYN ∷ [] ++ map odd_octet a ++ ENQ ∷ [];
  whole = refl;
  is_body =
      record {
        pads = PAD ∷ [];
        syns = SYN ∷ SYN ∷ [];
        whole = refl;
        are_pads = (refl, tt);
        are_syns = (refl, (refl, tt));
        address = h;
      };
}
sent_of Enq h = record { body = ENQ ∷ []; whole = refl; is_body = refl }
sent_of (Reply r) h = record { body = reply_octets r; whole = refl; is_body = refl }
sent_of (Text t) h = record {
  body = STX ∷ units_wire t.units t.end;
  whole = refl;
  is_body =
      record {
        rest = units_wire t.units t.end;
        whole = refl;
        units =
            wire_units false t.units t.end;
        text = h;
      };
}

-- what follows the first octet of a body, heard with one octet of the other parity, is no message,
-- unless that octet is fill
abbrev LostBehind : Message → ℕ → List ℕ → Type 0
LostBehind m x tail =
    (n : Message) (before : List ℕ) (o : ℕ) (after : List ℕ) (new : ℕ) → tail ≡ before ++ o ∷ after
    → HaveOtherParity new o
    → Inside (x ∷ before ++ new ∷ after) n → IsSomeCall m
    × IsCallFill (suc (suc (suc (length before)))) new

-- the octets of a message from its first one on, and what they are heard as with one octet changed
record Shape (m : Message) : Type 0 where
  x : ℕ
  tail : List ℕ
  whole : wire m ≡ SYN ∷ SYN ∷ x ∷ tail
  odd : IsOdd x
  other : (x == SYN) ≡ false
  lost : LostBehind m x tail
  starts_text : x ≡ STX → IsSomeText m

-- a reply of one octet
shape_nak : (r : ReplyValue) → reply_octets r ≡ NAK ∷ [] → Shape (Reply r)
shape_nak r k = record {
  x = NAK;
  tail = PAD ∷ [];
  whole = ap framed k;
  odd = nak_odd;
  other = refl;
  lost =
      λ n before o after new w p i. absurd
      (lost_single NAK n before o after new (λ e. omega (arith, e)) (λ e. omega (arith, e)) w p
      (after_first NAK (before ++ new ∷ after) n i));
  starts_text = λ e. absurd (omega (arith, e));
}

-- a reply of two octets
shape_pair : (r : ReplyValue) → IsPair (reply_octets r) → Shape (Reply r)
shape_pair r k = record {
  x = DLE;
  tail = k.second ∷ PAD ∷ [];
  whole = ap framed k.whole;
  odd = dle_odd;
  other = refl;
  lost =
      λ n before o after new w p i. absurd
      (lost_reply k.second n before o after new k.odd w p
      (after_first DLE (before ++ new ∷ after) n i));
  starts_text = λ e. absurd (omega (arith, e));
}

-- each message has its first octet, of odd parity and not SYN, and the rest
shape_of_message : (m : Message) → IsMessage m → Shape m
shape_of_message Eot h = record {
  x = EOT;
  tail = PAD ∷ [];
  whole = refl;
  odd = eot_odd;
  other = refl;
  lost =
      λ n before o after new w p i. absurd
      (lost_single EOT n before o after new (λ e. omega (arith, e)) (λ e. omega (arith, e)) w p
      (after_first EOT (before ++ new ∷ after) n i));
  starts_text = λ e. absurd (omega (arith, e));
}
shape_of_message (Call a) h = record {
  x = EOT;
  tail = call_tail a;
  whole = refl;
  odd = eot_odd;
  other = refl;
  lost =
      λ n before o after new w p i. (
        (a, refl),
        spared_call a n before o after new h w p (after_first EOT (before ++ new ∷ after) n i),
      );
  starts_text = λ e. absurd (omega (arith, e));
}
shape_of_message Enq h = record {
  x = ENQ;
  tail = PAD ∷ [];
  whole = refl;
  odd = enq_odd;
  other = refl;
  lost =
      λ n before o after new w p i. absurd
      (lost_single ENQ n before o after new (λ e. omega (arith, e)) (λ e. omega (arith, e)) w p
      (after_first ENQ (before ++ new ∷ after) n i));
  starts_text = λ e. absurd (omega (arith, e));
}
shape_of_message (Reply r) h = elim (reply_form r) [ inl k ↦ shape_nak r k | inr k ↦ shape_pair r k ]
shape_of_message (Text t) h = record {
  x = STX;
  tail = units_wire t.units t.end ++ PAD ∷ [];
  whole = refl;
  odd = stx_odd;
  other = refl;
  lost = λ n before o after new w p i. absurd (lost_text t n before o after new h w p i);
  starts_text = λ e. (t, refl);
}

-- ---- the changes after which a message is still spelled

-- a change that leaves a message is fill, by the place where it stands
by_place : (m : Message) (s : Shape m) (place new : ℕ) (n : Message)
    → place < length (SYN ∷ SYN ∷ s.x ∷ s.tail)
    → HaveOtherParity new (get_or (SYN ∷ SYN ∷ s.x ∷ s.tail) place 0)
    → Spells (set (SYN ∷ SYN ∷ s.x ∷ s.tail) place new) n → IsFillIn m place new
by_place m s zero new n l p h = elim (pad_or_not new) [
  | inl k ↦ inl (refl, k)
  | inr k ↦
      let noise =
      starts_wrong new (SYN ∷ s.x ∷ s.tail) k (test_false new SYN (not_same new SYN p)) in
      let whole = heard_spelled (new ∷ SYN ∷ s.x ∷ s.tail) n h in
      absurd (let both : Whole n ≡ Noise = sym whole ∙ noise in cc)
]
by_place m s (suc zero) new n l p h =
    let i =
    inside_after_syns (SYN ∷ []) (new ∷ s.x ∷ s.tail) n (refl, tt) (λ e. cc)
    (test_false new SYN (not_same new SYN p)) h in
    absurd (not_both_odd new SYN p (first_is_odd new (s.x ∷ s.tail) n i) syn_odd)
by_place m s (suc (suc zero)) new n l p h =
    let i =
    inside_after_syns (SYN ∷ SYN ∷ []) (new ∷ s.tail) n (refl, (refl, tt)) (λ e. cc)
    (test_false new SYN (λ e. not_both_odd new s.x p (rw e syn_odd) s.odd)) h in
    absurd (not_both_odd new s.x p (first_is_odd new s.tail n i) s.odd)
by_place m s (suc (suc (suc place))) new n l p h =
    let r = split_at_place s.tail place (omega arith) in
    let i =
    inside_after_syns (SYN ∷ SYN ∷ []) (s.x ∷ r.before ++ new ∷ r.after) n (refl, (refl, tt)) (λ e. cc)
    s.other (rw (r.changed new) at h) in
    let k = s.lost n r.before r.here r.after new r.whole (rw r.is_here at p) i in
    inr (rw r.long at k)

-- if a message is spelled after one octet was changed to the other parity, the octet is fill
pub spelled_fill : (m : Message) → IsMessage m → (place new : ℕ) (n : Message) → place
    < length (wire m)
    → HaveOtherParity new (get_or (wire m) place 0)
    → Spells (set (wire m) place new) n → IsFillIn m place new
spelled_fill m h place new n l p k =
    let s = shape_of_message m h in
    by_place m s place new n (rw s.whole at l) (rw s.whole at p) (rw s.whole at k)

-- a change does not make a transmission longer, so it is not too long to be heard
changed_wire_not_too_long : (m : Message) → IsMessage m → (place new : ℕ) → length (set (wire m) place new) ≤ MAX_HEARD
changed_wire_not_too_long m h place new = omega (arith, length-set (wire m) place new, length_wire m h)

-- with a leading pad in place of the first SYN the message is still spelled
pad_spells : (m : Message) (body : List ℕ) (new : ℕ) → length (set (framed body) 0 new) ≤ MAX_HEARD
    → IsBody m body → (new ≡ 0x55) ⊎ (new ≡ 0xaa) → Spells (set (framed body) 0 new) m
pad_spells m body new l h k = record {
  small = l;
  body = body;
  carried =
      record {
        pads = new ∷ [];
        syns = SYN ∷ [];
        trail = PAD ∷ [];
        whole = refl;
        are_pads =
            (k, tt);
        are_syns = (refl, tt);
        some_syn = λ e. cc;
        are_trail = (refl, tt);
      };
  is_body = h;
}

-- a transmission with the body of a call spells it
call_spells : (a body : List ℕ) → length (framed body) ≤ MAX_HEARD → IsBody (Call a) body
    → Spells (framed body) (Call a)
call_spells a body l h = record {
  small = l;
  body = body;
  carried =
      record {
        pads = [];
        syns = SYN ∷ SYN ∷ [];
        trail = PAD ∷ [];
        whole = refl;
        are_pads = tt;
        are_syns = (refl, (refl, tt));
        some_syn = λ e. cc;
        are_trail = (refl, tt);
      };
  is_body = h;
}

-- with other fill after its EOT a call is still spelled
fill_in_call : (a : List ℕ) (h : IsAddress a) (place new : ℕ) → IsCallFill place new
    → Spells (set (wire (Call a)) place new) (Call a)
fill_in_call a h place new (inl k) =
    rw (k.0, k.1) (call_spells a (EOT ∷ SYN ∷ SYN ∷ SYN ∷ [] ++ map odd_octet a ++ ENQ ∷ [])
    (changed_wire_not_too_long (Call a) h 3 SYN)
    (record {
      pads = [];
      syns = SYN ∷ SYN ∷ SYN ∷ [];
      whole = refl;
      are_pads = tt;
      are_syns =
          (refl, (refl, (refl, tt)));
      address = h;
    }))
fill_in_call a h place new (inr k) =
    rw (k.0, k.1) (call_spells a (EOT ∷ PAD ∷ PAD ∷ SYN ∷ [] ++ map odd_octet a ++ ENQ ∷ [])
    (changed_wire_not_too_long (Call a) h 4 PAD)
    (record {
      pads = PAD ∷ PAD ∷ [];
      syns = SYN ∷ [];
      whole = refl;
      are_pads =
          (refl, (refl, tt));
      are_syns = (refl, tt);
      address = h;
    }))

-- with fill in place of an octet the message is still spelled
pub fill_spells : (m : Message) → IsMessage m → (place new : ℕ) → IsFillIn m place new
    → Spells (set (wire m) place new) m
fill_spells m h place new (inl k) =
    let s = sent_of m h in
    let long : length (set (framed s.body) 0 new) ≤ MAX_HEARD = rw s.whole at (changed_wire_not_too_long m h 0 new) in
    rw (k.0, s.whole) (pad_spells m s.body new long s.is_body k.1)
fill_spells m h place new (inr k) =
    let call : m ≡ Call k.0.0 = k.0.1 in
    subst (λ (w : Message). Spells (set (wire w) place new) w) (sym call)
    (fill_in_call k.0.0 (subst (λ (w : Message). IsMessage w) call h) place new k.1)

-- ---- the changes after which a text has failed

-- a text with one octet after its STX changed to the other parity fails
text_fails : (t : TextValue) → IsText t → (place new : ℕ) → 2 < place → place
    < length (wire (Text t))
    → HaveOtherParity new (get_or (wire (Text t)) place 0)
    → IsFailed (set (wire (Text t)) place new)
text_fails t h zero new u l p = absurd (omega arith)
text_fails t h (suc zero) new u l p = absurd (omega arith)
text_fails t h (suc (suc zero)) new u l p = absurd (omega arith)
text_fails t h (suc (suc (suc place))) new u l p = record {
  small = changed_wire_not_too_long (Text t) h (suc (suc (suc place))) new;
  rest = set (units_wire t.units t.end ++ PAD ∷ []) place new;
  carried = record {
    pads = [];
    syns = SYN ∷ SYN ∷ [];
    trail = [];
    whole = sym (append-nil (set (wire (Text t)) (suc (suc (suc place))) new));
    are_pads = tt;
    are_syns = (refl, (refl, tt));
    some_syn = λ e. cc;
    are_trail = tt;
  };
  none = λ n k. elim (spelled_fill (Text t) h (suc (suc (suc place))) new n l p k) [
    | inl f ↦ omega (arith, f.0)
    | inr f ↦ let e : Text t ≡ Call f.0.0 = f.0.1 in cc
  ];
}

-- what fails begins as a text, so the change stands after the STX
by_failed_place : (m : Message) (s : Shape m) (place new : ℕ) → (IsLeadingPad place new → ⊥)
    → place < length (SYN ∷ SYN ∷ s.x ∷ s.tail)
    → HaveOtherParity new (get_or (SYN ∷ SYN ∷ s.x ∷ s.tail) place 0)
    → IsFailed (set (SYN ∷ SYN ∷ s.x ∷ s.tail) place new) → (2 < place) × IsSomeText m
by_failed_place m s zero new q l p f = elim (pad_or_not new) [
  | inl k ↦ absurd (q (refl, k))
  | inr k ↦
      let noise =
      starts_wrong new (SYN ∷ s.x ∷ s.tail) k (test_false new SYN (not_same new SYN p)) in
      let failed = heard_failed (new ∷ SYN ∷ s.x ∷ s.tail) f in
      absurd (let both : Failed ≡ Noise = sym failed ∙ noise in cc)
]
by_failed_place m s (suc zero) new q l p f =
    let k =
    failed_inside (SYN ∷ []) (new ∷ s.x ∷ s.tail) (refl, tt) (λ e. cc)
    (test_false new SYN (not_same new SYN p)) f in
    absurd (not_both_odd new SYN p (rw (equal_lists_equal_heads k.1) stx_odd) syn_odd)
by_failed_place m s (suc (suc zero)) new q l p f =
    let k =
    failed_inside (SYN ∷ SYN ∷ []) (new ∷ s.tail) (refl, (refl, tt)) (λ e. cc)
    (test_false new SYN (λ e. not_both_odd new s.x p (rw e syn_odd) s.odd)) f in
    absurd (not_both_odd new s.x p (rw (equal_lists_equal_heads k.1) stx_odd) s.odd)
by_failed_place m s (suc (suc (suc place))) new q l p f =
    let k =
    failed_inside (SYN ∷ SYN ∷ []) (s.x ∷ set s.tail place new) (refl, (refl, tt)) (λ e. cc)
    s.other f in
    (omega arith, s.starts_text (equal_lists_equal_heads k.1))

-- a change makes a transmission fail exactly if it stands after the STX of a text
pub failed_place : (m : Message) → IsMessage m → (place new : ℕ) → place < length (wire m)
    → HaveOtherParity new (get_or (wire m) place 0)
    → IsFailed (set (wire m) place new) ↔ ((2 < place) × IsSomeText m)
failed_place m h place new l p = (there, back)
  where
    there : IsFailed (set (wire m) place new) → (2 < place) × IsSomeText m
    there f =
        let s = shape_of_message m h in
        by_failed_place m s place new (λ k. f.none m (fill_spells m h place new (inl k)))
        (rw s.whole at l) (rw s.whole at p) (rw s.whole at f)

    back : (2 < place) × IsSomeText m → IsFailed (set (wire m) place new)
    back k =
        let text : m ≡ Text k.1.0 = k.1.1 in
        subst (λ (w : Message). IsFailed (set (wire w) place new)) (sym text)
        (text_fails k.1.0 (subst (λ (w : Message). IsMessage w) text h) place new k.0
        (subst (λ (w : Message). place < length (wire w)) text l)
        (subst (λ (w : Message). HaveOtherParity new (get_or (wire w) place 0)) text p))

-- ---- the laws

-- after a change a message is spelled exactly if it is that message and the octet is fill
pub spelled_where : (m n : Message) (place new : ℕ) → IsMessage m → place < length (wire m)
    → HaveOtherParity new (get_or (wire m) place 0)
    → Spells (set (wire m) place new) n ↔ ((n ≡ m) × IsFillIn m place new)
spelled_where m n place new h l p = (there, back)
  where
    there : Spells (set (wire m) place new) n → (n ≡ m) × IsFillIn m place new
    there k =
        let fill = spelled_fill m h place new n l p k in
        (one_message (set (wire m) place new) n m k (fill_spells m h place new fill), fill)

    back : (n ≡ m) × IsFillIn m place new → Spells (set (wire m) place new) n
    back k =
        subst (λ (w : Message). Spells (set (wire m) place new) w) (sym k.0)
        (fill_spells m h place new k.1)
