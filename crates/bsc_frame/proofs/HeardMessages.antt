-- What is heard is exactly what is spelled.
use Rattle.std.proofs.Common.{◌≡◌, ◌≢◌, ◌⊎◌, inl, inr, ℕ, ◌≤◌, ◌==◌, true, false, refl, sym, ap}
use Rattle.std.proofs.Common.{subst, ◌∙◌}
use Rattle.std.proofs.Common.{arith, List, [], ◌∷◌, ◌++◌, length, drop, map, Option, Some, None}
use Rattle.std.proofs.Common.{length-append}
use Rattle.std.proofs.lemmas.Bool.{eqb-true}
use Rattle.std.proofs.lemmas.List.{length-map}
use Rattle.bsc_octet.specs.Octet.{odd_octet}
use Rattle.bsc_frame.specs.Texts.{TextValue}
use Rattle.bsc_frame.specs.Units.{units_wire}
use Rattle.bsc_frame.specs.Message.{IsMessage}
use Rattle.bsc_frame.specs.Wire.{wire, framed}
use Rattle.bsc_frame.specs.Spells.{Spells, IsBody, IsTextBody, Carries, IsFailed, IsNoise}
use Rattle.bsc_frame.specs.Reading.{is_octet, begins, control, heard, heard_body, whole_or_noise}
use Rattle.bsc_frame.specs.Reading.{whole_or_failed, units_at}
use Rattle.bsc_frame.specs.declared.message.Message.{Message}
use Rattle.bsc_frame.specs.declared.message.Message.TheVariants.{Eot, Call, Enq, Reply, Text}
use Rattle.bsc_frame.specs.declared.message.Heard.{Heard}
use Rattle.bsc_frame.specs.declared.message.Heard.TheVariants.{Whole, Failed, Noise}
use Rattle.bsc_frame.proofs.Fronts.{body_unless_noise, heard_carried, Ends, trimmed_body}
use Rattle.bsc_frame.proofs.Fronts.{trimmed_begins}
use Rattle.bsc_frame.proofs.ControlSequences.{control_reads, control_read, IsControl}
use Rattle.bsc_frame.proofs.ReadingSteps.{branch_of_test}
use Rattle.bsc_frame.proofs.Replies.{reply_form}
use Rattle.bsc_frame.proofs.TextUnits.{units_at_reads, units_at_read, units_end, wire_units}
use Rattle.bsc_frame.proofs.TextUnits.{length_units_wire}
use Rattle.bsc_frame.specs.declared.limits.TheConstants.{MAX_UNITS, MAX_SENT}
use Rattle.bsc_octet.specs.declared.controls.TheConstants.{DLE, ENQ, EOT, NAK, PAD, STX, SYN}

-- ---- bodies

-- what is heard whole or else as noise was read
or_noise : (o : Option Message) (m : Message) → whole_or_noise o ≡ Whole m → o ≡ Some m
or_noise None m e = cc
or_noise (Some k) m e = cc

-- what is heard whole or else as failed was read as a text
or_failed : (o : Option TextValue) (m : Message) → whole_or_failed o ≡ Whole m
    → (t : TextValue) × (o ≡ Some t) × (Text t ≡ m)
or_failed None m e = cc
or_failed (Some t) m e = (t, refl, cc)

-- a body that is read as a text is that of the text
text_reads : (body : List ℕ) (t : TextValue) → begins (is_octet STX) body ≡ true
    → units_at MAX_UNITS false (drop 1 body) ≡ Some t → IsTextBody t body
text_reads [] t h e = cc
text_reads (x ∷ rest) t h e =
    let r = units_at_reads MAX_UNITS false rest t e in
    record {
      rest = rest;
      whole = ap (λ z. z ∷ rest) (eqb-true x STX h);
      units = r.units;
      text =
          record { some = r.some; most = r.most; each = r.each };
    }

-- a body that is heard as a message is that of the message
pub body_reads : (body : List ℕ) (m : Message) → heard_body body ≡ Whole m → IsBody m body
unfolding heard_body
body_reads body m e = elim (branch_of_test (begins (is_octet STX) body) _ _ _ e) [
  | inl h ↦
      let t = or_failed (units_at MAX_UNITS false (drop 1 body)) m h.1 in
      subst (λ k. IsBody k body) t.2 (text_reads body t.0 h.0 t.1)
  | inr h ↦ control_reads body m (or_noise (control body) m h.1)
]

-- what the bodies have in common: no SYN first, no PAD last
record Plain (body : List ℕ) : Type 0 where
  begins_other : (x : ℕ) × (rest : List ℕ) × (body ≡ x ∷ rest) × ((x == SYN) ≡ false)
  ends : Ends body

-- a body of one octet that is neither SYN nor PAD has no SYN first and no PAD last
plain_body_of_one : (x : ℕ) → ((x == SYN) ≡ false) → ((x == PAD) ≡ false) → (body : List ℕ) → body ≡ x ∷ []
    → Plain body
plain_body_of_one x a c body e =
    record {
      begins_other = (x, [], e, a);
      ends =
          record { front = []; last = x; whole = e; other = c };
    }

-- a body of DLE and one octet that is not PAD has no SYN first and no PAD last
plain_body_after_dle : (y : ℕ) → ((y == PAD) ≡ false) → (body : List ℕ) → body ≡ DLE ∷ y ∷ [] → Plain body
plain_body_after_dle y c body e =
    record {
      begins_other = (DLE, y ∷ [], e, refl);
      ends =
          record { front = DLE ∷ []; last = y; whole = e; other = c };
    }

-- a text ends as its units do
ends_text : (rest : List ℕ) → Ends rest → Ends (STX ∷ rest)
ends_text rest e =
    record {
      front = STX ∷ e.front;
      last = e.last;
      whole = ap (λ z. STX ∷ z) e.whole;
      other =
          e.other;
    }

-- the body of a message neither begins with SYN nor ends with PAD
plain_body : (body : List ℕ) (m : Message) → IsBody m body → Plain body
plain_body body Eot h = plain_body_of_one EOT refl refl body h
plain_body body (Call a) h = record {
  begins_other = (EOT, h.pads ++ h.syns ++ map odd_octet a ++ ENQ ∷ [], h.whole, refl);
  ends =
      record {
        front = EOT ∷ h.pads ++ h.syns ++ map odd_octet a;
        last = ENQ;
        whole = h.whole;
        other = refl;
      };
}
plain_body body Enq h = plain_body_of_one ENQ refl refl body h
plain_body body (Reply r) h = elim (reply_form r) [
  | inl k ↦ plain_body_of_one NAK refl refl body (h ∙ k)
  | inr k ↦ plain_body_after_dle k.second k.no_pad body (h ∙ k.whole)
]
plain_body body (Text t) h = record {
  begins_other = (STX, h.rest, h.whole, refl);
  ends = rw h.whole (ends_text h.rest (units_end false t.units t.end h.rest h.units h.text.some));
}

-- the body of a message without a text is heard as that message
control_body : (x : ℕ) (rest : List ℕ) (m : Message) → (x == STX) ≡ false → IsControl m
    → (body : List ℕ)
    → body ≡ x ∷ rest → IsBody m body → heard_body body ≡ Whole m
unfolding heard_body
control_body x rest m n k body e h =
    let other : begins (is_octet STX) body ≡ false = ap (begins (is_octet STX)) e ∙ n in
    rw (other, control_read body m k h) refl

-- the body of each message is heard as that message
pub body_read : (body : List ℕ) (m : Message) → IsBody m body → heard_body body ≡ Whole m
unfolding heard_body
body_read body Eot h = control_body EOT [] Eot refl tt body h h
body_read body (Call a) h = control_body EOT _ (Call a) refl tt body h.whole h
body_read body Enq h = control_body ENQ [] Enq refl tt body h h
body_read body (Reply r) h = elim (reply_form r) [
  | inl k ↦ control_body NAK [] (Reply r) refl tt body (h ∙ k) h
  | inr k ↦ control_body DLE (k.second ∷ []) (Reply r) refl tt body (h ∙ k.whole) h
]
body_read body (Text t) h =
    let units : units_at MAX_UNITS false h.rest ≡ Some t =
    units_at_read MAX_UNITS false t.units t.end h.rest h.units h.text.some h.text.most
    h.text.each in
    rw (h.whole, units) refl

-- ---- whole

-- octets that spell a message are heard as it
pub heard_spelled : (octets : List ℕ) (m : Message) → Spells octets m → heard octets ≡ Whole m
heard_spelled octets m s =
    let p = plain_body s.body m s.is_body in
    let stops : begins (is_octet SYN) (s.body ++ s.carried.trail) ≡ false =
    ap (λ b. begins (is_octet SYN) (b ++ s.carried.trail)) p.begins_other.2 ∙ p.begins_other.3 in
    heard_carried octets s.body s.carried s.small stops
    ∙ ap heard_body (trimmed_body s.body s.carried.trail p.ends s.carried.are_trail)
    ∙ body_read s.body m s.is_body

-- a message is not noise
loud_whole : (h : Heard) (m : Message) → h ≡ Whole m → h ≢ Noise
loud_whole h m e n = cc

-- octets that are heard as a message spell it
pub spelled_heard : (octets : List ℕ) (m : Message) → heard octets ≡ Whole m → Spells octets m
spelled_heard octets m e =
    let b = body_unless_noise octets (loud_whole (heard octets) m e) in
    record {
      small = b.small;
      body = b.body;
      carried = b.carried;
      is_body =
          body_reads b.body m (sym b.same ∙ e);
    }

-- ---- failed

-- a body that failed begins with STX
pub failed_begins : (body : List ℕ) → heard_body body ≡ Failed → (rest : List ℕ)
    × (body ≡ STX ∷ rest)
unfolding heard_body control
failed_begins [] e = absurd cc
failed_begins (x ∷ rest) e = elim (branch_of_test (x == STX) _ _ _ e) [
  | inl h ↦ (rest, ap (λ o. o ∷ rest) (eqb-true x STX h.0))
  | inr h ↦ absurd (not_failed (control (x ∷ rest)) h.1)
]
  where
    not_failed : (o : Option Message) → whole_or_noise o ≡ Failed → ⊥
    not_failed None e = cc
    not_failed (Some m) e = cc

-- a body that begins with STX is never noise
text_loud : (rest : List ℕ)
    → (heard_body (STX ∷ rest) ≡ Failed) ⊎ ((m : Message) × (heard_body (STX ∷ rest) ≡ Whole m))
unfolding heard_body
text_loud rest = by_units (units_at MAX_UNITS false rest)
  where
    by_units : (o : Option TextValue) → (whole_or_failed o ≡ Failed)
        ⊎ ((m : Message) × (whole_or_failed o ≡ Whole m))
    by_units None = inl refl
    by_units (Some t) = inr (Text t, refl)

-- a failed text is not noise
loud_failed : (h : Heard) → h ≡ Failed → h ≢ Noise
loud_failed h e n = cc

-- octets that are heard as failed are failed by the relation
pub failed_heard : (octets : List ℕ) → heard octets ≡ Failed → IsFailed octets
failed_heard octets e =
    let b = body_unless_noise octets (loud_failed (heard octets) e) in
    let f = failed_begins b.body (sym b.same ∙ e) in
    record {
      small = b.small;
      rest = f.0;
      carried = subst (λ x. Carries octets x) f.1 b.carried;
      none = λ m s. let k = heard_spelled octets m s in cc;
    }

-- octets that are failed by the relation are heard as failed
pub heard_failed : (octets : List ℕ) → IsFailed octets → heard octets ≡ Failed
heard_failed octets f =
    let t = trimmed_begins STX (f.rest ++ f.carried.trail) refl in
    let same : heard octets ≡ heard_body (STX ∷ t.0) =
    heard_carried octets (STX ∷ f.rest) f.carried f.small refl ∙ ap heard_body t.1 in
    elim (text_loud t.0) [
      | inl h ↦ same ∙ h
      | inr h ↦ absurd (f.none h.0 (spelled_heard octets h.0 (same ∙ h.1)))
    ]

-- ---- noise

-- octets that are heard as noise are noise by the relation
pub noise_heard : (octets : List ℕ) → heard octets ≡ Noise → IsNoise octets
noise_heard octets e =
    (λ m s. let k = heard_spelled octets m s in cc, λ f. let k = heard_failed octets f in cc)

-- octets that are noise by the relation are heard as noise
noise_by : (octets : List ℕ) (h : Heard) → heard octets ≡ h → IsNoise octets → heard octets ≡ Noise
noise_by octets (Whole m) e n = absurd (n.0 m (spelled_heard octets m e))
noise_by octets Failed e n = absurd (n.1 (failed_heard octets e))
noise_by octets Noise e n = e

-- octets that are noise by the relation are heard as noise
pub heard_noise : (octets : List ℕ) → IsNoise octets → heard octets ≡ Noise
heard_noise octets n = noise_by octets (heard octets) refl n

-- ---- laws

-- no octets spell two messages
pub one_message : (octets : List ℕ) (m n : Message) → Spells octets m → Spells octets n → m ≡ n
one_message octets m n s t =
    let k : Whole m ≡ Whole n = sym (heard_spelled octets m s) ∙ heard_spelled octets n t in
    cc

-- what is sent for a message is at most this long
pub length_wire : (m : Message) → IsMessage m → length (wire m) ≤ MAX_SENT
length_wire Eot h = omega arith
length_wire (Call a) h =
    omega (
      arith,
      h.most,
      length-append (map odd_octet a ++ ENQ ∷ []) (PAD ∷ []),
      length-append (map odd_octet a) (ENQ ∷ []),
      length-map a odd_octet,
    )
length_wire Enq h = omega arith
length_wire (Reply r) h = elim (reply_form r) [
  | inl k ↦ rw k (omega arith)
  | inr k ↦ rw k.whole (omega arith)
]
length_wire (Text t) h =
    omega (
      arith,
      h.most,
      length_units_wire t.units t.end h.each,
      length-append (units_wire t.units t.end) (PAD ∷ []),
    )

-- two SYN, a body and one PAD spell the message of the body
framed_body_spells : (body : List ℕ) (m : Message) → length (framed body) ≤ MAX_SENT → IsBody m body
    → Spells (framed body) m
framed_body_spells body m plain_body_of_one h = record {
  small = omega arith;
  body = body;
  carried =
      record {
        pads = [];
        syns = SYN ∷ SYN ∷ [];
        trail = PAD ∷ [];
        whole = refl;
        are_pads = tt;
        are_syns = (refl, (refl, tt));
        some_syn = λ e. cc;
        are_trail = (refl, tt);
      };
  is_body = h;
}

-- what is sent for a message spells it
pub wire_spells : (m : Message) → IsMessage m → Spells (wire m) m
wire_spells Eot h = framed_body_spells _ Eot (length_wire Eot h) refl
wire_spells (Call a) h =
    framed_body_spells _ (Call a) (length_wire (Call a) h)
    (record {
      pads = PAD ∷ [];
      syns = SYN ∷ SYN ∷ [];
      whole = refl;
      are_pads = (refl, tt);
      are_syns = (refl, (refl, tt));
      address = h;
    })
wire_spells Enq h = framed_body_spells _ Enq (length_wire Enq h) refl
wire_spells (Reply r) h = framed_body_spells _ (Reply r) (length_wire (Reply r) h) refl
wire_spells (Text t) h =
    framed_body_spells _ (Text t) (length_wire (Text t) h)
    (record {
      rest = units_wire t.units t.end;
      whole = refl;
      units =
          wire_units false t.units t.end;
      text = h;
    })
