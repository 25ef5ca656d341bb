-- A text with one octet replaced by another of odd parity, neither of which is SYN or ends a unit.
use Rattle.std.proofs.Common.{◌≡◌, inl, inr, ℕ, zero, suc, ◌<◌, false, refl, sym, ap, subst, ◌∙◌}
use Rattle.std.proofs.Common.{arith, List}
use Rattle.std.proofs.Common.{[], ◌∷◌, ◌++◌, length, get_or, set, append_assoc, Some, None}
use Rattle.std.specs.List.{AllByRecursion}
use Rattle.bsc_octet.specs.Octet.{IsOdd}
use Rattle.bsc_frame.specs.Texts.{TextValue, IsText}
use Rattle.bsc_frame.specs.Units.{units_wire}
use Rattle.bsc_frame.specs.Wire.{wire}
use Rattle.bsc_frame.specs.Spells.{Spells, AreAll, AreUnits}
use Rattle.bsc_frame.specs.Reading.{units_at}
use Rattle.bsc_frame.specs.TurnedBits.{IsOtherOctet}
use Rattle.bsc_frame.specs.declared.message.Message.{Message}
use Rattle.bsc_frame.specs.declared.message.Message.TheVariants.{Text}
use Rattle.bsc_frame.proofs.TextUnits.{units_at_read, wire_units}
use Rattle.bsc_frame.proofs.OddTexts.{units_odd}
use Rattle.bsc_frame.proofs.Places.{split_at_place, in_first_or_second_list, all_here, all_after}
use Rattle.bsc_frame.proofs.Insides.{Inside, inside_after_syns, after_first}
use Rattle.bsc_frame.proofs.LongerTexts.{no_longer_units}
use Rattle.bsc_frame.proofs.DamagedText.{equal_lists_equal_heads, equal_lists_equal_tails}
use Rattle.bsc_frame.proofs.DamagedText.{text_body, some_after}
use Rattle.bsc_frame.proofs.DamagedCall.{pad_even}
use Rattle.bsc_frame.proofs.ChangedUnits.{changed_units}
use Rattle.bsc_frame.specs.declared.limits.TheConstants.{MAX_UNITS}
use Rattle.bsc_octet.specs.declared.controls.TheConstants.{PAD, STX, SYN}

-- octets with odd parity and the PAD after them can be split in only one way
same_fronts : (xs ys p q : List ℕ) → AllByRecursion IsOdd xs → AllByRecursion IsOdd ys
    → AreAll PAD p
    → AreAll PAD q → xs ++ p ≡ ys ++ q → xs ≡ ys
same_fronts [] [] p q h k a b e = refl
same_fronts [] (y ∷ ys) [] q h k a b e = absurd (omega (arith, ap length e))
same_fronts [] (y ∷ ys) (z ∷ p) q h k a b e =
    absurd (pad_even (subst IsOdd (sym (equal_lists_equal_heads e) ∙ a.0) k.0))
same_fronts (x ∷ xs) [] p [] h k a b e = absurd (omega (arith, ap length e))
same_fronts (x ∷ xs) [] p (z ∷ q) h k a b e = absurd (pad_even (subst IsOdd (equal_lists_equal_heads e ∙ b.0) h.0))
same_fronts (x ∷ xs) (y ∷ ys) p q h k a b e =
    ap (λ z. z ∷ xs) (equal_lists_equal_heads e) ∙ ap (λ z. y ∷ z) (same_fronts xs ys p q h.1 k.1 a b (equal_lists_equal_tails e))

-- no transmission has a text with one octet after its STX replaced in this way
changed_text : (t : TextValue) (n : Message) (before : List ℕ) (old : ℕ) (after : List ℕ) (new : ℕ)
    → IsText t
    → IsOtherOctet old new
    → units_wire t.units t.end ++ PAD ∷ [] ≡ before ++ old ∷ after
    → Inside (STX ∷ before ++ new ∷ after) n
    → ⊥
changed_text t n before old after new h o whole i =
    let b = after_first STX (before ++ new ∷ after) n i in
    let s = text_body n b.body b.is_body in
    let sent : AreUnits false t.units t.end (units_wire t.units t.end) =
    wire_units false t.units t.end in
    let sent_odd : AllByRecursion IsOdd (units_wire t.units t.end) =
    units_odd false t.units t.end (units_wire t.units t.end) sent h.each in
    let body_odd : AllByRecursion IsOdd b.body =
    units_odd false s.0.units s.0.end b.body s.1 s.2.each in
    elim (in_first_or_second_list b.body b.trail before new after (sym b.whole)) [
      | inr q ↦ pad_even
          (subst IsOdd (all_here (λ x. x ≡ PAD) q.more new after
          (subst (AreAll PAD) q.rest b.are_trail)) o.odd)
      | inl q ↦ elim (in_first_or_second_list (units_wire t.units t.end) (PAD ∷ []) before old after whole) [
        | inl p ↦
            let sent_after : AllByRecursion IsOdd p.more =
            (all_after IsOdd before (old ∷ p.more)
            (subst (λ z. AllByRecursion IsOdd z) p.first sent_odd)).1 in
            let heard_after : AllByRecursion IsOdd q.more =
            (all_after IsOdd before (new ∷ q.more)
            (subst (λ z. AllByRecursion IsOdd z) q.first body_odd)).1 in
            let same : q.more ≡ p.more =
            same_fronts q.more p.more b.trail (PAD ∷ []) heard_after sent_after b.are_trail
            (refl, tt) (sym q.rest ∙ p.rest) in
            let none : units_at MAX_UNITS false b.body ≡ None =
            ap (units_at MAX_UNITS false) (q.first ∙ ap (λ z. before ++ new ∷ z) same)
            ∙ changed_units MAX_UNITS false t.units t.end before old new p.more h.each o
            p.first in
            let some : units_at MAX_UNITS false b.body ≡ Some s.0 =
            units_at_read MAX_UNITS false s.0.units s.0.end b.body s.1 s.2.some s.2.most s.2.each in
            let both : Some s.0 ≡ None = sym some ∙ none in
            cc
        | inr p ↦
            let longer : b.body ≡ units_wire t.units t.end ++ (p.more ++ new ∷ q.more) =
            q.first ∙ ap (λ z. z ++ new ∷ q.more) p.first
            ∙ append_assoc (units_wire t.units t.end) p.more (new ∷ q.more) in
            no_longer_units t s.0 (units_wire t.units t.end) (p.more ++ new ∷ q.more)
            (some_after p.more q.more new) sent h
            (subst (λ z. AreUnits false s.0.units s.0.end z) longer s.1) s.2
      ]
    ]

-- what is sent for a text, with one octet after its STX replaced in this way, spells no message
pub other_octet_lost : (t : TextValue) (n : Message) (place new : ℕ) → IsText t → 2 < place
    → place < length (wire (Text t)) → IsOtherOctet (get_or (wire (Text t)) place 0) new
    → Spells (set (wire (Text t)) place new) n → ⊥
other_octet_lost t n zero new h u l o k = omega arith
other_octet_lost t n (suc zero) new h u l o k = omega arith
other_octet_lost t n (suc (suc zero)) new h u l o k = omega arith
other_octet_lost t n (suc (suc (suc place))) new h u l o k =
    let r = split_at_place (units_wire t.units t.end ++ PAD ∷ []) place (omega arith) in
    let i =
    inside_after_syns (SYN ∷ SYN ∷ []) (STX ∷ r.before ++ new ∷ r.after) n (refl, (refl, tt)) (λ e. cc)
    refl (rw (r.changed new) at k) in
    changed_text t n r.before r.here r.after new h (rw r.is_here at o) r.whole i
