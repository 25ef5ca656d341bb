-- A text with one octet after its STX replaced by one of the other parity is no message.
use Rattle.std.proofs.Common.{◌≡◌, inl, inr, ℕ, ◌%◌, ◌<◌, false, refl, sym, ap, subst, ◌∙◌, arith}
use Rattle.std.proofs.Common.{List, []}
use Rattle.std.proofs.Common.{◌∷◌, ◌++◌, length, length-append, append_assoc, count_ones}
use Rattle.std.specs.List.{AllByRecursion}
use Rattle.bsc_octet.specs.Octet.{IsOdd, HaveOtherParity}
use Rattle.bsc_frame.specs.Texts.{TextValue, IsText}
use Rattle.bsc_frame.specs.Units.{units_wire}
use Rattle.bsc_frame.specs.Spells.{IsBody, AreAll, AreUnits}
use Rattle.bsc_frame.specs.declared.message.Message.{Message}
use Rattle.bsc_frame.specs.declared.message.Message.TheVariants.{Eot, Call, Enq, Reply, Text}
use Rattle.bsc_octet.specs.declared.controls.TheConstants.{PAD, STX}
use Rattle.bsc_frame.proofs.Replies.{reply_form}
use Rattle.bsc_frame.proofs.TextUnits.{wire_units}
use Rattle.bsc_frame.proofs.OddTexts.{units_odd}
use Rattle.bsc_frame.proofs.Places.{in_first_or_second_list, all_here}
use Rattle.bsc_frame.proofs.Insides.{Inside, after_first}
use Rattle.bsc_frame.proofs.LongerTexts.{no_longer_units}

-- lists that are the same have the same first element
pub equal_lists_equal_heads : {x y : ℕ} {xs ys : List ℕ} → x ∷ xs ≡ y ∷ ys → x ≡ y
equal_lists_equal_heads e = cc

-- lists that are the same have the same rest
pub equal_lists_equal_tails : {x y : ℕ} {xs ys : List ℕ} → x ∷ xs ≡ y ∷ ys → xs ≡ ys
equal_lists_equal_tails e = cc

-- two octets of different parity are not both odd
pub not_both_odd : (a b : ℕ) → HaveOtherParity a b → IsOdd a → IsOdd b → ⊥
not_both_odd a b h p q = h (p ∙ sym q)

-- two octets of different parity are not the same
pub not_same : (a b : ℕ) → HaveOtherParity a b → a ≡ b → ⊥
not_same a b h e = h (ap (λ x. count_ones x % 2) e)

-- a body that begins with STX
pub text_body : (n : Message) (body : List ℕ) → IsBody n (STX ∷ body)
    → (s : TextValue) × AreUnits false s.units s.end body × IsText s
text_body Eot body h = absurd (omega (arith, equal_lists_equal_heads h))
text_body (Call a) body h = absurd (omega (arith, equal_lists_equal_heads h.whole))
text_body Enq body h = absurd (omega (arith, equal_lists_equal_heads h))
text_body (Reply r) body h = elim (reply_form r) [
  | inl k ↦ absurd (omega (arith, equal_lists_equal_heads (h ∙ k)))
  | inr k ↦ absurd (omega (arith, equal_lists_equal_heads (h ∙ k.whole)))
]
text_body (Text s) body h = (s, rw (equal_lists_equal_tails h.whole) h.units, h.text)

-- a list with an element in it is not empty
pub some_after : (front back : List ℕ) (o : ℕ) → 0 < length (front ++ o ∷ back)
some_after front back o = omega (arith, length-append front (o ∷ back))

-- no transmission has a text with one octet after its STX changed to the other parity
pub lost_text : (t : TextValue) (n : Message) (before : List ℕ) (o : ℕ) (after : List ℕ) (new : ℕ)
    → IsText t
    → units_wire t.units t.end ++ PAD ∷ [] ≡ before ++ o ∷ after → HaveOtherParity new o
    → Inside (STX ∷ before ++ new ∷ after) n → ⊥
lost_text t n before o after new h whole other i =
    let b = after_first STX (before ++ new ∷ after) n i in
    let s = text_body n b.body b.is_body in
    let sent : AreUnits false t.units t.end (units_wire t.units t.end) =
    wire_units false t.units t.end in
    let sent_odd : AllByRecursion IsOdd (units_wire t.units t.end) =
    units_odd false t.units t.end (units_wire t.units t.end) sent h.each in
    let body_odd : AllByRecursion IsOdd b.body =
    units_odd false s.0.units s.0.end b.body s.1 s.2.each in
    elim (in_first_or_second_list (units_wire t.units t.end) (PAD ∷ []) before o after whole) [
      | inl p ↦
          let was : IsOdd o =
          all_here IsOdd before o p.more (subst (λ z. AllByRecursion IsOdd z) p.first
          sent_odd) in
          elim (in_first_or_second_list b.body b.trail before new after (sym b.whole)) [
            | inl q ↦ not_both_odd new o other
                (all_here IsOdd before new q.more
                (subst (λ z. AllByRecursion IsOdd z) q.first body_odd)) was
            | inr q ↦
                let longer : units_wire t.units t.end ≡ b.body ++ (q.more ++ o ∷ p.more) =
                p.first ∙ ap (λ z. z ++ o ∷ p.more) q.first
                ∙ append_assoc b.body q.more (o ∷ p.more) in
                no_longer_units s.0 t b.body (q.more ++ o ∷ p.more) (some_after q.more p.more o) s.1
                s.2 (subst (λ z. AreUnits false t.units t.end z) longer sent) h
          ]
      | inr p ↦
          let was : PAD ≡ o =
          sym (all_here (λ x. x ≡ PAD) p.more o after (subst (AreAll PAD) p.rest pad_all)) in
          elim (in_first_or_second_list b.body b.trail before new after (sym b.whole)) [
            | inl q ↦
                let longer : b.body ≡ units_wire t.units t.end ++ (p.more ++ new ∷ q.more) =
                q.first ∙ ap (λ z. z ++ new ∷ q.more) p.first
                ∙ append_assoc (units_wire t.units t.end) p.more (new ∷ q.more) in
                no_longer_units t s.0 (units_wire t.units t.end) (p.more ++ new ∷ q.more)
                (some_after p.more q.more new) sent h
                (subst (λ z. AreUnits false s.0.units s.0.end z) longer s.1) s.2
            | inr q ↦ not_same new o other (all_here (λ x. x ≡ PAD) q.more new after
                (subst (AreAll PAD) q.rest b.are_trail) ∙ was)
          ]
    ]
  where
    pad_all : AreAll PAD (PAD ∷ [])
    pad_all = (refl, tt)
