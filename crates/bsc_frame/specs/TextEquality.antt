-- Proofs that the comparison of two texts decides whether they are the same. They stand in specs
-- because the laws of `==` cite them, and those laws cite nothing in proofs.
use Rattle.std.specs.Prelude.{◌≡◌, Bool, true, false, ◌&&◌, ◌==◌, refl}
use Rattle.std.proofs.Common.{sym, ap}
use Rattle.std.specs.Bool.{Decides, one_answer, beq}
use Rattle.std.specs.Cmp.{IsEquivalence, booleans_Decides}
use lib.Pointwise.{pointwise, pointwise_decides, bytes_decides}
use Rattle.bsc_frame.specs.Texts.{TextUnit, TextValue}
use Rattle.bsc_frame.specs.Units.{end_code}
use Rattle.bsc_frame.specs.Same.{is_same_unit, is_same_text}
use Rattle.bsc_frame.specs.declared.text.End.{End}
use Rattle.bsc_frame.specs.declared.text.End.TheVariants.{Etb, Etx}

-- A test that decides whether two values are the same is an equivalence.
pub equivalence : {K : Type 0} (E : K → K → Bool) → ((x y : K) → Decides (E x y) (x ≡ y))
    → IsEquivalence E
equivalence E d =
    record {
      refl = λ x. (d x x).1 refl;
      symm = λ x y.
          one_answer (E x y) (E y x) (d x y)
          ((λ e. sym ((d y x).0 e)), (λ e. (d y x).1 (sym e)));
      congr = λ x y z e. ap (λ k. E k z) ((d x y).0 e);
    }

-- Two tests together decide a statement that follows from both of theirs and implies both.
pub both_true : {P Q R : Type 0} (s t : Bool) → Decides s P → Decides t Q
    → (P → Q → R) → (R → P) → (R → Q) → Decides (s && t) R
both_true true t p q join first second = (λ e. join (p.0 refl) (q.0 e), λ r. q.1 (second r))
both_true false t p q join first second = (λ e. absurd (cc), λ r. p.1 (first r))

-- The comparison of units, of ends and of texts decides whether they are the same.
unit_decides : (a b : TextUnit) → Decides (is_same_unit a b) (a ≡ b)
unit_decides a b =
    both_true (pointwise ◌==◌ a.chars b.chars) (beq a.em b.em) (bytes_decides a.chars b.chars)
    (booleans_Decides a.em b.em) (λ chars em i. record { chars = chars i; em = em i })
    (ap (λ (u : TextUnit). u.chars)) (ap (λ (u : TextUnit). u.em))

pub end_decides : (a b : End) → Decides (end_code a == end_code b) (a ≡ b)
end_decides Etb Etb = (λ e. refl, λ e. refl)
end_decides Etb Etx = (λ e. absurd (cc), λ e. absurd (cc))
end_decides Etx Etb = (λ e. absurd (cc), λ e. absurd (cc))
end_decides Etx Etx = (λ e. refl, λ e. refl)

pub text_decides : (a b : TextValue) → Decides (is_same_text a b) (a ≡ b)
text_decides a b =
    both_true (pointwise is_same_unit a.units b.units) (end_code a.end == end_code b.end)
    (pointwise_decides unit_decides a.units b.units) (end_decides a.end b.end)
    (λ units end i. record { units = units i; end = end i })
    (ap (λ (t : TextValue). t.units)) (ap (λ (t : TextValue). t.end))
