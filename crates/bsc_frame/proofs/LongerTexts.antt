-- The body of a text is not the beginning of another.
use Rattle.std.proofs.Common.{◌≡◌, inl, inr, ℕ, zero, suc, ◌<◌, ◌==◌, true, false, refl, ap, ◌∙◌}
use Rattle.std.proofs.Common.{arith}
use Rattle.std.proofs.Common.{length, List, [], ◌∷◌, ◌++◌, Some, None, append_assoc, Bool}
use Rattle.bsc_octet.specs.Octet.{odd_octet, longitudinal_sum}
use Rattle.bsc_frame.specs.Texts.{TextUnit, TextValue, IsText}
use Rattle.bsc_frame.specs.Units.{unit_codes}
use Rattle.bsc_frame.specs.Spells.{AreUnits}
use Rattle.bsc_frame.specs.Reading.{unit_at, units_at, last_unit}
use Rattle.bsc_frame.proofs.ReadingSteps.{branch_of_test}
use Rattle.bsc_frame.proofs.Units.{UnitAt, unit_at_reads, unit_at_read}
use Rattle.bsc_frame.proofs.TextUnits.{units_at_read}
use Rattle.bsc_frame.proofs.Units.{bind_some}
use Rattle.bsc_frame.proofs.TextUnits.{before_units_some}
use Rattle.bsc_frame.specs.declared.limits.TheConstants.{MAX_UNITS}
use Rattle.bsc_octet.specs.declared.controls.TheConstants.{US_CODE}

-- a unit is still read with more octets after it, which are left
unit_longer : (after_us : Bool) (octets more : List ℕ) (u : TextUnit) (e : ℕ) (rest : List ℕ)
    → UnitAt after_us octets u e rest → UnitAt after_us (octets ++ more) u e (rest ++ more)
unit_longer after_us octets more u e rest a = record {
  start = a.start;
  front = a.front;
  is_start = a.is_start;
  filled = a.filled;
  whole = ap (λ z. z ++ more) a.whole
      ∙ append_assoc a.front (odd_octet (longitudinal_sum (a.start ++ unit_codes u e)) ∷ rest) more;
  unit = a.unit;
  ends = a.ends;
}

-- nothing may follow the last unit
last_longer : (u : TextUnit) (e : ℕ) (rest : List ℕ) (y : ℕ) (ys : List ℕ)
    → last_unit u e (rest ++ y ∷ ys) ≡ None
last_longer u e [] y ys = refl
last_longer u e (x ∷ rest) y ys = refl

-- a text that is read is not read with more octets after it
units_longer : (n : ℕ) (after_us : Bool) (octets : List ℕ) (t : TextValue) (y : ℕ) (ys : List ℕ)
    → units_at n after_us octets ≡ Some t → units_at n after_us (octets ++ y ∷ ys) ≡ None
unfolding units_at
units_longer zero after_us octets t y ys e = refl
units_longer (suc n) after_us octets t y ys e =
    let b = bind_some (unit_at after_us octets) _ t e in
    let u : TextUnit × ℕ × List ℕ = b.0 in
    let first : unit_at after_us (octets ++ y ∷ ys) ≡ Some (u.0, u.1, u.2 ++ y ∷ ys) =
    unit_at_read after_us (octets ++ y ∷ ys) u.0 u.1 (u.2 ++ y ∷ ys)
    (unit_longer after_us octets (y ∷ ys) u.0 u.1 u.2 (unit_at_reads after_us octets u b.1)) in
    elim (branch_of_test (u.1 == US_CODE) _ _ _ b.2) [
      | inl h ↦
          let r = before_units_some u.0 (units_at n true u.2) t h.1 in
          let none : units_at n true (u.2 ++ y ∷ ys) ≡ None =
          units_longer n true u.2 r.0 y ys r.1 in
          rw (first, h.0, none) refl
      | inr h ↦ rw (first, h.0) (last_longer u.0 u.1 u.2 y ys)
    ]

-- the units of a text are not the units of another and octets after them
pub no_longer_units : (t s : TextValue) (octets more : List ℕ) → 0 < length more
    → AreUnits false t.units t.end octets → IsText t → AreUnits false s.units s.end (octets ++ more)
    → IsText s → ⊥
no_longer_units t s octets [] l a h b k = omega arith
no_longer_units t s octets (y ∷ ys) l a h b k =
    let short : units_at MAX_UNITS false octets ≡ Some t =
    units_at_read MAX_UNITS false t.units t.end octets a h.some h.most h.each in
    let none : units_at MAX_UNITS false (octets ++ y ∷ ys) ≡ None =
    units_longer MAX_UNITS false octets t y ys short in
    let some : units_at MAX_UNITS false (octets ++ y ∷ ys) ≡ Some s =
    units_at_read MAX_UNITS false s.units s.end (octets ++ y ∷ ys) b k.some k.most k.each in
    cc
