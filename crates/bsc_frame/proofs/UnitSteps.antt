-- The steps of reading units.
use Rattle.std.proofs.Common.{◌≡◌, ℕ, zero, suc, ◌+◌, ◌-◌, ◌<◌, ◌≤◌, ◌==◌, Bool, true, false, cond}
use Rattle.std.proofs.Common.{refl, sym}
use Rattle.std.proofs.Common.{ap, subst, All, ◌∙◌, arith, List, [], ◌∷◌, ◌++◌, length, drop}
use Rattle.std.proofs.Common.{append_assoc, length-append, Option, Some, None, nat_lt}
use Rattle.std.proofs.lemmas.Bool.Decides.{nat_tests}
use Rattle.std.proofs.Math.Seq.{drop-append_seam}
use Rattle.std.proofs.lemmas.List.Elements.{All-drop}
use Rattle.bsc_frame.specs.Units.{unit_codes}
use Rattle.bsc_octet.specs.Octet.{IsOdd, odd_octet, longitudinal_sum}
use Rattle.bsc_frame.specs.Texts.{TextUnit, TextValue}
use Rattle.bsc_frame.specs.TextBuffers.{buffer_units, IsTextBuffer, TakesUnit, ReadsText}
use Rattle.bsc_frame.specs.Reading.{unit_at, units_at, before_units, last_unit}
use Rattle.bsc_frame.specs.declared.text.End.{End}
use Rattle.bsc_frame.specs.declared.text.End.TheVariants.{Etb, Etx}
use Rattle.bsc_frame.specs.declared.text_buffer.TextBuffer.{TextBuffer}
use Rattle.bsc_frame.proofs.ReadingSteps.{test_false}
use Rattle.bsc_frame.proofs.Units.{unit_at_reads}
use Rattle.bsc_frame.specs.declared.limits.TheConstants.{MAX_UNITS}
use Rattle.bsc_octet.specs.declared.controls.TheConstants.{ETB_CODE, US_CODE}

-- ---- all units

-- the units that were read before are put before the rest
abbrev pub before_all : List TextUnit → Option TextValue → Option TextValue
before_all us None = None
before_all us (Some t) = Some (record { units = us ++ t.units; end = t.end })

-- the loop invariant of reading units
pub record ReadTo (d : TextBuffer) (n : ℕ) (rest s : List ℕ) : Type 0 where
  pub buffer : IsTextBuffer d
  pub count : length (buffer_units d) ≡ n
  pub most : n ≤ MAX_UNITS
  pub same : before_all (buffer_units d) (units_at (MAX_UNITS - n) (nat_lt 0 n) rest)
      ≡ units_at MAX_UNITS false s

-- one unit more before the rest
before_more : (us : List TextUnit) (u : TextUnit) (o : Option TextValue)
    → before_all (us ++ u ∷ []) o ≡ before_all us (before_units u o)
before_more us u None = refl
before_more us u (Some t) =
    ap (λ z. Some (record { units = z; end = t.end })) (append_assoc us (u ∷ []) t.units)

-- what is read if a first unit is read, by its ending character
units_next : (n : ℕ) (after_us : Bool) (s : List ℕ) (u : TextUnit) (e : ℕ) (rest : List ℕ) → 0 < n
    → unit_at after_us s ≡ Some (u, e, rest)
    → units_at n after_us s ≡ cond (e == US_CODE) (before_units u (units_at (n - 1) true rest))
    (last_unit u e rest)
unfolding units_at
units_next zero after_us s u e rest p h = absurd (omega arith)
units_next (suc n) after_us s u e rest p h = let less : suc n - 1 ≡ n = omega arith in
    rw (less, h) refl

-- if there is no first unit, there is no text
pub units_stop : (n : ℕ) (after_us : Bool) (s : List ℕ) → unit_at after_us s ≡ None
    → units_at n after_us s ≡ None
unfolding units_at
units_stop zero after_us s h = refl
units_stop (suc n) after_us s h = rw h refl

-- if there is no next unit, the whole is no text
pub read_stop : (d : TextBuffer) (count : ℕ) (rest s : List ℕ) → ReadTo d count rest s
    → unit_at (nat_lt 0 count) rest ≡ None → None ≡ units_at MAX_UNITS false s
read_stop d count rest s r h =
    ap (before_all (buffer_units d)) (sym (units_stop (MAX_UNITS - count) (nat_lt 0 count) rest h))
    ∙ r.same

-- one unit more is read that ends with US
pub read_more : (d new : TextBuffer) (count e : ℕ) (rest more s : List ℕ) → ReadTo d count rest s
    → count < MAX_UNITS → TakesUnit d new (unit_at (nat_lt 0 count) rest) e more → e ≡ US_CODE
    → ReadTo new (count + 1) more s
read_more d new count e rest more s r l t us =
    let next : units_at (MAX_UNITS - count) (nat_lt 0 count) rest
    ≡ before_units t.unit (units_at (MAX_UNITS - count - 1) true more) =
    units_next (MAX_UNITS - count) (nat_lt 0 count) rest t.unit e more (omega arith) t.reads
    ∙ rw us refl in
    let fewer : MAX_UNITS - (count + 1) ≡ MAX_UNITS - count - 1 = omega arith in
    let later : nat_lt 0 (count + 1) ≡ true = grind (arith, nat_tests) in
    record {
      buffer = t.buffer;
      count = ap length t.units ∙ length-append (buffer_units d) (t.unit ∷ [])
          ∙ omega (arith, r.count);
      most = omega arith;
      same =
          rw (fewer, later, t.units) (before_more (buffer_units d) t.unit
          (units_at (MAX_UNITS - count - 1) true more)
          ∙ ap (before_all (buffer_units d)) (sym next) ∙ r.same);
    }

-- the last unit of a text is read
read_last : (d new : TextBuffer) (count e : ℕ) (rest more s : List ℕ) → ReadTo d count rest s → count
    < MAX_UNITS
    → (t : TakesUnit d new (unit_at (nat_lt 0 count) rest) e more) → (e ≡ US_CODE → ⊥)
    → before_all (buffer_units d) (last_unit t.unit e more) ≡ units_at MAX_UNITS false s
read_last d new count e rest more s r l t us =
    let next : units_at (MAX_UNITS - count) (nat_lt 0 count) rest ≡ last_unit t.unit e more =
    units_next (MAX_UNITS - count) (nat_lt 0 count) rest t.unit e more (omega arith) t.reads
    ∙ rw (test_false e US_CODE us) refl in
    ap (before_all (buffer_units d)) (sym next) ∙ r.same

-- if octets follow the last unit, there is no text
pub read_extra : (d new : TextBuffer) (count e : ℕ) (rest more s : List ℕ) → ReadTo d count rest s
    → count < MAX_UNITS → TakesUnit d new (unit_at (nat_lt 0 count) rest) e more → (e ≡ US_CODE → ⊥)
    → (length more ≡ 0 → ⊥) → None ≡ units_at MAX_UNITS false s
read_extra d new count e rest [] s r l t us p = absurd (p refl)
read_extra d new count e rest (x ∷ more) s r l t us p =
    read_last d new count e rest (x ∷ more) s r l t us

-- the last unit ends the text
pub read_whole : (d new : TextBuffer) (count e : ℕ) (rest more s : List ℕ) (end : End)
    → ReadTo d count rest s
    → count < MAX_UNITS → TakesUnit d new (unit_at (nat_lt 0 count) rest) e more → (e ≡ US_CODE → ⊥)
    → length more ≡ 0 → cond (e == ETB_CODE) Etb Etx ≡ end
    → ReadsText new end (units_at MAX_UNITS false s)
read_whole d new count e rest (x ∷ more) s end r l t us p q = absurd (omega arith)
read_whole d new count e rest [] s end r l t us p q = record {
  reads = sym (read_last d new count e rest [] s r l t us)
      ∙ ap Some (ap (λ z. record { units = buffer_units d ++ t.unit ∷ []; end = z }) q
      ∙ sym (ap (λ z. record { units = z; end = end }) t.units));
  buffer = t.buffer;
  some = omega (arith, ap length t.units, length-append (buffer_units d) (t.unit ∷ []));
}

-- what follows a unit has odd parity too
pub rest_odd : (after_us : Bool) (s : List ℕ) (u : TextUnit) (e : ℕ) (rest : List ℕ) → All IsOdd s
    → unit_at after_us s ≡ Some (u, e, rest) → All IsOdd rest
rest_odd after_us s u e rest h r =
    let a = unit_at_reads after_us s (u, e, rest) r in
    let front : List ℕ = a.front ++ odd_octet (longitudinal_sum (a.start ++ unit_codes u e)) ∷ [] in
    let whole : s ≡ front ++ rest =
    a.whole
    ∙ sym (append_assoc a.front (odd_octet (longitudinal_sum (a.start ++ unit_codes u e)) ∷ [])
    rest) in
    subst (All IsOdd) (ap (drop (length front)) whole ∙ drop-append_seam front rest)
    (All-drop IsOdd (length front) s h)

-- there are more units than a text has
pub read_all : (d : TextBuffer) (count : ℕ) (rest s : List ℕ) → ReadTo d count rest s → MAX_UNITS ≤ count
    → None ≡ units_at MAX_UNITS false s
unfolding units_at
read_all d count rest s r l =
    let none : MAX_UNITS - count ≡ 0 = omega arith in
    ap (before_all (buffer_units d)) (sym (ap (λ n. units_at n (nat_lt 0 count) rest) none)) ∙ r.same

-- at first no unit is read
pub read_start : (d : TextBuffer) (s : List ℕ) → IsTextBuffer d → buffer_units d ≡ [] → ReadTo d 0 s s
read_start d s h e =
    record {
      buffer = h;
      count = ap length e;
      most = omega arith;
      same =
          rw e (nothing_before (units_at MAX_UNITS false s));
    }
  where
    nothing_before : (o : Option TextValue) → before_all [] o ≡ o
    nothing_before None = refl
    nothing_before (Some t) = refl
