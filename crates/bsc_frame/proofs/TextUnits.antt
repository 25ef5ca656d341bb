-- The units of a text, one after another, and what is sent for them.
use Rattle.std.proofs.Common.{◌≡◌, inl, inr, ℕ, zero, suc, ◌+◌, ◌*◌, ◌<◌, ◌≤◌, ◌==◌, Bool, true}
use Rattle.std.proofs.Common.{false, cond, refl, sym, ap, subst, ◌∙◌, arith, List, [], ◌∷◌, ◌++◌}
use Rattle.std.proofs.Common.{length, Option, Some, None, append_assoc, length-append, map}
use Rattle.std.proofs.Common.{count_ones}
use Rattle.std.specs.List.{AllByRecursion}
use Rattle.std.proofs.lemmas.Bool.{eqb-true, eqb-false}
use Rattle.std.proofs.lemmas.List.{length-map}
use Rattle.std.specs.Int.Count.{ones-ones}
use Rattle.bsc_octet.specs.Octet.{odd_octet, longitudinal_sum}
use Rattle.bsc_octet.proofs.Sums.{longitudinal_sum_lt}
use Rattle.bsc_octet.proofs.OddOctets.{odd_cases}
use Rattle.bsc_frame.proofs.Fronts.{Ends}
use Rattle.bsc_frame.specs.Texts.{TextUnit, TextValue, IsUnit}
use Rattle.bsc_frame.specs.Units.{unit_codes, unit_wire, units_wire, ending, end_code}
use Rattle.bsc_frame.specs.Spells.{AreFilled, AreUnits}
use Rattle.bsc_frame.specs.Reading.{is_ending_code, unit_at, units_at, before_units, last_unit}
use Rattle.bsc_frame.specs.declared.text.End.{End}
use Rattle.bsc_frame.specs.declared.text.End.TheVariants.{Etb, Etx}
use Rattle.bsc_frame.proofs.ReadingSteps.{test_false}
use Rattle.bsc_frame.proofs.ControlSequences.{some_is}
use Rattle.bsc_frame.proofs.ReadingSteps.{branch_of_test}
use Rattle.bsc_frame.specs.declared.limits.TheConstants.{MAX_UNIT_SENT}
use Rattle.bsc_octet.specs.declared.controls.TheConstants.{ETB_CODE, PAD, US_CODE}
use Rattle.bsc_frame.proofs.Units.{bind_some, UnitAt, unit_at_reads, length_unit_codes}
use Rattle.bsc_frame.proofs.Units.{unit_at_read}
use Rattle.bsc_frame.proofs.UnitCodes.{ending_cases}

-- octets are the units of a text, of which at most n are read
pub record ReadsUnits (n : ℕ) (after_us : Bool) (octets : List ℕ) (t : TextValue) : Type 0 where
  pub units : AreUnits after_us t.units t.end octets
  pub some : 0 < length t.units
  pub most : length t.units ≤ n
  pub each : AllByRecursion IsUnit t.units

-- a text that is read after a unit has that unit first
pub before_units_some : (u : TextUnit) (o : Option TextValue) (t : TextValue)
    → before_units u o ≡ Some t
    → (s : TextValue) × (o ≡ Some s) × (record { units = u ∷ s.units; end = s.end } ≡ t)
before_units_some u None t e = cc
before_units_some u (Some s) t e = (s, refl, some_is _ _ e)

-- a unit that others follow ends with US
more_end : (us : List TextUnit) (end : End) → 0 < length us → ending us end ≡ US_CODE
more_end [] end h = absurd (omega arith)
more_end (u ∷ us) end h = refl

-- the last unit ends with ETB or ETX, and nothing follows its check
last_some : (u : TextUnit) (e : ℕ) (rest : List ℕ) (t : TextValue) → last_unit u e rest ≡ Some t
    → (rest ≡ []) × (record { units = u ∷ []; end = cond (e == ETB_CODE) Etb Etx } ≡ t)
last_some u e [] t h = (refl, some_is _ _ h)
last_some u e (x ∷ rest) t h = cc

-- the code of the end that an ending code other than US tells is that code
last_end : (e : ℕ) (b : Bool) → (e == ETB_CODE) ≡ b → is_ending_code e ≡ true → (e == US_CODE) ≡ false
    → end_code (cond b Etb Etx) ≡ e
last_end e true k h n = sym (eqb-true e ETB_CODE k)
last_end e false k h n = elim (ending_cases e h) [
  | inl w ↦ absurd (eqb-false e US_CODE n w)
  | inr v ↦ elim v [ inl w ↦ absurd (eqb-false e ETB_CODE k w) | inr w ↦ sym w ]
]

-- one unit more before units that are read
units_step : (n : ℕ) (after_us : Bool) (octets : List ℕ) (t : TextValue) (f : TextUnit × ℕ × List ℕ)
    → UnitAt after_us octets f.0 f.1 f.2
    → ((s : TextValue) → units_at n true f.2 ≡ Some s → ReadsUnits n true f.2 s)
    → cond (f.1 == US_CODE) (before_units f.0 (units_at n true f.2)) (last_unit f.0 f.1 f.2) ≡ Some t
    → ReadsUnits (suc n) after_us octets t
units_step n after_us octets t f a more e = elim (branch_of_test (f.1 == US_CODE) _ _ _ e) [
  | inl h ↦
      let b = before_units_some f.0 (units_at n true f.2) t h.1 in
      let r = more b.0 b.1 in
      let us : ending b.0.units b.0.end ≡ f.1 = more_end b.0.units b.0.end r.some
      ∙ sym (eqb-true f.1 US_CODE h.0) in
      let all : ReadsUnits (suc n) after_us octets
      (record { units = f.0 ∷ b.0.units; end = b.0.end }) = record {
        units = rw us (a.start, a.front, f.2, a.is_start, a.filled, a.whole, r.units);
        some = omega arith;
        most = omega (arith, r.most);
        each = (a.unit, r.each);
      } in
      subst (ReadsUnits (suc n) after_us octets) b.2 all
  | inr h ↦
      let b = last_some f.0 f.1 f.2 t h.1 in
      let us : end_code (cond (f.1 == ETB_CODE) Etb Etx) ≡ f.1 =
      last_end f.1 (f.1 == ETB_CODE) refl a.ends h.0 in
      let all : ReadsUnits (suc n) after_us octets
      (record { units = f.0 ∷ []; end = cond (f.1 == ETB_CODE) Etb Etx }) = record {
        units = rw us (a.start, a.front, f.2, a.is_start, a.filled, a.whole, b.0);
        some = omega arith;
        most = omega arith;
        each = (a.unit, tt);
      } in
      subst (ReadsUnits (suc n) after_us octets) b.1 all
]

-- octets from which a text is read are its units
pub units_at_reads : (n : ℕ) (after_us : Bool) (octets : List ℕ) (t : TextValue)
    → units_at n after_us octets ≡ Some t → ReadsUnits n after_us octets t
unfolding units_at
units_at_reads zero after_us octets t e = cc
units_at_reads (suc n) after_us octets t e =
    let b = bind_some (unit_at after_us octets) _ t e in
    units_step n after_us octets t b.0 (unit_at_reads after_us octets b.0 b.1)
    (λ s. units_at_reads n true b.0.2 s) b.2

-- what ends a unit of a text is an ending character
pub ending_is : (us : List TextUnit) (end : End) → is_ending_code (ending us end) ≡ true
ending_is (u ∷ us) end = refl
ending_is [] Etb = refl
ending_is [] Etx = refl

-- a text of one unit is read by its last unit
last_of : (u : TextUnit) (end : End) (o : Option TextValue)
    → cond (end_code end == US_CODE) o (last_unit u (end_code end) [])
    ≡ Some (record { units = u ∷ []; end = end })
last_of u Etb o = refl
last_of u Etx o = refl

-- from octets that are units, a text of them is read
pub units_at_read : (n : ℕ) (after_us : Bool) (us : List TextUnit) (end : End) (octets : List ℕ)
    → AreUnits after_us us end octets → 0 < length us → length us ≤ n
    → AllByRecursion IsUnit us → units_at n after_us octets
    ≡ Some (record { units = us; end = end })
unfolding units_at
units_at_read n after_us [] end octets a some most each = absurd (omega arith)
units_at_read zero after_us (u ∷ us) end octets a some most each = absurd (omega arith)
units_at_read (suc n) after_us (u ∷ []) end octets a some most each =
    let first : unit_at after_us octets ≡ Some (u, end_code end, a.2) =
    unit_at_read after_us octets u (end_code end) a.2
    (record {
      start = a.0;
      front = a.1;
      is_start = a.3;
      filled = a.4;
      whole = a.5;
      unit = each.0;
      ends = ending_is [] end;
    }) in
    rw (first, a.6) (last_of u end (before_units u (units_at n true [])))
units_at_read (suc n) after_us (u ∷ v ∷ us) end octets a some most each =
    let first : unit_at after_us octets ≡ Some (u, US_CODE, a.2) =
    unit_at_read after_us octets u US_CODE a.2
    (record {
      start = a.0;
      front = a.1;
      is_start = a.3;
      filled = a.4;
      whole = a.5;
      unit = each.0;
      ends = refl;
    }) in
    let more : units_at n true a.2 ≡ Some (record { units = v ∷ us; end = end }) =
    units_at_read n true (v ∷ us) end a.2 a.6 (omega arith) (omega arith) each.1 in
    rw (first, more) refl

-- ---- what is sent for units

-- codes that are sent without fill are filled codes too
pub filled_plain : (codes : List ℕ) → AreFilled codes (map odd_octet codes)
filled_plain [] = refl
filled_plain (c ∷ codes) = ([], map odd_octet codes, tt, refl, filled_plain codes)

-- what is sent for units is units
pub wire_units : (after_us : Bool) (us : List TextUnit) (end : End)
    → AreUnits after_us us end (units_wire us end)
wire_units after_us [] end = refl
wire_units after_us (u ∷ us) end = (
  [],
  map odd_octet (unit_codes u (ending us end)),
  units_wire us end,
  inl refl,
  filled_plain (unit_codes u (ending us end)),
  append_assoc (map odd_octet (unit_codes u (ending us end)))
      (odd_octet (longitudinal_sum (unit_codes u (ending us end))) ∷ []) (units_wire us end),
  wire_units true us end,
)

-- what is sent for a unit is at most three octets more than its characters
pub length_unit_wire : (u : TextUnit) (e : ℕ) → length (unit_wire u e) ≤ length u.chars + 3
length_unit_wire u e =
    omega (
      arith,
      length_unit_codes u e,
      length-append (map odd_octet (unit_codes u e))
          (odd_octet (longitudinal_sum (unit_codes u e)) ∷ []),
      length-map (unit_codes u e) odd_octet,
    )

-- what is sent for units within their limits has at most this many octets
pub length_units_wire : (us : List TextUnit) (end : End) → AllByRecursion IsUnit us
    → length (units_wire us end) ≤ MAX_UNIT_SENT * length us
length_units_wire [] end h = omega arith
length_units_wire (u ∷ us) end h =
    omega (
      arith,
      h.0.most,
      length_unit_wire u (ending us end),
      length_units_wire us end h.1,
      length-append (unit_wire u (ending us end)) (units_wire us end),
    )

-- ---- the last octet of a text

-- no octet of a code is PAD
odd_no_pad : (c : ℕ) → c < 128 → (odd_octet c == PAD) ≡ false
odd_no_pad c h = test_false (odd_octet c) PAD (λ e. elim (odd_cases c) [
  | inl k ↦ absurd (omega arith)
  | inr k ↦ let full : c ≡ 127 = omega arith in let seven : count_ones c ≡ 7 = ap count_ones full
      ∙ ones-ones 7 in absurd (omega arith)
])

-- octets that do not end with PAD do not if more octets stand before them
ends_after : (front octets : List ℕ) → Ends octets → Ends (front ++ octets)
ends_after front octets e =
    record {
      front = front ++ e.front;
      last = e.last;
      whole = ap (λ z. front ++ z) e.whole
          ∙ sym (append_assoc front e.front (e.last ∷ []));
      other = e.other;
    }

-- octets that are units do not end with PAD
pub units_end : (after_us : Bool) (us : List TextUnit) (end : End) (octets : List ℕ)
    → AreUnits after_us us end octets → 0 < length us → Ends octets
units_end after_us [] end octets a h = absurd (omega arith)
units_end after_us (u ∷ []) end octets a h =
    record {
      front = a.1;
      last = odd_octet (longitudinal_sum (a.0 ++ unit_codes u (ending [] end)));
      whole = a.5 ∙ rw a.6 refl;
      other =
          odd_no_pad (longitudinal_sum (a.0 ++ unit_codes u (ending [] end)))
          (longitudinal_sum_lt (a.0 ++ unit_codes u (ending [] end)));
    }
units_end after_us (u ∷ v ∷ us) end octets a h =
    rw a.5
    (ends_after a.1 _ (ends_after (odd_octet (longitudinal_sum (a.0 ++ unit_codes u US_CODE)) ∷ [])
    a.2 (units_end true (v ∷ us) end a.2 a.6 (omega arith))))
