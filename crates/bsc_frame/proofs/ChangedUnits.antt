-- Units with one octet replaced by another of odd parity, neither of which is SYN or ends a unit.
use Rattle.std.proofs.Common.{◌≡◌, ◌≢◌, inl, inr, ℕ, zero, suc, ◌%◌, ◌<◌, ◌≤◌, Bool, true, false}
use Rattle.std.proofs.Common.{refl, sym}
use Rattle.std.proofs.Common.{ap, subst, ◌∙◌, arith, List, [], ◌∷◌, ◌++◌, length, map, Some, None}
use Rattle.std.proofs.Common.{append_assoc, append-nil, length-append}
use Rattle.std.specs.List.{AllByRecursion}
use Rattle.std.specs.Int.Count.{ones}
use Rattle.std.proofs.lemmas.List.{map-append}
use Rattle.bsc_octet.specs.Octet.{odd_octet, longitudinal_sum, code_of, code_in}
use Rattle.bsc_octet.proofs.OddOctets.{odd_of_low, odd_octet_low, code_of_odd, code_of_odd_octet}
use Rattle.bsc_octet.proofs.Sums.{longitudinal_sum_lt}
use Rattle.bsc_frame.specs.Texts.{TextUnit, IsUnit}
use Rattle.bsc_frame.specs.Units.{unit_codes, unit_wire, units_wire, ending}
use Rattle.bsc_frame.specs.Reading.{is_ending_code, is_ending_octet, unit_at}
use Rattle.bsc_octet.specs.Check.{after_check}
use Rattle.bsc_frame.specs.Reading.{units_at}
use Rattle.bsc_frame.specs.TurnedBits.{IsOtherOctet}
use Rattle.bsc_frame.specs.declared.text.End.{End}
use Rattle.bsc_frame.proofs.ReadingSteps.{test_false}
use Rattle.bsc_frame.proofs.CarriedOctets.{ending_same}
use Rattle.bsc_frame.proofs.Gathering.{IsOther, IsRun, gathered_read}
use Rattle.bsc_frame.proofs.Units.{unit_at_read, run_unit, length_unit_codes}
use Rattle.bsc_frame.proofs.TextUnits.{ending_is}
use Rattle.bsc_frame.proofs.TextUnits.{filled_plain}
use Rattle.bsc_frame.proofs.UnitSteps.{units_stop}
use Rattle.bsc_frame.proofs.Places.{in_first_or_second_list}
use Rattle.bsc_frame.proofs.SumChanges.{one_changed}
use Rattle.bsc_frame.specs.declared.limits.TheConstants.{MAX_UNIT_CODES}
use Rattle.bsc_octet.specs.declared.controls.TheConstants.{SYN, US_CODE}

-- ---- the codes of a unit with one of them changed

-- a code among those of a unit is no SYN and below 128
run_member : (front : List ℕ) (c : ℕ) (back : List ℕ) → IsRun (front ++ c ∷ back) → IsOther c
run_member [] c [] r = r.0
run_member [] c (x ∷ back) r = r.0
run_member (b ∷ []) c back r = run_member [] c back r.2
run_member (b ∷ d ∷ front) c back r = run_member (d ∷ front) c back r.2

not_true : (b : Bool) → b ≡ false → b ≡ true → ⊥
not_true b e f = let k : false ≡ true = sym e ∙ f in cc

-- codes of a unit remain such if one that does not end it is replaced by another such code
run_changed : (front : List ℕ) (c d : ℕ) (back : List ℕ) → is_ending_code c ≡ false → IsOther d
    → is_ending_code d ≡ false → IsRun (front ++ c ∷ back) → IsRun (front ++ d ∷ back)
run_changed [] c d [] was o e r = absurd (not_true (is_ending_code c) was r.1)
run_changed [] c d (x ∷ back) was o e r = (o, e, r.2)
run_changed (b ∷ []) c d back was o e r = (r.0, r.1, run_changed [] c d back was o e r.2)
run_changed (b ∷ k ∷ front) c d back was o e r =
    (r.0, r.1, run_changed (k ∷ front) c d back was o e r.2)

-- two codes that are carried by the same octet are the same
same_odd : (c d : ℕ) → c < 128 → d < 128 → odd_octet c ≡ odd_octet d → c ≡ d
same_odd c d l k e = sym (odd_octet_low c l) ∙ ap (λ o. o % 128) e ∙ odd_octet_low d k

-- if the check differs, nothing follows the codes
after_check_wrong : (codes : List ℕ) (k : ℕ) (rest : List ℕ)
    → (odd_octet (longitudinal_sum codes) ≡ k → ⊥)
    → after_check codes (k ∷ rest) ≡ None
after_check_wrong codes k rest h = rw (test_false (odd_octet (longitudinal_sum codes)) k h) refl

-- codes whose check is wrong are no unit
no_unit_of_wrong_check : (after_us : Bool) (codes : List ℕ) (k : ℕ) (rest : List ℕ) → IsRun codes
    → length codes ≤ MAX_UNIT_CODES → (odd_octet (longitudinal_sum codes) ≡ k → ⊥)
    → unit_at after_us (map odd_octet codes ++ k ∷ rest) ≡ None
unfolding unit_at
no_unit_of_wrong_check after_us codes k rest r l h =
    rw (
      gathered_read MAX_UNIT_CODES codes (map odd_octet codes) (k ∷ rest) (filled_plain codes) r
          l,
      after_check_wrong codes k rest h,
    ) refl

-- a unit with one code replaced, and the check of the old codes, is no unit
changed_code : (after_us : Bool) (front : List ℕ) (c d : ℕ) (back rest : List ℕ)
    → IsRun (front ++ c ∷ back)
    → length (front ++ c ∷ back) ≤ MAX_UNIT_CODES
    → d ≢ c → is_ending_code c ≡ false → IsOther d → is_ending_code d ≡ false
    → unit_at after_us (map odd_octet (front ++ d ∷ back)
    ++ odd_octet (longitudinal_sum (front ++ c ∷ back)) ∷ rest) ≡ None
changed_code after_us front c d back rest r l differs was o e =
    let codes : List ℕ = front ++ d ∷ back in
    let sent : List ℕ = front ++ c ∷ back in
    no_unit_of_wrong_check after_us codes (odd_octet (longitudinal_sum sent)) rest
    (run_changed front c d back was o e r)
    (omega (arith, l, length-append front (c ∷ back), length-append front (d ∷ back)))
    (λ same. differs (one_changed front d c back o.code (run_member front c back r).code
    (same_odd (longitudinal_sum codes) (longitudinal_sum sent) (longitudinal_sum_lt codes)
    (longitudinal_sum_lt sent) same)))

-- ---- octets by the codes that they carry

-- the code that an octet in the list stands for, and the codes before and after it
record Mapped (codes before : List ℕ) (o : ℕ) (after : List ℕ) : Type 0 where
  front : List ℕ
  code : ℕ
  back : List ℕ
  whole : codes ≡ front ++ code ∷ back
  before_is : map odd_octet front ≡ before
  octet_is : odd_octet code ≡ o
  after_is : map odd_octet back ≡ after

-- each octet of a list of codes stands for one of them
mapped_of_octets : (codes before : List ℕ) (o : ℕ) (after : List ℕ) → map odd_octet codes ≡ before ++ o
    ∷ after
    → Mapped codes before o after
mapped_of_octets [] [] o after e = absurd (omega (arith, ap length e))
mapped_of_octets [] (x ∷ before) o after e = absurd (omega (arith, ap length e))
mapped_of_octets (c ∷ codes) [] o after e =
    let head : odd_octet c ≡ o = cc in
    let tail : map odd_octet codes ≡ after = cc in
    record {
      front = [];
      code = c;
      back = codes;
      whole = refl;
      before_is = refl;
      octet_is = head;
      after_is = tail;
    }
mapped_of_octets (c ∷ codes) (x ∷ before) o after e =
    let head : odd_octet c ≡ x = cc in
    let tail : map odd_octet codes ≡ before ++ o ∷ after = cc in
    let m = mapped_of_octets codes before o after tail in
    record {
      front = c ∷ m.front;
      code = m.code;
      back = m.back;
      whole = ap (λ z. c ∷ z) m.whole;
      before_is = ap (λ z. z ∷ map odd_octet m.front) head ∙ ap (λ z. x ∷ z) m.before_is;
      octet_is = m.octet_is;
      after_is = m.after_is;
    }

-- SYN is carried as it is
syn_octet : odd_octet SYN ≡ SYN
unfolding odd_octet ones
syn_octet = refl

-- the code of the new octet
record NewCode (new : ℕ) : Type 0 where
  code : ℕ
  carries : odd_octet code ≡ new
  other : IsOther code
  no_end : is_ending_code code ≡ false

-- the code of the octet that replaces another
new_code : (old new : ℕ) → IsOtherOctet old new → NewCode new
new_code old new h =
    let carries : odd_octet (new % 128) ≡ new = odd_of_low new h.octet h.odd in
    record {
      code = new % 128;
      carries = carries;
      other =
          record {
            code = omega arith;
            other =
                λ e. h.no_fill (sym carries ∙ ap odd_octet e ∙ syn_octet);
          };
      no_end = ending_same new (code_of_odd new h.octet h.odd) ∙ h.no_end;
    }

-- a code whose octet carries no ending character is no ending character
old_no_end : (c old : ℕ) → c < 128 → odd_octet c ≡ old → is_ending_octet old ≡ false
    → is_ending_code c ≡ false
old_no_end c old l e h =
    let carried : code_of (odd_octet c) ≡ Some (code_in (odd_octet c)) =
    code_of_odd_octet c l ∙ ap Some (sym (odd_octet_low c l)) in
    ap is_ending_code (sym (odd_octet_low c l)) ∙ ending_same (odd_octet c) carried
    ∙ ap is_ending_octet e ∙ h

-- ---- a unit

-- a unit within its limits has few enough codes to be read
unit_codes_within_limit : (u : TextUnit) (e : ℕ) → IsUnit u → length (unit_codes u e) ≤ MAX_UNIT_CODES
unit_codes_within_limit u e h = omega (arith, h.most, length_unit_codes u e)

-- a change in the octets of the codes of a unit leaves no unit
in_codes : (after_us : Bool) (u : TextUnit) (e : ℕ) (before : List ℕ) (old new : ℕ)
    (after rest : List ℕ)
    → IsUnit u → is_ending_code e ≡ true → IsOtherOctet old new
    → map odd_octet (unit_codes u e) ≡ before ++ old ∷ after
    → unit_at after_us (before ++ new ∷ (after ++ odd_octet (longitudinal_sum (unit_codes u e))
    ∷ rest)) ≡ None
in_codes after_us u e before old new after rest h k o w =
    let m = mapped_of_octets (unit_codes u e) before old after w in
    let n = new_code old new o in
    let run : IsRun (m.front ++ m.code ∷ m.back) = subst IsRun m.whole (run_unit u e h k) in
    let short : length (m.front ++ m.code ∷ m.back) ≤ MAX_UNIT_CODES =
    subst (λ z. length z ≤ MAX_UNIT_CODES) m.whole (unit_codes_within_limit u e h) in
    let differs : n.code ≢ m.code =
    λ same. o.differs (sym n.carries ∙ ap odd_octet same ∙ m.octet_is) in
    let was : is_ending_code m.code ≡ false =
    old_no_end m.code old (run_member m.front m.code m.back run).code m.octet_is o.was_no_end in
    let none =
    changed_code after_us m.front m.code n.code m.back rest run short differs was n.other
    n.no_end in
    let octets : map odd_octet (m.front ++ n.code ∷ m.back) ≡ before ++ new ∷ after =
    map-append odd_octet m.front (n.code ∷ m.back)
    ∙ ap (λ z. z ++ odd_octet n.code ∷ map odd_octet m.back) m.before_is
    ∙ ap (λ z. before ++ z ∷ map odd_octet m.back) n.carries
    ∙ ap (λ z. before ++ new ∷ z) m.after_is in
    let all : map odd_octet (m.front ++ n.code ∷ m.back)
    ++ odd_octet (longitudinal_sum (m.front ++ m.code ∷ m.back)) ∷ rest
    ≡ before ++ new ∷ (after ++ odd_octet (longitudinal_sum (unit_codes u e)) ∷ rest) =
    ap (λ z. z ++ odd_octet (longitudinal_sum (m.front ++ m.code ∷ m.back)) ∷ rest) octets
    ∙ ap (λ z. (before ++ new ∷ after) ++ odd_octet (longitudinal_sum z) ∷ rest) (sym m.whole)
    ∙ append_assoc before (new ∷ after) (odd_octet (longitudinal_sum (unit_codes u e)) ∷ rest) in
    ap (unit_at after_us) (sym all) ∙ none

-- a change of its check leaves no unit
in_check : (after_us : Bool) (u : TextUnit) (e : ℕ) (new : ℕ) (rest : List ℕ) → IsUnit u
    → is_ending_code e ≡ true → new ≢ odd_octet (longitudinal_sum (unit_codes u e))
    → unit_at after_us (map odd_octet (unit_codes u e) ++ new ∷ rest) ≡ None
in_check after_us u e new rest h k differs =
    no_unit_of_wrong_check after_us (unit_codes u e) new rest (run_unit u e h k) (unit_codes_within_limit u e h)
    (λ same. differs (sym same))

-- a list of one element has nothing before or after it
last_one : (x : ℕ) (more : List ℕ) (o : ℕ) (after : List ℕ) → x ∷ [] ≡ more ++ o ∷ after
    → (more ≡ []) × (x ≡ o) × (after ≡ [])
last_one x [] o after e = (refl, cc, cc)
last_one x (y ∷ more) o after e =
    absurd (omega (arith, ap length e, length-append more (o ∷ after)))

-- a change anywhere in a unit leaves no unit
in_unit : (after_us : Bool) (u : TextUnit) (e : ℕ) (before : List ℕ) (old new : ℕ)
    (after rest : List ℕ)
    → IsUnit u → is_ending_code e ≡ true → IsOtherOctet old new
    → unit_wire u e ≡ before ++ old ∷ after → unit_at after_us (before ++ new ∷ (after ++ rest))
    ≡ None
in_unit after_us u e before old new after rest h k o w =
    elim (in_first_or_second_list (map odd_octet (unit_codes u e))
    (odd_octet (longitudinal_sum (unit_codes u e)) ∷ []) before old after w) [
      | inl p ↦
          let check : List ℕ = odd_octet (longitudinal_sum (unit_codes u e)) ∷ [] in
          let tail : after ++ rest ≡ p.more ++ odd_octet (longitudinal_sum (unit_codes u e))
          ∷ rest =
          ap (λ z. z ++ rest) p.rest ∙ append_assoc p.more check rest in
          ap (λ z. unit_at after_us (before ++ new ∷ z)) tail
          ∙ in_codes after_us u e before old new p.more rest h k o p.first
      | inr p ↦
          let l =
          last_one (odd_octet (longitudinal_sum (unit_codes u e))) p.more old after p.rest in
          let front : before ≡ map odd_octet (unit_codes u e) =
          p.first ∙ ap (λ z. map odd_octet (unit_codes u e) ++ z) l.0
          ∙ append-nil (map odd_octet (unit_codes u e)) in
          ap (λ z. unit_at after_us (z ++ new ∷ (after ++ rest))) front
          ∙ in_check after_us u e new (after ++ rest) h k (λ same. o.differs (same ∙ l.1))
    ]

-- ---- all units

-- a change in a later unit leaves no text, once the first unit is read
later_unit : (n : ℕ) (after_us : Bool) (u : TextUnit) (us : List TextUnit) (end : End)
    (before : List ℕ) (old new : ℕ) (after : List ℕ)
    → IsUnit u
    → units_wire us end ≡ before ++ old ∷ after → units_at n true (before ++ new ∷ after) ≡ None
    → units_at (suc n) after_us (unit_wire u (ending us end) ++ (before ++ new ∷ after)) ≡ None
unfolding units_at
later_unit n after_us u [] end before old new after h w none =
    absurd (omega (arith, ap length w, length-append before (old ∷ after)))
later_unit n after_us u (v ∷ us) end before old new after h w none =
    let first : unit_at after_us (unit_wire u US_CODE ++ (before ++ new ∷ after))
    ≡ Some (u, US_CODE, before ++ new ∷ after) =
    unit_at_read after_us (unit_wire u US_CODE ++ (before ++ new ∷ after)) u US_CODE
    (before ++ new ∷ after) (record {
      start = [];
      front = map odd_octet (unit_codes u US_CODE);
      is_start = inl refl;
      filled = filled_plain (unit_codes u US_CODE);
      whole =
          append_assoc (map odd_octet (unit_codes u US_CODE))
          (odd_octet (longitudinal_sum (unit_codes u US_CODE)) ∷ []) (before ++ new ∷ after);
      unit = h;
      ends = refl;
    }) in
    rw (first, none) refl

-- a change in any unit leaves no text
pub changed_units : (n : ℕ) (after_us : Bool) (us : List TextUnit) (end : End) (before : List ℕ)
    (old new : ℕ) (after : List ℕ)
    → AllByRecursion IsUnit us → IsOtherOctet old new
    → units_wire us end ≡ before ++ old ∷ after → units_at n after_us (before ++ new ∷ after) ≡ None
unfolding units_at
changed_units zero after_us us end before old new after h o w = refl
changed_units (suc n) after_us [] end before old new after h o w =
    absurd (omega (arith, ap length w, length-append before (old ∷ after)))
changed_units (suc n) after_us (u ∷ us) end before old new after h o w =
    elim (in_first_or_second_list (unit_wire u (ending us end)) (units_wire us end) before old after w) [
      | inl p ↦
          units_stop (suc n) after_us (before ++ new ∷ after)
          (ap (λ z. unit_at after_us (before ++ new ∷ z)) p.rest
          ∙ in_unit after_us u (ending us end) before old new p.more (units_wire us end) h.0
          (ending_is us end) o p.first)
      | inr p ↦
          let front : before ++ new ∷ after ≡ unit_wire u (ending us end)
          ++ (p.more ++ new ∷ after) =
          ap (λ z. z ++ new ∷ after) p.first
          ∙ append_assoc (unit_wire u (ending us end)) p.more (new ∷ after) in
          ap (units_at (suc n) after_us) front
          ∙ later_unit n after_us u us end p.more old new after h.0 p.rest
          (changed_units n true us end p.more old new after h.1 o p.rest)
    ]
