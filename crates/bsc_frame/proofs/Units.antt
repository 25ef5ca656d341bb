-- One unit at the front of octets, and the codes of a unit as they are gathered.
use Rattle.std.proofs.Common.{◌≡◌, inl, inr, ℕ, ◌+◌, ◌<◌, ◌≤◌, ◌==◌, ◌&&◌, Bool, true, false, not}
use Rattle.std.proofs.Common.{cond, refl, sym, ap, subst, ◌∙◌, arith, List, [], ◌∷◌, ◌++◌, length}
use Rattle.std.proofs.Common.{Option, Some, None, append_assoc, length-append, lit<, IsTrue, nat_lt}
use Rattle.std.specs.List.{AllByRecursion, list_any}
use Rattle.std.proofs.lemmas.Bool.{eqb-true, eq-eqb}
use Rattle.std.proofs.lemmas.Bool.Decides.{nat_tests}
use Rattle.bsc_octet.specs.Octet.{odd_octet, longitudinal_sum, is_record_char, controls}
use Rattle.bsc_frame.specs.Texts.{TextUnit, IsUnit}
use Rattle.bsc_frame.specs.Units.{unit_codes}
use Rattle.bsc_frame.specs.Spells.{AreFilled, IsStart}
use Rattle.bsc_frame.specs.Reading.{◌>>=◌, is_ending_code, gathered, after_start}
use Rattle.bsc_octet.specs.Check.{after_check}
use Rattle.bsc_frame.specs.Reading.{read_unit, unit_at}
use Rattle.bsc_frame.proofs.ControlSequences.{some_is}
use Rattle.bsc_frame.proofs.ReadingSteps.{branch_of_test}
use Rattle.bsc_frame.proofs.Gathering.{gathered_reads, gathered_read, ends_unit_last, IsOther}
use Rattle.bsc_frame.proofs.Gathering.{IsRun}
use Rattle.bsc_frame.specs.declared.limits.TheConstants.{MAX_UNIT_CODES}
use Rattle.bsc_octet.specs.declared.controls.TheConstants.{EM_CODE, STX, SYN}
use Rattle.bsc_frame.proofs.UnitCodes.{unit_of_reads, ending_cases, ending_no_char, unit_of_read}
use Rattle.bsc_frame.proofs.UnitCodes.{start_of, start_read, char_not, not_stx}

-- what follows a step that succeeded
pub bind_some : {A B : Type 0} (o : Option A) (f : A → Option B) (y : B) → (o >>= f) ≡ Some y
    → (x : A) × (o ≡ Some x) × (f x ≡ Some y)
bind_some None f y e = cc
bind_some (Some x) f y e = (x, refl, e)

-- ---- one unit at the front of octets

-- octets are a unit: an STX that may stand after a check, fill, the codes, the check and the rest
pub record UnitAt (after_us : Bool) (octets : List ℕ) (u : TextUnit) (e : ℕ) (rest : List ℕ) : Type
    0 where
  pub start : List ℕ
  pub front : List ℕ
  pub is_start : IsStart after_us start
  pub filled : AreFilled (start ++ unit_codes u e) front
  pub whole : octets ≡ front ++ odd_octet (longitudinal_sum (start ++ unit_codes u e)) ∷ rest
  pub unit : IsUnit u
  pub ends : is_ending_code e ≡ true

-- the octet after the codes is their check
check_reads : (codes octets rest : List ℕ) → after_check codes octets ≡ Some rest
    → octets ≡ odd_octet (longitudinal_sum codes) ∷ rest
check_reads codes [] rest e = cc
check_reads codes (k ∷ more) rest e =
    elim (branch_of_test (odd_octet (longitudinal_sum codes) == k) _ _ _ e) [
      | inl h ↦ let w : more ≡ rest = some_is _ _ h.1 in
          ap (λ z. z ∷ more) (sym (eqb-true (odd_octet (longitudinal_sum codes)) k h.0))
          ∙ ap (λ z. odd_octet (longitudinal_sum codes) ∷ z) w
      | inr h ↦ let w = h.1 in cc
    ]

-- octets from which a unit is read are that unit and the rest
pub unit_at_reads : (after_us : Bool) (octets : List ℕ) (f : TextUnit × ℕ × List ℕ)
    → unit_at after_us octets ≡ Some f → UnitAt after_us octets f.0 f.1 f.2
unfolding unit_at
unit_at_reads after_us octets f h =
    let g = bind_some (gathered MAX_UNIT_CODES octets) _ f h in
    let r = bind_some (after_check g.0.0 g.0.1) _ f g.2 in
    let w = bind_some (read_unit (after_start after_us g.0.0)) _ f r.2 in
    let found : (w.0.0, w.0.1, r.0) ≡ f = some_is _ _ w.2 in
    let gathers = gathered_reads MAX_UNIT_CODES octets g.0 g.1 in
    let codes = unit_of_reads (after_start after_us g.0.0) w.0 w.1 in
    let start = start_of after_us g.0.0 in
    let all : g.0.0 ≡ start.0 ++ unit_codes w.0.0 w.0.1 = start.2
    ∙ ap (λ z. start.0 ++ z) codes.0 in
    let unit : UnitAt after_us octets w.0.0 w.0.1 r.0 = record {
      start = start.0;
      front = gathers.front;
      is_start = start.1;
      filled = rw all at gathers.filled;
      whole =
          gathers.whole ∙ ap (λ z. gathers.front ++ z)
          (check_reads g.0.0 g.0.1 r.0 r.1
          ∙ ap (λ z. odd_octet (longitudinal_sum z) ∷ r.0) all);
      unit = codes.1;
      ends = ends_unit_last (start.0 ++ (w.0.0.chars ++ cond w.0.0.em (EM_CODE ∷ []) [])) w.0.1
          (rw (all
          ∙ sym (append_assoc start.0 (w.0.0.chars ++ cond w.0.0.em (EM_CODE ∷ []) [])
          (w.0.1 ∷ []))) at gathers.ends);
    } in
    subst (λ x. UnitAt after_us octets x.0 x.1 x.2) found unit

-- ---- the codes of a unit as they are gathered

-- a run grows at its front by a code that is neither SYN nor an ending character
is_run_cons : (c : ℕ) (codes : List ℕ) → IsOther c → is_ending_code c ≡ false → IsRun codes
    → IsRun (c ∷ codes)
is_run_cons c [] o e r = absurd r
is_run_cons c (d ∷ codes) o e r = (o, e, r)

-- a record character is a code of seven bits
pub char_lt : (c : ℕ) → is_record_char c ≡ true → c < 128
unfolding is_record_char
char_lt c h = by_size (nat_lt c 128) refl h
  where
    by_size : (b : Bool) → nat_lt c 128 ≡ b → (b && not (list_any (λ k. c == k) controls)) ≡ true
        → c < 128
    by_size true e h = grind (arith, nat_tests)
    by_size false e h = cc

-- SYN is no record character
syn_no_char : is_record_char SYN ≡ false
unfolding is_record_char
syn_no_char = refl

-- a record character is not SYN and is below 128
char_other : (c : ℕ) → is_record_char c ≡ true → IsOther c
char_other c h = record { code = char_lt c h; other = char_not c SYN h syn_no_char }

-- a record character ends no unit
char_no_end : (c : ℕ) (b : Bool) → is_ending_code c ≡ b → is_record_char c ≡ true → is_ending_code c
    ≡ false
char_no_end c true e h = let w : true ≡ false = sym h ∙ ending_no_char c e in cc
char_no_end c false e h = e

-- an ending character is not SYN and is below 128
pub ending_code_other : (e : ℕ) → is_ending_code e ≡ true → IsOther e
ending_code_other e h = elim (ending_cases e h) [
  | inl k ↦ record { code = omega arith; other = λ z. omega arith }
  | inr w ↦ elim w [
    | inl k ↦ record { code = omega arith; other = λ z. omega arith }
    | inr k ↦
        record { code = omega arith; other = λ z. omega arith }
  ]
]

-- characters before the codes of a unit are codes of a unit too
run_chars : (chars codes : List ℕ) → AllByRecursion (λ c. IsTrue (is_record_char c)) chars
    → IsRun codes
    → IsRun (chars ++ codes)
run_chars [] codes h r = r
run_chars (c ∷ chars) codes h r =
    is_run_cons c (chars ++ codes) (char_other c h.0) (char_no_end c (is_ending_code c) refl h.0)
    (run_chars chars codes h.1 r)

-- EM, if the unit has it, and the ending character are codes of a unit too
run_em : (em : Bool) (e : ℕ) → is_ending_code e ≡ true → IsRun (cond em (EM_CODE ∷ []) [] ++ e ∷ [])
run_em true e h =
    (record { code = lit< tt; other = λ z. omega arith }, refl, (ending_code_other e h, h))
run_em false e h = (ending_code_other e h, h)

-- the codes of a unit are a run: only the last ends it, and none is SYN
pub run_unit : (u : TextUnit) (e : ℕ) → IsUnit u → is_ending_code e ≡ true → IsRun (unit_codes u e)
run_unit u e h k =
    rw append_assoc (run_chars u.chars (cond u.em (EM_CODE ∷ []) [] ++ e ∷ []) h.each
    (run_em u.em e k))

-- the codes of a unit with an STX before them are a run too
pub run_start : (after_us : Bool) (start codes : List ℕ) → IsStart after_us start → IsRun codes
    → IsRun (start ++ codes)
run_start after_us start codes (inl e) r = rw e r
run_start after_us start codes (inr e) r =
    rw e.1 (is_run_cons STX codes (record { code = lit< tt; other = λ z. omega arith }) refl r)

-- EM is at most one code
length_em : (b : Bool) → length {A = ℕ} (cond b (EM_CODE ∷ []) []) ≤ 1
length_em true = omega arith
length_em false = omega arith

-- what may stand before the codes of a unit is at most one code
start_at_most_one : (after_us : Bool) (start : List ℕ) → IsStart after_us start → length start ≤ 1
start_at_most_one after_us start (inl e) = omega (arith, ap length e)
start_at_most_one after_us start (inr e) = omega (arith, ap length e.1)

-- a unit has at most two codes more than characters
pub length_unit_codes : (u : TextUnit) (e : ℕ) → length (unit_codes u e) ≤ length u.chars + 2
length_unit_codes u e =
    omega (
      arith,
      length_em u.em,
      length-append (u.chars ++ cond u.em (EM_CODE ∷ []) []) (e ∷ []),
      length-append u.chars (cond u.em (EM_CODE ∷ []) []),
    )

-- from octets that are a unit and the rest, that unit is read
pub unit_at_read : (after_us : Bool) (octets : List ℕ) (u : TextUnit) (e : ℕ) (rest : List ℕ)
    → UnitAt after_us octets u e rest → unit_at after_us octets ≡ Some (u, e, rest)
unfolding unit_at
unit_at_read after_us octets u e rest a =
    let run : IsRun (a.start ++ unit_codes u e) =
    run_start after_us a.start (unit_codes u e) a.is_start (run_unit u e a.unit a.ends) in
    let fits : length (a.start ++ unit_codes u e) ≤ MAX_UNIT_CODES =
    omega (
      arith,
      a.unit.most,
      start_at_most_one after_us a.start a.is_start,
      length_unit_codes u e,
      length-append a.start (unit_codes u e),
    ) in
    let gathers : gathered MAX_UNIT_CODES octets
    ≡ Some (
      a.start ++ unit_codes u e,
      odd_octet (longitudinal_sum (a.start ++ unit_codes u e))
          ∷ rest,
    ) =
    ap (gathered MAX_UNIT_CODES) a.whole
    ∙ gathered_read MAX_UNIT_CODES (a.start ++ unit_codes u e) a.front _ a.filled run fits in
    rw (
      gathers,
      eq-eqb (odd_octet (longitudinal_sum (a.start ++ unit_codes u e)))
          (odd_octet (longitudinal_sum (a.start ++ unit_codes u e))) refl,
      start_read after_us a.start (unit_codes u e) a.is_start (not_stx u e a.unit a.ends),
      unit_of_read u e a.unit a.ends,
    ) refl
