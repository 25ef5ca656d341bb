-- One unit by its codes, and an STX that may stand after a check.
use Rattle.std.proofs.Common.{◌≡◌, ◌⊎◌, inl, inr, ℕ, suc, ◌≤◌, ◌==◌, ◌||◌, Bool, true, false}
use Rattle.std.proofs.Common.{cond, refl, sym, ap, subst, ◌∙◌, arith, List, [], ◌∷◌, ◌++◌, length}
use Rattle.std.proofs.Common.{take, drop, Some, append_assoc, append-nil, length-take}
use Rattle.std.proofs.Common.{take-append-drop, IsTrue, nat_lt}
use Rattle.std.specs.List.{AllByRecursion, prefix_len}
use Rattle.std.proofs.lemmas.Bool.{eqb-true}
use Rattle.std.proofs.lemmas.Bool.Decides.{nat_tests}
use Rattle.std.proofs.Math.Seq.{take-append_seam, drop-append_seam}
use Rattle.bsc_octet.specs.Octet.{is_record_char}
use Rattle.bsc_frame.specs.Texts.{TextUnit, IsUnit}
use Rattle.bsc_frame.specs.Units.{unit_codes}
use Rattle.bsc_frame.specs.Spells.{IsStart}
use Rattle.bsc_frame.specs.Reading.{is_ending_code, is_octet, begins, after_start, read_unit}
use Rattle.bsc_frame.specs.Reading.{unit_of_tail}
use Rattle.bsc_frame.proofs.ReadingSteps.{test_false}
use Rattle.bsc_frame.proofs.ControlSequences.{some_is}
use Rattle.bsc_frame.proofs.ReadingSteps.{branch_of_test}
use Rattle.bsc_frame.specs.declared.limits.TheConstants.{MAX_CHARS}
use Rattle.bsc_octet.specs.declared.controls.TheConstants.{EM_CODE, ETB_CODE, ETX_CODE, STX}
use Rattle.bsc_octet.specs.declared.controls.TheConstants.{US_CODE}

-- one code more: the front of record characters has only record characters
pass_head : (c : ℕ) (cs : List ℕ) (b : Bool) → is_record_char c ≡ b
    → AllByRecursion (λ c. IsTrue (is_record_char c)) (take (prefix_len is_record_char cs) cs)
    → AllByRecursion (λ c. IsTrue (is_record_char c))
    (take (prefix_len is_record_char (c ∷ cs)) (c ∷ cs))
pass_head c cs true e h =
    let k : prefix_len is_record_char (c ∷ cs) ≡ suc (prefix_len is_record_char cs) =
    rw e (omega arith) in
    rw k (e, h)
pass_head c cs false e h =
    let k : prefix_len is_record_char (c ∷ cs) ≡ 0 = rw e refl in
    rw k tt

-- the front of record characters, and what follows it
pass_front : (codes : List ℕ)
    → AllByRecursion (λ c. IsTrue (is_record_char c)) (take (prefix_len is_record_char codes) codes)
pass_front [] = tt
pass_front (c ∷ cs) = pass_head c cs (is_record_char c) refl (pass_front cs)

-- the characters and what follows them are the codes of the unit
abbrev IsTail : List ℕ → List ℕ → TextUnit × ℕ → Type 0
IsTail chars tail f = (chars ++ tail ≡ unit_codes f.0 f.1) × (f.0.chars ≡ chars)

-- a tail that reads as a unit is that of its codes
tail_reads : (chars tail : List ℕ) (f : TextUnit × ℕ) → unit_of_tail chars tail ≡ Some f
    → IsTail chars tail f
tail_reads chars [] f h = cc
tail_reads chars (e ∷ []) f h =
    subst (IsTail chars (e ∷ [])) (some_is _ _ h)
    (ap (λ z. z ++ e ∷ []) (sym (append-nil chars)), refl)
tail_reads chars (m ∷ e ∷ []) f h = elim (branch_of_test (m == EM_CODE) _ _ _ h) [
  | inl k ↦ subst (IsTail chars (m ∷ e ∷ [])) (some_is _ _ k.1) (
    ap (λ z. chars ++ z ∷ e ∷ []) (eqb-true m EM_CODE k.0)
        ∙ sym (append_assoc chars (EM_CODE ∷ []) (e ∷ [])),
    refl,
  )
  | inr k ↦ let w = k.1 in cc
]
tail_reads chars (m ∷ e ∷ x ∷ xs) f h = cc

-- characters that are not too many are as many as a unit has
at_most_max_chars : (n : ℕ) → nat_lt MAX_CHARS n ≡ false → n ≤ MAX_CHARS
at_most_max_chars n h = grind (arith, nat_tests)

-- as many characters as a unit has are not too many
not_many : (n : ℕ) → n ≤ MAX_CHARS → nat_lt MAX_CHARS n ≡ false
not_many n h = grind (arith, nat_tests)

-- codes that read as a unit are its codes, and it is within its limits
pub unit_of_reads : (codes : List ℕ) (f : TextUnit × ℕ) → read_unit codes ≡ Some f
    → (codes ≡ unit_codes f.0 f.1) × IsUnit f.0
unfolding read_unit
unit_of_reads codes f h =
    elim (branch_of_test (nat_lt MAX_CHARS (prefix_len is_record_char codes)) _ _ _ h) [
      | inl k ↦ let w = k.1 in cc
      | inr k ↦
          let t =
          tail_reads (take (prefix_len is_record_char codes) codes)
          (drop (prefix_len is_record_char codes) codes) f k.1 in (
            sym (take-append-drop (prefix_len is_record_char codes) codes) ∙ t.0,
            record {
              most =
                  omega (
                    arith,
                    at_most_max_chars (prefix_len is_record_char codes) k.0,
                    length-take (prefix_len is_record_char codes) codes,
                    ap length t.1,
                  );
              each = rw t.1 (pass_front codes);
            },
          )
    ]

-- an ending character is one of three
pub ending_cases : (e : ℕ) → is_ending_code e ≡ true → (e ≡ US_CODE) ⊎ ((e ≡ ETB_CODE) ⊎ (e ≡ ETX_CODE))
ending_cases e h = by_first (e == US_CODE) refl h
  where
    by_second : (b : Bool) → (e == ETB_CODE) ≡ b → (b || (e == ETX_CODE)) ≡ true → (e ≡ US_CODE)
        ⊎ ((e ≡ ETB_CODE) ⊎ (e ≡ ETX_CODE))
    by_second true k h = inr (inl (eqb-true e ETB_CODE k))
    by_second false k h = inr (inr (eqb-true e ETX_CODE h))

    by_first : (b : Bool) → (e == US_CODE) ≡ b → (b || ((e == ETB_CODE) || (e == ETX_CODE))) ≡ true
        → (e ≡ US_CODE) ⊎ ((e ≡ ETB_CODE) ⊎ (e ≡ ETX_CODE))
    by_first true k h = inl (eqb-true e US_CODE k)
    by_first false k h = by_second (e == ETB_CODE) refl h

-- an ending character is no record character
pub ending_no_char : (e : ℕ) → is_ending_code e ≡ true → is_record_char e ≡ false
unfolding is_record_char
ending_no_char e h =
    elim (ending_cases e h) [
      | inl k ↦ rw k refl
      | inr w ↦ elim w
          [ inl k ↦ rw k refl | inr k ↦ rw k refl ]
    ]

-- record characters that are followed by another code are the front of record characters
prefix_stop : (chars : List ℕ) (x : ℕ) (rest : List ℕ)
    → AllByRecursion (λ c. IsTrue (is_record_char c)) chars
    → is_record_char x ≡ false
    → prefix_len is_record_char (chars ++ x ∷ rest) ≡ length chars
prefix_stop [] x rest h e = rw e refl
prefix_stop (c ∷ chars) x rest h e = rw (h.0, prefix_stop chars x rest h.1 e) (omega arith)

-- the front of record characters is the characters of the unit
unit_of_at : (chars : List ℕ) (x : ℕ) (rest : List ℕ)
    → AllByRecursion (λ c. IsTrue (is_record_char c)) chars
    → length chars ≤ MAX_CHARS → is_record_char x ≡ false
    → read_unit (chars ++ x ∷ rest) ≡ unit_of_tail chars (x ∷ rest)
unfolding read_unit
unit_of_at chars x rest h l e =
    rw (prefix_stop chars x rest h e, not_many (length chars) l, take-append_seam, drop-append_seam)
    refl

-- characters, EM if the unit has it, and an ending code read as that unit
unit_read : (chars : List ℕ) (em : Bool) (e : ℕ)
    → AllByRecursion (λ c. IsTrue (is_record_char c)) chars
    → length chars ≤ MAX_CHARS → is_ending_code e ≡ true
    → read_unit (unit_codes (record { chars = chars; em = em }) e)
    ≡ Some (record { chars = chars; em = em }, e)
unfolding is_record_char
unit_read chars true e h l k =
    ap read_unit (append_assoc chars (EM_CODE ∷ []) (e ∷ [])) ∙ unit_of_at chars EM_CODE (e ∷ []) h l refl
unit_read chars false e h l k =
    ap (λ z. read_unit (z ++ e ∷ [])) (append-nil chars)
    ∙ unit_of_at chars e [] h l (ending_no_char e k)

-- the codes of a unit read as it
pub unit_of_read : (u : TextUnit) (e : ℕ) → IsUnit u → is_ending_code e ≡ true
    → read_unit (unit_codes u e) ≡ Some (u, e)
unit_of_read u e h k = unit_read u.chars u.em e h.each h.most k

-- ---- an STX after a check

-- an STX at the front after a check is separated from the codes
start_by : (c : ℕ) (cs : List ℕ) (b : Bool) → (c == STX) ≡ b
    → (start : List ℕ) × IsStart true start × (c ∷ cs ≡ start ++ cond b cs (c ∷ cs))
start_by c cs true e = (STX ∷ [], inr (refl, refl), ap (λ z. z ∷ cs) (eqb-true c STX e))
start_by c cs false e = ([], inl refl, refl)

-- codes after a check are an STX, or none, and the rest
pub start_of : (after_us : Bool) (codes : List ℕ)
    → (start : List ℕ) × IsStart after_us start × (codes ≡ start ++ after_start after_us codes)
start_of false codes = ([], inl refl, refl)
start_of true [] = ([], inl refl, refl)
start_of true (c ∷ cs) = start_by c cs (c == STX) refl

-- an STX after a check is dropped, and nothing else is
pub start_read : (after_us : Bool) (start codes : List ℕ) → IsStart after_us start
    → begins (is_octet STX) codes ≡ false → after_start after_us (start ++ codes) ≡ codes
start_read after_us start codes (inl e) other = rw e (stays after_us)
  where
    stays : (b : Bool) → after_start b codes ≡ codes
    stays true = rw other refl
    stays false = refl
start_read after_us start codes (inr e) other = rw (e.0, e.1) refl

-- two codes differ if only one of them is a record character
pub char_not : (c k : ℕ) → is_record_char c ≡ true → is_record_char k ≡ false → c ≡ k → ⊥
char_not c k h n e =
    let w : is_record_char c ≡ is_record_char k = ap is_record_char e in let z : true ≡ false =
    sym h ∙ w ∙ n in absurd (apart z)
  where
    apart : true ≡ false → ⊥
    apart e = subst (λ b. cond b (Unit {0}) ⊥) e tt

-- STX is no record character
stx_no_char : is_record_char STX ≡ false
unfolding is_record_char
stx_no_char = refl

-- no unit begins with STX
pub not_stx : (u : TextUnit) (e : ℕ) → IsUnit u → is_ending_code e ≡ true
    → begins (is_octet STX) (unit_codes u e) ≡ false
not_stx u e h k = by_chars u.chars u.em h.each
  where
    ending_no_start : (e ≡ US_CODE) ⊎ ((e ≡ ETB_CODE) ⊎ (e ≡ ETX_CODE)) → (e == STX) ≡ false
    ending_no_start (inl k) = rw k refl
    ending_no_start (inr (inl k)) = rw k refl
    ending_no_start (inr (inr k)) = rw k refl

    by_chars : (chars : List ℕ) (em : Bool) → AllByRecursion (λ c. IsTrue (is_record_char c)) chars
        → begins (is_octet STX) (unit_codes (record { chars = chars; em = em }) e) ≡ false
    by_chars [] true p = refl
    by_chars [] false p = ending_no_start (ending_cases e k)
    by_chars (c ∷ chars) em p = test_false c STX (char_not c STX p.0 stx_no_char)
