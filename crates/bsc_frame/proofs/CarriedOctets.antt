-- Octets that carry their low seven bits.
use Rattle.std.proofs.Common.{◌≡◌, ℕ, ◌%◌, ◌<◌, ◌==◌, Bool, true, false, cond, refl, sym, ap}
use Rattle.std.proofs.Common.{◌∙◌, arith}
use Rattle.std.proofs.Common.{List, [], ◌∷◌, map, get_or, Some, All, Fits, w8}
use Rattle.std.specs.List.{AllByRecursion}
use Rattle.std.specs.Int.Count.{ones}
use Rattle.std.proofs.lemmas.Bool.Decides.{nat_tests}
use Rattle.std.proofs.lemmas.List.Elements.{All-from_get_or, recursion_from_All}
use Rattle.bsc_octet.specs.Octet.{IsOdd, odd_octet, code_of, code_in}
use Rattle.bsc_octet.proofs.OddOctets.{code_of_odd, code_of_some}
use Rattle.bsc_frame.specs.Reading.{is_ending_code, is_ending_octet, after_start}
use Rattle.bsc_octet.specs.declared.controls.TheConstants.{EM_CODE, ETB, ETB_CODE, ETX, ETX_CODE}
use Rattle.bsc_octet.specs.declared.controls.TheConstants.{STX, US_CODE}

-- each octet carries its low seven bits
abbrev pub AreCarried : List ℕ → Type 0
AreCarried = AllByRecursion (λ x. code_of x ≡ Some (code_in x))

-- octets of odd parity are those that carry their low seven bits
carried_by : (s : List ℕ) → AllByRecursion IsOdd s → AllByRecursion (λ x. x < 256) s → AreCarried s
carried_by [] o f = tt
carried_by (x ∷ s) o f = (code_of_odd x f.0 o.0, carried_by s o.1 f.1)

-- octets of odd parity carry their low seven bits, also if each is known to be an octet by its
-- place
pub carried_of_odd_octets : (s : List ℕ) → All IsOdd s → ((i : ℕ) → Fits w8 (get_or s i 0)) → AreCarried s
carried_of_odd_octets s o f =
    carried_by s (recursion_from_All IsOdd s o)
    (recursion_from_All (λ x. x < 256) s
    (All-from_get_or (λ x. x < 256) s 0 (λ i _. (f i).fits)))

-- ---- one octet

-- two comparisons agree if each one follows from the other
same_test : (a b c d : ℕ) → (a ≡ b → c ≡ d) → (c ≡ d → a ≡ b) → (a == b) ≡ (c == d)
same_test a b c d f g = grind (arith, nat_tests, f, g)

-- an octet is the one of a code if its low bits are the code
low_test : (x k o : ℕ) → code_of x ≡ Some (code_in x) → odd_octet k ≡ o → o % 128 ≡ k
    → (code_in x == k) ≡ (x == o)
low_test x k o c e l =
    same_test (code_in x) k x o (λ h. sym (code_of_some x (code_in x) c).1 ∙ ap odd_octet h ∙ e)
    (λ h. ap code_in h ∙ l)

-- an octet with the low bits of a code is the one that carries this code
pub low_is : (x k o : ℕ) → code_of x ≡ Some (code_in x) → odd_octet k ≡ o → code_in x ≡ k → x ≡ o
low_is x k o c e h = sym (code_of_some x (code_in x) c).1 ∙ ap odd_octet h ∙ e

-- an octet of odd parity carries an ending character if it is one of the three octets
pub ending_same : (x : ℕ) → code_of x ≡ Some (code_in x) → is_ending_code (code_in x)
    ≡ is_ending_octet x
unfolding odd_octet ones
ending_same x c =
    rw (
      low_test x US_CODE US_CODE c refl refl,
      low_test x ETB_CODE ETB c refl refl,
      low_test x ETX_CODE ETX c refl refl,
    ) refl

-- an octet of odd parity carries STX if it is the octet of STX
pub stx_same : (x : ℕ) → code_of x ≡ Some (code_in x) → (code_in x == STX) ≡ (x == STX)
unfolding odd_octet ones
stx_same x c = low_test x STX STX c refl refl

-- an octet of odd parity carries EM only if it is the octet of EM
pub em_is : (x : ℕ) → code_of x ≡ Some (code_in x) → code_in x ≡ EM_CODE → x ≡ EM_CODE
unfolding odd_octet ones
em_is x c h = low_is x EM_CODE EM_CODE c refl h

-- ---- an STX after a check

-- a first octet is left out of the low bits if it is left out of the octets
by_stx : (b : Bool) (x : ℕ) (s : List ℕ)
    → cond b (map code_in s) (code_in x ∷ map code_in s) ≡ map code_in (cond b s (x ∷ s))
by_stx true x s = refl
by_stx false x s = refl

-- an STX after a check is dropped alike from octets and from their low bits
pub start_low : (after_us : Bool) (s : List ℕ) → AreCarried s
    → after_start after_us (map code_in s) ≡ map code_in (after_start after_us s)
start_low false s c = refl
start_low true [] c = refl
start_low true (x ∷ s) c = rw (stx_same x c.0) (by_stx (x == STX) x s)
