-- The check of codes, and of the octets that carry them.
use Rattle.std.proofs.Common.{◌≡◌, ◌∙◌, ℕ, ◌+◌, ◌-◌, ◌<◌, ◌==◌, true, false, cond, refl, sym}
use Rattle.std.proofs.Common.{ap, arith, List, [], ◌∷◌, length, take, drop, map, get_or, Some, None}
use Rattle.std.proofs.Common.{nat_lt, All}
use Rattle.std.specs.List.{AllByRecursion}
use Rattle.std.specs.Int.{bit_at}
use Rattle.std.proofs.lemmas.Bool.{eq-eqb}
use Rattle.std.proofs.lemmas.Bool.Decides.{nat_tests}
use Rattle.std.proofs.lemmas.List.{take_all}
use Rattle.std.proofs.lemmas.List.Elements.{recursion_from_All}
use Rattle.std.proofs.lemmas.List.Sums.{sum_by-cons}
use Rattle.bsc_octet.specs.Octet.{odd_octet, code_in, longitudinal_sum, with_bit}
use Rattle.bsc_octet.specs.Check.{after_check}
use Rattle.bsc_octet.proofs.OddOctets.{odd_octet_low}
use Rattle.bsc_octet.proofs.Sums.{longitudinal_sum_lt}

-- ---- the octet of a sum

-- a sum is below 128
is_code : (s : List ℕ) → nat_lt (longitudinal_sum s) 128 ≡ true
is_code s = grind (arith, nat_tests, longitudinal_sum_lt s)

-- the sum has an octet
pub check_no : (s : List ℕ)
    → cond (nat_lt (longitudinal_sum s) 128) (Some (odd_octet (longitudinal_sum s))) None ≡ None → ⊥
check_no s e = let h : Some (odd_octet (longitudinal_sum s)) ≡ None = rw (is_code s) at e in cc

-- the check that is found is the octet of the sum
pub check_is : (s : List ℕ) (k : ℕ)
    → cond (nat_lt (longitudinal_sum s) 128) (Some (odd_octet (longitudinal_sum s))) None ≡ Some k
    → k ≡ odd_octet (longitudinal_sum s)
check_is s k e = let h : Some (odd_octet (longitudinal_sum s)) ≡ Some k = rw (is_code s) at e in cc

-- ---- the octets after a check

-- two different octets
differ : (a b : ℕ) → (a ≡ b → ⊥) → (a == b) ≡ false
differ a b h = grind (arith, nat_tests, h)

-- if the first octet is not the check, nothing is left
pub check_wrong : (s octets : List ℕ) → (get_or octets 0 0 ≡ odd_octet (longitudinal_sum s) → ⊥)
    → None ≡ after_check s octets
check_wrong s [] h = refl
check_wrong s (x ∷ octets) h =
    rw (differ (odd_octet (longitudinal_sum s)) x (λ w. h (sym w))) refl

-- the octets after the check are left
pub check_right : (s octets : List ℕ) → get_or octets 0 0 ≡ odd_octet (longitudinal_sum s)
    → (length octets ≡ 0 → ⊥)
    → Some (take (length octets - 1) (drop 1 octets)) ≡ after_check s octets
check_right s [] h p = absurd (p refl)
check_right s (x ∷ octets) h p =
    rw (eq-eqb (odd_octet (longitudinal_sum s)) x (sym h)) (ap Some (take_all _ octets (omega arith)))

-- ---- codes and octets

-- a bit of the codes is set in as many of them as of the octets
with_bit_low : (i : ℕ) → ((x : ℕ) → bit_at (code_in x) i ≡ bit_at x i) → (s : List ℕ)
    → with_bit i (map code_in s) ≡ with_bit i s
with_bit_low i e [] = refl
with_bit_low i e (x ∷ s) =
    sum_by-cons (λ y. cond (bit_at y i == 1) 1 0) (code_in x) (map code_in s)
    ∙ rw (e x) (ap (λ n. cond (bit_at x i == 1) 1 0 + n) (with_bit_low i e s))
    ∙ sym (sum_by-cons (λ y. cond (bit_at y i == 1) 1 0) x s)

-- the eighth bit is not summed
pub sum_low : (s : List ℕ) → longitudinal_sum (map code_in s) ≡ longitudinal_sum s
unfolding longitudinal_sum
sum_low s =
    rw (
      with_bit_low 0 (λ x. omega arith) s,
      with_bit_low 1 (λ x. omega arith) s,
      with_bit_low 2 (λ x. omega arith) s,
      with_bit_low 3 (λ x. omega arith) s,
      with_bit_low 4 (λ x. omega arith) s,
      with_bit_low 5 (λ x. omega arith) s,
      with_bit_low 6 (λ x. omega arith) s,
    ) refl

-- the check is the same for octets and for their codes
pub check_low : (s octets : List ℕ) → after_check (map code_in s) octets ≡ after_check s octets
check_low s [] = refl
check_low s (k ∷ rest) = rw (sum_low s) refl

-- the codes in the octets of codes are these codes
low_odd : (codes : List ℕ) → AllByRecursion (λ c. c < 128) codes
    → map code_in (map odd_octet codes) ≡ codes
low_odd [] h = refl
low_odd (c ∷ codes) h = rw (odd_octet_low c h.0, low_odd codes h.1) refl

-- the sum of the octets is that of their codes
pub sum_odd : (codes : List ℕ) → All (λ c. c < 128) codes
    → longitudinal_sum (map odd_octet codes) ≡ longitudinal_sum codes
sum_odd codes h =
    sym (sum_low (map odd_octet codes))
    ∙ ap longitudinal_sum (low_odd codes (recursion_from_All (λ c. c < 128) codes h))
