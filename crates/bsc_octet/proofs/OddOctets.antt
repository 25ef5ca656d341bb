-- What `odd_octet` makes of a code, and which octets carry a code.
use Rattle.std.proofs.Common.{◌≡◌, ◌⊎◌, inl, inr, ℕ, zero, suc, ◌+◌, ◌-◌, ◌*◌, ◌^◌, ◌%◌, ◌<◌, ◌≤◌}
use Rattle.std.proofs.Common.{◌==◌, cond}
use Rattle.std.proofs.Common.{refl, sym, ap, ◌∙◌, arith, count_ones, Bool, true, false, Some, None}
use Rattle.std.proofs.lemmas.Nat.{ones_cat}
use Rattle.std.proofs.lemmas.Bool.{cases_lt, eq-eqb, eqb-true}
use Rattle.std.proofs.lemmas.Bool.Decides.{nat_tests}
use Rattle.std.specs.Int.Count.{ones-ones}
use Rattle.bsc_octet.specs.Octet.{odd_octet, code_of, IsOdd}

-- The eighth bit adds one to the number of ones.
pub ones_high : (c : ℕ) → c < 128 → count_ones (c + 128) ≡ 1 + count_ones c
ones_high c h =
    let e : c + 128 ≡ 1 * 2 ^ 7 + c = omega arith in
    ap count_ones e ∙ ones_cat 7 1 c h ∙ ap (λ n. n + count_ones c) (ones-ones 1)

one_or_none : (c r : ℕ) → r < 2
    → ((cond (r == 1) c (c + 128) ≡ c) × (r ≡ 1))
    ⊎ ((cond (r == 1) c (c + 128) ≡ c + 128) × (r ≡ 0))
one_or_none c zero h = inr (refl, refl)
one_or_none c (suc zero) h = inl (refl, refl)
one_or_none c (suc (suc r)) h = absurd (omega arith)

-- A code is carried unchanged, or with the eighth bit set.
pub odd_cases : (c : ℕ)
    → ((odd_octet c ≡ c) × (count_ones c % 2 ≡ 1))
    ⊎ ((odd_octet c ≡ c + 128) × (count_ones c % 2 ≡ 0))
unfolding odd_octet
odd_cases c = one_or_none c (count_ones c % 2) (omega arith)

-- The code is the low seven bits of its octet.
pub odd_octet_low : (c : ℕ) → c < 128 → odd_octet c % 128 ≡ c
odd_octet_low c h = elim (odd_cases c) [ inl e ↦ omega arith | inr e ↦ omega arith ]

pub is_odd_odd_octet : (c : ℕ) → c < 128 → IsOdd (odd_octet c)
is_odd_odd_octet c h =
    elim (odd_cases c) [
      | inl e ↦ rw e.0 e.1
      | inr e ↦ rw (e.0, ones_high c h) (omega arith)
    ]

-- An octet with odd parity carries its low seven bits.
pub odd_of_low : (o : ℕ) → o < 256 → IsOdd o → odd_octet (o % 128) ≡ o
odd_of_low o h p = by_size (cases_lt o 128)
  where
    by_size : (o < 128) ⊎ (128 ≤ o) → odd_octet (o % 128) ≡ o
    by_size (inl l) =
        let e : o % 128 ≡ o = omega arith in
        elim (odd_cases o) [ inl k ↦ rw e k.0 | inr k ↦ absurd (omega arith) ]
    by_size (inr l) =
        let e : o % 128 ≡ o - 128 = omega arith in
        let back : (o - 128) + 128 ≡ o = omega arith in
        let high : count_ones o ≡ 1 + count_ones (o - 128) =
        ap count_ones (sym back) ∙ ones_high (o - 128) (omega arith) in
        elim (odd_cases (o - 128)) [ inl k ↦ absurd (omega arith) | inr k ↦ rw e (k.0 ∙ back) ]

-- The code of an octet with odd parity.
pub code_of_odd : (o : ℕ) → o < 256 → IsOdd o → code_of o ≡ Some (o % 128)
code_of_odd o h p = rw (eq-eqb (odd_octet (o % 128)) o (odd_of_low o h p)) refl

pub code_of_even : (o : ℕ) → (IsOdd o → ⊥) → None ≡ code_of o
code_of_even o n =
    let differs : odd_octet (o % 128) ≡ o → ⊥ =
    λ e. n (ap (λ x. count_ones x % 2) (sym e) ∙ is_odd_odd_octet (o % 128) (omega arith)) in
    let fails : (odd_octet (o % 128) == o) ≡ false = grind (arith, nat_tests, differs) in
    rw fails refl

-- An octet that has a code is the octet that carries it.
pub code_of_some : (o c : ℕ) → code_of o ≡ Some c → (c < 128) × (odd_octet c ≡ o)
code_of_some o c e = from_line_of_odd_test (odd_octet (o % 128) == o) refl e
  where
    from_line_of_odd_test : (b : Bool) → (odd_octet (o % 128) == o) ≡ b → cond b (Some (o % 128)) None ≡ Some c
        → (c < 128) × (odd_octet c ≡ o)
    from_line_of_odd_test true t h =
        let k : c ≡ o % 128 = cc in
        (omega arith, ap odd_octet k ∙ eqb-true (odd_octet (o % 128)) o t)
    from_line_of_odd_test false t h = cc

pub code_of_odd_octet : (c : ℕ) → c < 128 → code_of (odd_octet c) ≡ Some c
code_of_odd_octet c h = rw (odd_octet_low c h, eq-eqb (odd_octet c) (odd_octet c) refl) refl
