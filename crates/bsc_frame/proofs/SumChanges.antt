-- What a change of members does to a longitudinal sum.
use Rattle.std.proofs.Common.{◌≡◌, ℕ, ◌+◌, ◌*◌, ◌/◌, ◌%◌, ◌<◌, ◌==◌, cond, refl, sym, ap}
use Rattle.std.proofs.Common.{◌∙◌}
use Rattle.std.proofs.Common.{arith, List, ◌∷◌, ◌++◌, bit_xor}
use Rattle.std.specs.Int.{bit_at}
use Rattle.std.proofs.lemmas.Nat.Bits.{bit_at_xor, bit_at-lt}
use Rattle.std.proofs.lemmas.List.Sums.{sum_by-cons}
use Rattle.bsc_octet.specs.Octet.{longitudinal_sum, with_bit}
use Rattle.bsc_octet.proofs.LaneParity.{with_bit_append, test_bit}

-- the members with a bit, around one of them
around_bit : (i : ℕ) (front : List ℕ) (c : ℕ) (back : List ℕ)
    → with_bit i (front ++ c ∷ back) ≡ with_bit i front + (bit_at c i + with_bit i back)
around_bit i front c back =
    with_bit_append i front (c ∷ back)
    ∙ ap (λ n. with_bit i front + n) (sum_by-cons (λ y. cond (bit_at y i == 1) 1 0) c back
    ∙ ap (λ n. n + with_bit i back) (test_bit c i))

-- lists with the same parity of each bit have the same sum
same_sum : (s t : List ℕ) → ((i : ℕ) → with_bit i s % 2 ≡ with_bit i t % 2)
    → longitudinal_sum s ≡ longitudinal_sum t
unfolding longitudinal_sum
same_sum s t h = rw (h 0, h 1, h 2, h 3, h 4, h 5, h 6) refl

-- if the bits of one mask are turned in two members, the sum does not change
pub two_turned : (front middle back : List ℕ) (c d mask : ℕ)
    → longitudinal_sum (front ++ bit_xor c mask ∷ middle ++ bit_xor d mask ∷ back)
    ≡ longitudinal_sum (front ++ c ∷ middle ++ d ∷ back)
two_turned front middle back c d mask =
    same_sum (front ++ bit_xor c mask ∷ middle ++ bit_xor d mask ∷ back)
    (front ++ c ∷ middle ++ d ∷ back)
    (λ i. omega (
      arith,
      around_bit i (front ++ bit_xor c mask ∷ middle) (bit_xor d mask) back,
      around_bit i front (bit_xor c mask) middle,
      around_bit i (front ++ c ∷ middle) d back,
      around_bit i front c middle,
      bit_at_xor c mask i,
      bit_at_xor d mask i,
    ))

-- ---- one changed member changes the sum

-- each bit of a sum is the parity of the members that have it: bit 0
sum_bit_0 : (s : List ℕ) → longitudinal_sum s % 2 ≡ with_bit 0 s % 2
unfolding longitudinal_sum
sum_bit_0 s = omega arith

-- bit 1
sum_bit_1 : (s : List ℕ) → longitudinal_sum s / 2 % 2 ≡ with_bit 1 s % 2
unfolding longitudinal_sum
sum_bit_1 s = omega arith

-- bit 2
sum_bit_2 : (s : List ℕ) → longitudinal_sum s / 4 % 2 ≡ with_bit 2 s % 2
unfolding longitudinal_sum
sum_bit_2 s = omega arith

-- bit 3
sum_bit_3 : (s : List ℕ) → longitudinal_sum s / 8 % 2 ≡ with_bit 3 s % 2
unfolding longitudinal_sum
sum_bit_3 s = omega arith

-- bit 4
sum_bit_4 : (s : List ℕ) → longitudinal_sum s / 16 % 2 ≡ with_bit 4 s % 2
unfolding longitudinal_sum
sum_bit_4 s = omega arith

-- bit 5
sum_bit_5 : (s : List ℕ) → longitudinal_sum s / 32 % 2 ≡ with_bit 5 s % 2
unfolding longitudinal_sum
sum_bit_5 s = omega arith

-- bit 6
sum_bit_6 : (s : List ℕ) → longitudinal_sum s / 64 % 2 ≡ with_bit 6 s % 2
unfolding longitudinal_sum
sum_bit_6 s = omega arith

-- two codes with the same seven bits
record SameBits (c d : ℕ) : Type 0 where
  b0 : bit_at c 0 ≡ bit_at d 0
  b1 : bit_at c 1 ≡ bit_at d 1
  b2 : bit_at c 2 ≡ bit_at d 2
  b3 : bit_at c 3 ≡ bit_at d 3
  b4 : bit_at c 4 ≡ bit_at d 4
  b5 : bit_at c 5 ≡ bit_at d 5
  b6 : bit_at c 6 ≡ bit_at d 6

-- if one member is changed and the parity of a bit is not, the bit of the member is as before
same_bit : (i : ℕ) (front : List ℕ) (c d : ℕ) (back : List ℕ)
    → with_bit i (front ++ c ∷ back) % 2 ≡ with_bit i (front ++ d ∷ back) % 2 → bit_at c i
    ≡ bit_at d i
same_bit i front c d back h =
    omega (
      arith,
      h,
      around_bit i front c back,
      around_bit i front d back,
      bit_at-lt c i,
      bit_at-lt d i,
    )

-- if the sum is not changed, all bits of the member are as before
same_bits : (front : List ℕ) (c d : ℕ) (back : List ℕ)
    → longitudinal_sum (front ++ c ∷ back) ≡ longitudinal_sum (front ++ d ∷ back) → SameBits c d
same_bits front c d back h = record {
  b0 = same_bit 0 front c d back (sym (sum_bit_0 (front ++ c ∷ back)) ∙ ap (λ n. n % 2) h
      ∙ sum_bit_0 (front ++ d ∷ back));
  b1 = same_bit 1 front c d back (sym (sum_bit_1 (front ++ c ∷ back)) ∙ ap (λ n. n / 2 % 2) h
      ∙ sum_bit_1 (front ++ d ∷ back));
  b2 = same_bit 2 front c d back (sym (sum_bit_2 (front ++ c ∷ back)) ∙ ap (λ n. n / 4 % 2) h
      ∙ sum_bit_2 (front ++ d ∷ back));
  b3 = same_bit 3 front c d back (sym (sum_bit_3 (front ++ c ∷ back)) ∙ ap (λ n. n / 8 % 2) h
      ∙ sum_bit_3 (front ++ d ∷ back));
  b4 = same_bit 4 front c d back (sym (sum_bit_4 (front ++ c ∷ back)) ∙ ap (λ n. n / 16 % 2) h
      ∙ sum_bit_4 (front ++ d ∷ back));
  b5 = same_bit 5 front c d back (sym (sum_bit_5 (front ++ c ∷ back)) ∙ ap (λ n. n / 32 % 2) h
      ∙ sum_bit_5 (front ++ d ∷ back));
  b6 = same_bit 6 front c d back (sym (sum_bit_6 (front ++ c ∷ back)) ∙ ap (λ n. n / 64 % 2) h
      ∙ sum_bit_6 (front ++ d ∷ back));
}

-- a code by its bits
code_by_bits : (c : ℕ) → c < 128
    → bit_at c 0 + 2 * bit_at c 1 + 4 * bit_at c 2 + 8 * bit_at c 3 + 16 * bit_at c 4 + 32
    * bit_at c 5 + 64 * bit_at c 6 ≡ c
code_by_bits c h = omega arith

-- two codes of which one may stand for the other in a sum are the same
pub one_changed : (front : List ℕ) (c d : ℕ) (back : List ℕ) → c < 128 → d < 128
    → longitudinal_sum (front ++ c ∷ back) ≡ longitudinal_sum (front ++ d ∷ back) → c ≡ d
one_changed front c d back l k h =
    let b = same_bits front c d back h in
    sym (code_by_bits c l) ∙ rw (b.b0, b.b1, b.b2, b.b3, b.b4, b.b5, b.b6) (code_by_bits d k)
