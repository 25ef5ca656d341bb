-- The longitudinal sum by its bits, and with one more member.
use Rattle.std.proofs.Common.{◌≡◌, ℕ, zero, suc, ◌+◌, ◌*◌, ◌%◌, ◌/◌, ◌<◌, ◌==◌, cond, sym, ◌∙◌}
use Rattle.std.proofs.Common.{arith, lit<}
use Rattle.std.proofs.Common.{List, bit_and, bit_xor, min, length, take, get_or}
use Rattle.std.specs.Int.{bit_at}
use Rattle.std.proofs.lemmas.Nat.Bits.{bit_at_and, bit_at_xor, bit_at_ones, bit_at-lt}
use Rattle.std.proofs.lemmas.Nat.{and_le_r}
use Rattle.std.proofs.lemmas.List.Sums.{sum_by_more}
use Rattle.bsc_octet.specs.Octet.{longitudinal_sum, with_bit}

-- A number of seven bits by its bits.
by_bits : (n : ℕ) → n < 128
    → n / 1 % 2 + 2 * (n / 2 % 2) + 4 * (n / 4 % 2) + 8 * (n / 8 % 2) + 16 * (n / 16 % 2) + 32
    * (n / 32 % 2) + 64 * (n / 64 % 2) ≡ n
by_bits n h = omega arith

-- A number of seven bits that has the bits of the sum is the sum.
pub longitudinal_sum_from_bits : (s : List ℕ) (n : ℕ) → n < 128
    → ((i : ℕ) → i < 7 → bit_at n i ≡ with_bit i s % 2) → longitudinal_sum s ≡ n
unfolding longitudinal_sum
longitudinal_sum_from_bits s n lt h =
    rw (
      ← h 0 (lit< tt),
      ← h 1 (lit< tt),
      ← h 2 (lit< tt),
      ← h 3 (lit< tt),
      ← h 4 (lit< tt),
      ← h 5 (lit< tt),
      ← h 6 (lit< tt),
    ) (by_bits n lt)

-- Each bit of an exclusive or counts one more member.
pub xor_counts : (t x i w : ℕ) → bit_at t i ≡ w % 2
    → bit_at (bit_xor t x) i ≡ (w + cond (bit_at x i == 1) 1 0) % 2
xor_counts t x i w h = rw (bit_at_xor t x i, h) (parity_of_one_more (bit_at x i) (bit_at-lt x i))
  where
    parity_of_one_more : (b : ℕ) → b < 2 → (w % 2 + b) % 2 ≡ (w + cond (b == 1) 1 0) % 2
    parity_of_one_more zero l = omega arith
    parity_of_one_more (suc zero) l = omega arith
    parity_of_one_more (suc (suc b)) l = absurd (omega arith)

-- The sum is the low seven bits of the exclusive or of the members.
pub longitudinal_sum_from_xor : (t : ℕ) (s : List ℕ) → ((i : ℕ) → bit_at t i ≡ with_bit i s % 2)
    → bit_and t 127 ≡ longitudinal_sum s
longitudinal_sum_from_xor t s h =
    let small : bit_and t 127 < 128 = omega (arith, and_le_r t 127) in
    let one : (b : ℕ) → b < 2 → min b 1 ≡ b = λ b l. omega arith in
    sym (longitudinal_sum_from_bits s (bit_and t 127) small
    (λ i l. bit_at_and t 127 i ∙ rw (bit_at_ones 7 i l)
    (one (bit_at t i) (bit_at-lt t i) ∙ h i)))

-- The step of a loop over the members.
pub xor_more : (t : ℕ) (s : List ℕ) (k : ℕ) → k < length s
    → ((i : ℕ) → bit_at t i ≡ with_bit i (take k s) % 2)
    → (i : ℕ) → bit_at (bit_xor t (get_or s k 0)) i ≡ with_bit i (take (k + 1) s) % 2
xor_more t s k l h i =
    rw (sum_by_more (λ x. cond (bit_at x i == 1) 1 0) s k 0 l)
    (xor_counts t (get_or s k 0) i (with_bit i (take k s)) (h i))

-- The sum is a code.
pub longitudinal_sum_lt : (s : List ℕ) → longitudinal_sum s < 128
unfolding longitudinal_sum
longitudinal_sum_lt s = omega arith
