-- A turned bit gives an octet the other parity.
use Rattle.std.proofs.Common.{◌≡◌, ◌⊎◌, inl, inr, ℕ, zero, suc, ◌+◌, ◌*◌, ◌/◌, ◌^◌, ◌%◌, ◌<◌, ◌≤◌}
use Rattle.std.proofs.Common.{ap, ◌∙◌}
use Rattle.std.proofs.Common.{arith, count_ones, bit_xor}
use Rattle.std.proofs.lemmas.Nat.{ones_cat, ones_le_self, pow_pos}
use Rattle.std.specs.Int.Bits.{xor_zero_l}
use Rattle.std.specs.Int.Count.{ones-ones}
use lib.Bits.{xor_block}
use Rattle.bsc_octet.specs.Octet.{IsOdd, HaveOtherParity}
use Rattle.bsc_frame.specs.TurnedBits.{turned, IsLeadingPad}
use Rattle.bsc_octet.specs.declared.controls.TheConstants.{PAD, SYN}

ones_zero : count_ones 0 ≡ 0
ones_zero = omega (arith, ones_le_self 0)

ones_one : count_ones 1 ≡ 1
ones_one = ones-ones 1

-- a power of two has one bit
ones_pow : (bit : ℕ) → count_ones (2 ^ bit) ≡ 1
ones_pow bit =
    let e : 2 ^ bit ≡ 1 * 2 ^ bit + 0 = omega arith in
    let small : 0 < 2 ^ bit = pow_pos bit in
    ap count_ones e ∙ ones_cat bit 1 0 small ∙ omega (arith, ones_zero, ones_one)

-- the ones of a number by its halves
ones_half : (a : ℕ) → count_ones a ≡ count_ones (a / 2) + count_ones (a % 2)
ones_half a =
    let e : a ≡ (a / 2) * 2 ^ 1 + a % 2 = omega arith in
    ap count_ones e ∙ ones_cat 1 (a / 2) (a % 2) (omega arith)

-- the exclusive or by its halves
xor_half : (a b : ℕ) → bit_xor a b ≡ bit_xor (a / 2) (b / 2) * 2 ^ 1 + bit_xor (a % 2) (b % 2)
xor_half a b =
    let e : a ≡ (a / 2) * 2 ^ 1 + a % 2 = omega arith in
    let f : b ≡ (b / 2) * 2 ^ 1 + b % 2 = omega arith in
    ap (λ z. bit_xor z b) e ∙ ap (λ z. bit_xor ((a / 2) * 2 ^ 1 + a % 2) z) f
    ∙ xor_block 1 (a / 2) (b / 2) (a % 2) (b % 2) (omega arith) (omega arith)

-- the exclusive or of two bits is a bit, and modulo 2 it has as many ones as both together
record Digit (r s : ℕ) : Type 0 where
  small : bit_xor r s < 2 ^ 1
  counts : count_ones (bit_xor r s) % 2 ≡ (count_ones r + count_ones s) % 2

-- this holds for all bits
digit_of_two_bits : (r s : ℕ) → r < 2 → s < 2 → Digit r s
digit_of_two_bits zero zero l k = record { small = omega arith; counts = omega (arith, ones_zero) }
digit_of_two_bits zero (suc zero) l k = record { small = omega arith; counts = omega (arith, ones_zero) }
digit_of_two_bits (suc zero) zero l k = record { small = omega arith; counts = omega (arith, ones_zero) }
digit_of_two_bits (suc zero) (suc zero) l k =
    record { small = omega arith; counts = omega (arith, ones_zero, ones_one) }
digit_of_two_bits (suc (suc r)) s l k = absurd (omega arith)
digit_of_two_bits r (suc (suc s)) l k = absurd (omega arith)

-- whether an exclusive or has an odd or an even number of ones
xor_by : (n a b : ℕ) → a ≤ n → count_ones (bit_xor a b) % 2 ≡ (count_ones a + count_ones b) % 2
xor_by zero a b l =
    let none : a ≡ 0 = omega arith in
    rw (none, xor_zero_l b) (omega (arith, ones_zero))
xor_by (suc n) a b l =
    let rest : count_ones (bit_xor (a / 2) (b / 2)) % 2
    ≡ (count_ones (a / 2) + count_ones (b / 2)) % 2 =
    xor_by n (a / 2) (b / 2) (omega arith) in
    let low = digit_of_two_bits (a % 2) (b % 2) (omega arith) (omega arith) in
    let both : count_ones (bit_xor a b) ≡ count_ones (bit_xor (a / 2) (b / 2))
    + count_ones (bit_xor (a % 2) (b % 2)) =
    ap count_ones (xor_half a b) ∙ ones_cat 1 (bit_xor (a / 2) (b / 2)) (bit_xor (a % 2) (b % 2))
    low.small in
    omega (arith, both, rest, low.counts, ones_half a, ones_half b)

-- an odd number of turned bits changes the parity
pub odd_bits_other : (octet bits : ℕ) → IsOdd bits → HaveOtherParity (bit_xor octet bits) octet
odd_bits_other octet bits odd e = omega (arith, e, xor_by octet octet bits (omega arith), odd)

-- one turned bit changes the parity
pub turned_other : (bit octet : ℕ) → HaveOtherParity (turned bit octet) octet
turned_other bit octet e =
    omega (arith, e, xor_by octet octet (2 ^ bit) (omega arith), ones_pow bit)

-- ---- the turned bits of what may be fill

-- SYN with one bit turned is neither a leading pad nor PAD
turned_syn : (bit : ℕ) → bit < 8
    → ((turned bit SYN ≡ 0x55) ⊎ (turned bit SYN ≡ 0xaa)) ⊎ (turned bit SYN ≡ PAD) → ⊥
turned_syn zero l e =
    elim e [ inl k ↦ elim k [ inl w ↦ omega arith | inr w ↦ omega arith ] | inr w ↦ omega arith ]
turned_syn (suc zero) l e =
    elim e [ inl k ↦ elim k [ inl w ↦ omega arith | inr w ↦ omega arith ] | inr w ↦ omega arith ]
turned_syn (suc (suc zero)) l e =
    elim e [ inl k ↦ elim k [ inl w ↦ omega arith | inr w ↦ omega arith ] | inr w ↦ omega arith ]
turned_syn (suc (suc (suc zero))) l e =
    elim e [ inl k ↦ elim k [ inl w ↦ omega arith | inr w ↦ omega arith ] | inr w ↦ omega arith ]
turned_syn (suc (suc (suc (suc zero)))) l e =
    elim e [ inl k ↦ elim k [ inl w ↦ omega arith | inr w ↦ omega arith ] | inr w ↦ omega arith ]
turned_syn (suc (suc (suc (suc (suc zero))))) l e =
    elim e [ inl k ↦ elim k [ inl w ↦ omega arith | inr w ↦ omega arith ] | inr w ↦ omega arith ]
turned_syn (suc (suc (suc (suc (suc (suc zero)))))) l e =
    elim e [ inl k ↦ elim k [ inl w ↦ omega arith | inr w ↦ omega arith ] | inr w ↦ omega arith ]
turned_syn (suc (suc (suc (suc (suc (suc (suc zero))))))) l e =
    elim e [ inl k ↦ elim k [ inl w ↦ omega arith | inr w ↦ omega arith ] | inr w ↦ omega arith ]
turned_syn (suc (suc (suc (suc (suc (suc (suc (suc bit)))))))) l e = omega arith

-- PAD with one bit turned is not SYN
pub pad_no_fill : (bit : ℕ) → bit < 8 → turned bit PAD ≡ SYN → ⊥
pad_no_fill zero l e = omega arith
pad_no_fill (suc zero) l e = omega arith
pad_no_fill (suc (suc zero)) l e = omega arith
pad_no_fill (suc (suc (suc zero))) l e = omega arith
pad_no_fill (suc (suc (suc (suc zero)))) l e = omega arith
pad_no_fill (suc (suc (suc (suc (suc zero))))) l e = omega arith
pad_no_fill (suc (suc (suc (suc (suc (suc zero)))))) l e = omega arith
pad_no_fill (suc (suc (suc (suc (suc (suc (suc zero))))))) l e = omega arith
pad_no_fill (suc (suc (suc (suc (suc (suc (suc (suc bit)))))))) l e = omega arith

-- SYN with one bit turned is not a leading pad in place of the first SYN
pub syn_no_pad : (bit place : ℕ) → bit < 8 → IsLeadingPad place (turned bit SYN) → ⊥
syn_no_pad bit place l h = turned_syn bit l (inl h.1)

-- SYN with one bit turned is not PAD
pub syn_no_fill : (bit : ℕ) → bit < 8 → turned bit SYN ≡ PAD → ⊥
syn_no_fill bit l h = turned_syn bit l (inr h)
