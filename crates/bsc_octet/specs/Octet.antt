-- Characters of seven bits, the octets that carry them, the longitudinal sum, and which characters
-- stand in records and addresses.
use Rattle.std.specs.Prelude.{◌≡◌, ◌≢◌, ◌⊎◌, ℕ, ◌+◌, ◌*◌, ◌%◌, Bool, ◌&&◌, ◌||◌, not, ◌==◌}
use Rattle.std.specs.Prelude.{◌<◌, nat_lt, nat_le, if◌then◌else◌}
use Rattle.std.specs.Prelude.{List, [], ◌∷◌, count_ones, count_by, Option, Some, None}
use Rattle.std.specs.List.{list_any}
use Rattle.std.specs.Int.{bit_at}

-- A code: seven bits.
abbrev pub IsCode : ℕ → Type 0
IsCode c = c < 128

-- An octet with an odd number of ones (GA27-3004: odd parity).
abbrev pub IsOdd : ℕ → Type 0
IsOdd octet = count_ones octet % 2 ≡ 1

-- One of the two octets has an odd number of ones, and the other an even number.
abbrev pub HaveOtherParity : ℕ → ℕ → Type 0
HaveOtherParity a b = count_ones a % 2 ≢ count_ones b % 2

-- The octet that carries a code below 128: the code or the code plus 128, whichever has an odd
-- number of ones (GA27-3004: vertical redundancy checking).
unfoldable pub odd_octet : ℕ → ℕ
odd_octet c = if count_ones c % 2 == 1 then c else c + 128

-- The code that an octet carries, or none if its parity is even.
abbrev pub code_of : ℕ → Option ℕ
code_of octet = if odd_octet (octet % 128) == octet then Some (octet % 128) else None

-- The code of an octet whose parity is right.
abbrev pub code_in : ℕ → ℕ
code_in octet = octet % 128

-- The number of members of a list that have bit i.
abbrev pub with_bit : ℕ → List ℕ → ℕ
with_bit i s = count_by (λ x. bit_at x i == 1) s

-- The longitudinal sum of a list: the number whose bit i, 0 to 6, is 1 exactly if an odd number of
-- the members have bit i (GA27-3004: longitudinal redundancy checking).
unfoldable pub longitudinal_sum : List ℕ → ℕ
longitudinal_sum s =
    with_bit 0 s % 2
    + 2 * (with_bit 1 s % 2)
    + 4 * (with_bit 2 s % 2)
    + 8 * (with_bit 3 s % 2)
    + 16 * (with_bit 4 s % 2)
    + 32 * (with_bit 5 s % 2)
    + 64 * (with_bit 6 s % 2)

-- The data-link control characters: SOH, STX, ETX, EOT, ENQ, DLE, NAK, SYN, ETB, EM, US.
abbrev pub controls : List ℕ
controls = 1 ∷ 2 ∷ 3 ∷ 4 ∷ 5 ∷ 16 ∷ 21 ∷ 22 ∷ 23 ∷ 25 ∷ 31 ∷ []

-- A character that a record may hold: any code but these eleven.
unfoldable pub is_record_char : ℕ → Bool
is_record_char c = nat_lt c 128 && not (list_any (λ k. c == k) controls)

-- Whether a code may stand in an address: it is 0x21 to 0x7e. GA27-3004 leaves the addresses of a
-- line to its owner.
abbrev pub is_address_code : ℕ → Bool
is_address_code c = nat_le 33 c && nat_le c 126

-- A leading pad: 0x55 or 0xaa, alternating ones and zeros (GA27-3004: pad format).
abbrev pub IsPad : ℕ → Type 0
IsPad x = (x ≡ 0x55) ⊎ (x ≡ 0xaa)

-- Whether an octet is a leading pad.
abbrev pub is_pad_octet : ℕ → Bool
is_pad_octet x = (x == 0x55) || (x == 0xaa)
