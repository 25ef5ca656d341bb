-- The texts of networks.
use Rattle.std.specs.Prelude.{◌≡◌, ◌≤◌, ◌+◌, ◌==◌, ℕ, Bool, List, drop, position, Option, None}
use Rattle.std.specs.Prelude.{Some, option_map, Result, Ok, Err}
use Rattle.std.specs.List.{before_first}
use Rattle.std.specs.Net.Grammar.{IsIpText}
use Rattle.std.specs.Str.Parse.{IsNumeral, digits_value}
use Rattle.std.specs.declared.net.ip_addr.IpAddr.{IpAddr}
use Rattle.bsc_trust.specs.Addresses.{width_of}
use Rattle.bsc_trust.specs.declared.network.Network.{Network}
use Rattle.bsc_trust.specs.declared.network.NetworkError.{NetworkError}
use Rattle.bsc_trust.specs.declared.network.NetworkError.TheVariants.{NoAddress, NoBits}

-- Whether a character is `/`.
abbrev pub is_slash : ℕ → Bool
is_slash character = character == 47

-- The text before the first `/`, or all of it.
abbrev pub address_part : List ℕ → List ℕ
address_part text = before_first is_slash text

-- The text after the first `/`, if there is one.
abbrev pub bits_part : List ℕ → Option (List ℕ)
bits_part text = option_map (λ place. drop (place + 1) text) (position is_slash text)

-- A text gives the number of bits of an address that has this many: all of them if there is no
-- text, else the number that its decimal digits write, which is not greater.
abbrev pub GivesBits : Option (List ℕ) → ℕ → ℕ → Type 0
GivesBits None width bits = bits ≡ width
GivesBits (Some digits) width bits =
    IsNumeral 10 digits × (digits_value 10 digits ≡ bits) × (bits ≤ width)

-- A text writes a network: its address, as the standard library reads addresses, and its bits.
abbrev pub IsNetworkText : List ℕ → Network → Type 0
IsNetworkText text network =
    IsIpText (address_part text) network.address
    × GivesBits (bits_part text) (width_of network.address) network.bits

-- What a text reads as: the network that it writes, or what it lacks.
abbrev pub Reads : List ℕ → Result Network NetworkError → Type 0
Reads text (Ok network) = IsNetworkText text network
Reads text (Err NoAddress) = (address : IpAddr) → ¬ (IsIpText (address_part text) address)
Reads text (Err NoBits) =
    (address : IpAddr) × IsIpText (address_part text) address
    × ((bits : ℕ) → ¬ (GivesBits (bits_part text) (width_of address) bits))
