-- The addresses from which terminals answer.
use Rattle.std.specs.Prelude.{ℕ, ◌+◌, ◌==◌, Bool, true, false, not, List, Option, None, Some}
use Rattle.std.specs.Prelude.{slice_index_or}
use Rattle.std.specs.List.{list_any}
use Rattle.std.specs.Net.Addr.{ipv4_bits, ipv6_bits}
use Rattle.std.specs.declared.net.ip_addr.IpAddr.{IpAddr}
use Rattle.std.specs.declared.net.ip_addr.IpAddr.TheVariants.{V4, V6}

-- The number of an address as an IPv6 address: for an IPv4 address that of the IPv4-mapped one.
abbrev pub number_of : IpAddr → ℕ
number_of (V4 address) = 0xffff_0000_0000 + ipv4_bits address
number_of (V6 address) = ipv6_bits address

-- Whether a peer has the address that is given, if one is.
abbrev pub is_given_as : IpAddr → Option IpAddr → Bool
is_given_as peer None = false
is_given_as peer (Some address) = number_of address == number_of peer

-- Whether the address of a peer is given for some terminal.
abbrev pub is_given : List (Option IpAddr) → IpAddr → Bool
is_given addresses peer = list_any (is_given_as peer) addresses

-- The address that is given for a terminal, if one is.
abbrev pub given_for : List (Option IpAddr) → ℕ → Option IpAddr
given_for addresses terminal = slice_index_or addresses terminal None

-- Whether a peer may not answer for a terminal. If an address is given for the terminal, only a
-- peer of this address may. If none is, only a peer may whose address is given for no terminal; an
-- address that is not known is given for none.
abbrev pub forbids_by : Option IpAddr → Option IpAddr → List (Option IpAddr) → Bool
forbids_by (Some address) None addresses = true
forbids_by (Some address) (Some peer) addresses = not (number_of address == number_of peer)
forbids_by None None addresses = false
forbids_by None (Some peer) addresses = is_given addresses peer

abbrev pub forbids : List (Option IpAddr) → ℕ → Option IpAddr → Bool
forbids addresses terminal peer = forbids_by (given_for addresses terminal) peer addresses
