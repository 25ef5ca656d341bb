-- The numbers of IP addresses, and the leading bits of numbers.
use Rattle.std.specs.Prelude.{ℕ, ◌+◌, ◌*◌, ◌-◌, ◌/◌, ◌^◌, ◌==◌, Bool}
use Rattle.std.specs.Net.Addr.{ipv4_bits, ipv6_bits}
use Rattle.std.specs.declared.net.ip_addr.IpAddr.{IpAddr}
use Rattle.std.specs.declared.net.ip_addr.IpAddr.TheVariants.{V4, V6}

-- How many bits an address has.
abbrev pub width_of : IpAddr → ℕ
width_of (V4 address) = 32
width_of (V6 address) = 128

-- The number of an address: of an IPv6 address its 128 bits, and of an IPv4 address those of the
-- IPv6 address to which it is mapped, `::ffff:a.b.c.d`. So an IPv4 address counts as the same
-- address in both forms.
abbrev pub number_of : IpAddr → ℕ
number_of (V4 address) = 0xffff * 2 ^ 32 + ipv4_bits address
number_of (V6 address) = ipv6_bits address

-- Whether this is the number of an IPv4 address.
abbrev pub is_ipv4_number : ℕ → Bool
is_ipv4_number number = number / 2 ^ 32 == 0xffff

-- Whether two numbers of 128 bits agree in this many leading bits.
abbrev pub agree : ℕ → ℕ → ℕ → Bool
agree bits one other = one / 2 ^ (128 - bits) == other / 2 ^ (128 - bits)
