-- Networks and the addresses in them.
use Rattle.std.specs.Prelude.{ℕ, ◌+◌, ◌-◌, ◌==◌, ◌&&◌, ◌||◌, Bool, not, nat_le, List, length}
use Rattle.std.specs.List.{list_any}
use Rattle.std.specs.declared.net.ip_addr.IpAddr.{IpAddr}
use Rattle.bsc_trust.specs.declared.network.Network.{Network}
use Rattle.bsc_trust.specs.Addresses.{agree, is_ipv4_number, number_of, width_of}

-- How many leading bits of the number of an address are the same for all addresses of the network.
-- For IPv4 the first 96 of 128 are those that all IPv4 addresses share.
abbrev pub fixed_bits : Network → ℕ
fixed_bits network = (128 - width_of network.address) + network.bits

-- Whether an address is in a network: both numbers agree in the leading bits of the network. An
-- IPv4 address is only in networks of IPv4 addresses.
abbrev pub contains : Network → IpAddr → Bool
contains network address =
    agree (fixed_bits network) (number_of network.address) (number_of address)
    && (nat_le 96 (fixed_bits network) || not (is_ipv4_number (number_of address)))

-- Whether a list of networks allows an address: it is empty, or some network of it contains the
-- address.
abbrev pub allows : List Network → IpAddr → Bool
allows networks address =
    length networks == 0 || list_any (λ network. contains network address) networks
