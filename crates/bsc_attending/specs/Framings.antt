-- The framing of the connections of a station, and the two directions of each.
use Rattle.std.specs.Prelude.{◌≡◌, ℕ, ◌-◌, Bool, true, false, List, ◌++◌, map, length, replicate}
use Rattle.std.specs.Prelude.{Option, Some, None, is_some, option_map}
use Rattle.std.specs.Net.Socket.{socket_ip}
use Rattle.std.specs.declared.net.ip_addr.IpAddr.{IpAddr}
use Rattle.std.specs.declared.net.socket_addr.SocketAddr.{SocketAddr}

-- The directions of connections over these, and of vacant places after them up to this many places.
abbrev pub ends_with_vacant : {R W : Type 0} → List (R × W) → ℕ → List (Option (R × W))
ends_with_vacant directions places =
    map (λ d. Some d) directions ++ replicate (places - length directions) None

-- This is the IP address of a peer that has such a name, if it is known.
abbrev pub NamesAddress : (Option SocketAddr → Type 0) → Option IpAddr → Type 0
NamesAddress names address =
    (peer : Option SocketAddr) × names peer × (address ≡ option_map socket_ip peer)
