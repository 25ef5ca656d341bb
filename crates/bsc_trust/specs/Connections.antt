-- What is known of connections, by their places.
use Rattle.std.specs.Prelude.{ℕ, ◌==◌, Bool, true, false, not, ◌&&◌, ◌||◌, List, Option}
use Rattle.std.specs.Prelude.{None, Some}
use Rattle.std.specs.Prelude.{slice_index_or, position, is_none}
use Rattle.std.specs.declared.net.ip_addr.IpAddr.{IpAddr}
use Rattle.bsc_trust.specs.declared.connected.Connected.{Connected}

-- A connection of which nothing is known, not even that there is one.
abbrev pub nobody : Connected
nobody = record { peer = None; owner = None; barred = false; told = false }

-- A connection that has begun, with this peer.
abbrev pub newcomer : Option IpAddr → Connected
newcomer peer = record { peer = peer; owner = None; barred = false; told = false }

-- What is known of the connection at this place.
abbrev pub connected_at : List Connected → ℕ → Connected
connected_at connections place = slice_index_or connections place nobody

-- Whether this terminal is the owner.
abbrev pub is_this : ℕ → Option ℕ → Bool
is_this terminal None = false
is_this terminal (Some owner) = owner == terminal

-- What is known of a connection after something on it was not heard, and the reason was told. If
-- it is nobody's, and not all share one connection, it is barred: its peer has transmitted out of
-- turn, and may do so again when it would be taken for the answer of another terminal. A connection
-- that a terminal owns needs no bar, since on it no other terminal is heard.
abbrev pub ignored_on : Bool → Connected → Connected
ignored_on shared c =
    record c { barred = c.barred || (not shared && is_none c.owner); told = true }

-- The place of the connection that this terminal owns, if it owns one: the first, if there were
-- several.
abbrev pub owned_by : List Connected → ℕ → Option ℕ
owned_by connections terminal = position (λ c. is_this terminal c.owner) connections
