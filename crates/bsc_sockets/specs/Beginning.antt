-- How sockets begin.
use Rattle.std.specs.Prelude.{◌≡◌, ◌<◌, ℕ, Bool, true, List, [], Option, None, Some, replicate}
use Rattle.std.specs.Prelude.{option_map, slice_get}
use Rattle.std.specs.Net.Socket.{socket_ip}
use Rattle.std.specs.declared.net.socket_addr.SocketAddr.{SocketAddr}
use Rattle.bsc_trust.specs.Lists.{listed}
use Rattle.bsc_trust.specs.Networks.{allows}
use Rattle.bsc_trust.specs.declared.networks.Networks.{Networks}
use Rattle.bsc_sockets.specs.Standings.{StandingsValue, new_standings, peer_of, standings_value}
use Rattle.bsc_sockets.specs.declared.standings.Standing.{Standing}
use Rattle.bsc_sockets.specs.declared.standings.Standings.{Standings}
use Rattle.bsc_sockets.specs.declared.silences.LastSilence.TheVariants.{Untold}
use Rattle.bsc_sockets.specs.declared.times.Time.TheVariants.{Anew}
use Rattle.bsc_sockets.specs.declared.times.Times.{Times}

-- With this many places: nothing is ready and no gap is awaited, nothing is known of a peer, the
-- time of the time-out begins with the first wait, which begins at once, and no silence was told.
pub record HasBegunSockets {A : Type 0} (places : ℕ) (ready : List ℕ) (standings : Standings A)
    (times : Times A) : Type 0 where
  pub nothing_ready : ready ≡ []
  pub strangers : standings_value standings ≡ new_standings places
  pub time_out : times.time_out ≡ Anew
  pub pause : times.pause ≡ None
  pub no_gap : times.gaps.items ≡ replicate places None
  pub no_silence : times.last_silence ≡ Untold

-- Whether these networks allow this address.
abbrev pub is_allowed : Networks → SocketAddr → Bool
is_allowed allowed address = allows (listed allowed) (socket_ip address)

-- Whether these networks allow the address of the peer of a place, if that is known.
abbrev pub peer_may : Networks → Option Standing → Option Bool
peer_may allowed standing = option_map (is_allowed allowed) (peer_of standing)

-- At each of the first places, this many, is a peer whose address is known, and these networks
-- allow it.
abbrev pub HasAdmitted : Networks → ℕ → StandingsValue → Type 0
HasAdmitted allowed count standings =
    (place : ℕ) → place < count
    → peer_may allowed (slice_get standings.places place) ≡ Some true
