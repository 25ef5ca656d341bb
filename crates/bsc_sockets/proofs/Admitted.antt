-- What is so of the peer of each place is so after another peer has joined of which it is so.
use Rattle.std.proofs.Common.{◌≡◌, ℕ, zero, suc, true, List, [], ◌∷◌, Option, Some, None, slice_get, slice_set, refl}
use Rattle.std.specs.Net.Socket.{socket_ip}
use Rattle.std.specs.declared.net.SocketAddr.{SocketAddr}
use Rattle.bsc_trust.specs.Lists.{listed}
use Rattle.bsc_trust.specs.Networks.{allows}
use Rattle.bsc_trust.specs.declared.networks.Networks.{Networks}
use Rattle.bsc_sockets.specs.Beginning.{HasAdmitted, peer_may}
use Rattle.bsc_sockets.specs.Standings.{StandingsValue, after_joining}
use Rattle.bsc_sockets.specs.declared.standings.Standing.{Standing}

get_after_set : {X : Type 0} (P : Option X → Type 0) (xs : List X) (place : ℕ) (new : X) (at : ℕ)
    → P (Some new) → P (slice_get xs at) → P (slice_get (slice_set xs place new) at)
get_after_set P [] place new at is was = was
get_after_set P (x ∷ xs) zero new zero is was = is
get_after_set P (x ∷ xs) zero new (suc at) is was = was
get_after_set P (x ∷ xs) (suc place) new zero is was = was
get_after_set P (x ∷ xs) (suc place) new (suc at) is was = get_after_set P xs place new at is was

changed : (P : Option Standing → Type 0) (peer : SocketAddr) (standings : StandingsValue)
    (place : ℕ) (old : Option Standing) (at : ℕ)
    → ((new : Standing) → new.peer ≡ Some peer → P (Some new)) → P (slice_get standings.places at)
    → P (slice_get (after_joining (Some peer) standings place old).places at)
changed P peer standings place None at is was = was
changed P peer standings place (Some old) at is was =
    get_after_set P standings.places place _ at (is _ refl) was

pub still_admitted : (allowed : Networks) (peer : SocketAddr) (standings : StandingsValue)
    (place : ℕ) (old : Option Standing) (count : ℕ) → allows (listed allowed) (socket_ip peer) ≡ true
    → HasAdmitted allowed count standings
    → HasAdmitted allowed count (after_joining (Some peer) standings place old)
still_admitted allowed peer standings place old count may before at within =
    changed (λ standing. peer_may allowed standing ≡ Some true) peer standings place old at
    (λ new is. cc) (before at within)
