-- The loop invariant of `add_peers`.
use Rattle.std.proofs.Common.{◌≡◌, ◌≤◌, length}
use Rattle.bsc_sockets.specs.Beginning.{HasAdmitted}
use Rattle.bsc_sockets.specs.Standings.{standings_value}
use Rattle.bsc_sockets.proofs.begin.Begun.add_peers.Given as goal

-- There are as many connections as peers that were waited for. The settings, the number of places
-- and the listener stay as they were. If there is a place for each peer, each of those peers may
-- connect and has a known address.
abbrev pub invariant-peers : goal.invariant-peers
invariant-peers g l =
    (length l.self.connections.items ≡ l.place)
    × (l.self.sockets.settings ≡ l.fn.self.sockets.settings)
    × (l.self.sockets.places ≡ l.fn.self.sockets.places)
    × (l.self.sockets.listener ≡ l.fn.self.sockets.listener)
    × (length l.self.sockets.standings.places.items
    ≡ length l.fn.self.sockets.standings.places.items)
    × (l.peers ≤ length l.fn.self.sockets.standings.places.items
    → HasAdmitted l.fn.self.sockets.settings.allowed l.place
    (standings_value l.self.sockets.standings))
