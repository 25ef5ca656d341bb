-- The loop invariant of `next_connection`.
use Rattle.std.proofs.Common.{◌≡◌}
use Rattle.bsc_sockets.proofs.sockets.Sockets.next_connection.Given as goal

-- The settings, the number of places, the listener and the standings stay as they were.
abbrev pub invariant-peers : goal.invariant-peers
invariant-peers g l =
    (l.self.settings ≡ l.fn.self.settings) × (l.self.places ≡ l.fn.self.places)
    × (l.self.listener ≡ l.fn.self.listener) × (l.self.standings ≡ l.fn.self.standings)
