-- The loop invariant of `replace_gone`.
use Rattle.std.proofs.Common.{◌≡◌, ℕ, length}
use Rattle.bsc_sockets.specs.Beginning.{HasAdmitted}
use Rattle.bsc_sockets.specs.Standings.{standings_value}
use Rattle.bsc_sockets.proofs.begin.Begun.replace_gone.Given as goal

-- There are as many connections as before. The settings, the number of places and the listener stay
-- as they were, and each of the first places has a peer that may connect if it had one before.
abbrev pub invariant-gone : goal.invariant-gone
invariant-gone g l =
    (length l.self.connections.items ≡ length l.fn.self.connections.items)
    × (l.self.sockets.settings ≡ l.fn.self.sockets.settings)
    × (l.self.sockets.places ≡ l.fn.self.sockets.places)
    × (l.self.sockets.listener ≡ l.fn.self.sockets.listener)
    × ((count : ℕ)
    → HasAdmitted l.fn.self.sockets.settings.allowed count
    (standings_value l.fn.self.sockets.standings)
    → HasAdmitted l.fn.self.sockets.settings.allowed count
    (standings_value l.self.sockets.standings))
