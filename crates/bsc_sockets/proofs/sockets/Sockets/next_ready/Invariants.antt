-- The loop invariant of `next_ready`.
use Rattle.std.proofs.Common.{◌≡◌, IsSome}
use Rattle.bsc_sockets.proofs.sockets.Sockets.next_ready.Given as goal

-- The settings, the times, the standings, whether it is asked to end or was called, what the system
-- has reported, the number of places and the listener stay as they were, and so does a newcomer.
abbrev pub invariant-turns : goal.invariant-turns
invariant-turns g l =
    (l.self.settings ≡ l.fn.self.settings) × (l.self.stopping ≡ l.fn.self.stopping)
    × (l.self.times ≡ l.fn.self.times) × (l.self.standings ≡ l.fn.self.standings)
    × (l.self.called ≡ l.fn.self.called) × (l.self.events ≡ l.fn.self.events)
    × (l.self.places ≡ l.fn.self.places) × (l.self.listener ≡ l.fn.self.listener)
    × (IsSome l.fn.self.newcomer → l.self.newcomer ≡ l.fn.self.newcomer)
