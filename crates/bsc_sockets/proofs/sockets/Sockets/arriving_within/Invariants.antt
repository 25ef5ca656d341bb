-- The loop invariant of `arriving_within`.
use Rattle.std.proofs.Common.{◌≡◌, IsSome}
use Rattle.bsc_sockets.specs.Calls.{KeepsCall}
use Rattle.bsc_sockets.specs.Stopping.{times_told}
use Rattle.bsc_sockets.proofs.sockets.Sockets.arriving_within.Given as goal

-- The settings, the times, the standings, the number of places and the listener stay as they were,
-- so does a newcomer and the time since the station was told, and it is told nothing. No call is
-- lost.
abbrev pub invariant-asks : goal.invariant-asks
invariant-asks g l =
    (l.self.settings ≡ l.fn.self.settings)
    × (times_told l.self.stopping ≡ times_told l.fn.self.stopping)
    × (l.self.times ≡ l.fn.self.times) × (l.self.standings ≡ l.fn.self.standings)
    × (l.self.places ≡ l.fn.self.places) × (l.self.listener ≡ l.fn.self.listener)
    × (IsSome l.fn.self.newcomer → l.self.newcomer ≡ l.fn.self.newcomer)
    × (times_told l.fn.self.stopping ≡ 1 → l.self.stopping ≡ l.fn.self.stopping)
    × KeepsCall l.fn.sought l.fn.self.called l.self.called
