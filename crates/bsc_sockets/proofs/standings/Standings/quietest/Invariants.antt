-- The loop invariant of `quietest`.
use Rattle.std.proofs.Common.{ℕ, ◌<◌}
use Rattle.bsc_sockets.specs.Standings.{IsNoQuieter, standings_value}
use Rattle.bsc_sockets.proofs.standings.Standings.quietest.Given as goal

-- No place so far is quieter than the best.
abbrev pub invariant-places : goal.invariant-places
invariant-places g l =
    (l.best < l.place)
    × ((other : ℕ) → other < l.place → IsNoQuieter (standings_value l.self) other l.best)
