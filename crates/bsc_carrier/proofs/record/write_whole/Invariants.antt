-- The loop invariant of `write_whole`, and why the loop ends.
use Rattle.std.proofs.Common.{◌≡◌, ℕ, ◌≤◌, length, take, drop}
use Rattle.std.specs.Io.KnownBytes.{Appends}
use Rattle.bsc_carrier.proofs.record.write_whole.Given as goal

-- The octets before the rest are written.
abbrev pub invariant-writes : goal.invariant-writes
invariant-writes g l =
    (n : ℕ) × (n ≤ length l.initial.rest) × (l.rest ≡ drop n l.initial.rest)
    × Appends (g.W.Write.contents l.initial.writer) (g.W.Write.contents l.writer)
    (take n l.initial.rest)

abbrev pub decreases-writes : goal.decreases-writes
decreases-writes g l = length l.rest
