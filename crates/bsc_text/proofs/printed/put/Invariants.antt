-- The octets before the rest are written.
use Rattle.std.proofs.Common.{◌≡◌, ◌++◌, ℕ, List}
use Rattle.std.specs.Io.KnownBytes.{Appends}
use Rattle.bsc_text.proofs.printed.put.Given as goal

abbrev pub invariant-writes : goal.invariant-writes
invariant-writes g l =
    (done : List ℕ) × (l.initial.rest ≡ done ++ l.rest)
    × Appends (g.W.Write.contents l.initial.out) (g.W.Write.contents l.out) done
