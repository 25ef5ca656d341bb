-- The input read so far is within the limit, and each iteration leaves less room below it.
use Rattle.std.proofs.Common.{◌≤◌, ◌-◌, length}
use Rattle.std.specs.Io.KnownBytes.{Consumes}
use Rattle.bsc_text.proofs.input.read_input.Given as goal

abbrev pub invariant-reads : goal.invariant-reads
invariant-reads g l = record {
  fits : length l.input.items ≤ 1048576;
  taken : Consumes (g.R.Read.remaining l.initial.reader) (g.R.Read.remaining l.reader)
      l.input.items;
}

abbrev pub decreases-reads : goal.decreases-reads
decreases-reads g l = 1048576 - length l.input.items
