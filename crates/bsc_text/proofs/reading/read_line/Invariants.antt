-- What was read is the line so far, which has no line feed, and each iteration makes it longer.
use Rattle.std.proofs.Common.{◌≤◌, ◌-◌, length}
use Rattle.std.specs.Io.KnownBytes.{Consumes}
use Rattle.bsc_text.specs.Reading.{HasNoFeed}
use Rattle.bsc_text.proofs.reading.read_line.Given as goal

abbrev pub invariant-parts : goal.invariant-parts
invariant-parts g l = record {
  taken : Consumes (g.B.Read.remaining l.fn.reader) (g.B.Read.remaining l.reader) l.line.items;
  feedless : HasNoFeed l.line.items;
  fits : length l.line.items ≤ 1048576;
}

abbrev pub decreases-parts : goal.decreases-parts
decreases-parts g l = 1048576 - length l.line.items
