-- The lines of the text are the records read so far and the lines of the rest, which becomes
-- shorter.
use Rattle.std.proofs.Common.{◌≡◌, ◌≤◌, ◌+◌, ◌++◌, length}
use Rattle.std.specs.Str.Lines.{lines}
use Rattle.bsc_block.specs.Blocks.{AreShort}
use Rattle.bsc_station.specs.Offers.{AreRecords}
use Rattle.bsc_station.proofs.offers.read_records.Given as goal

abbrev pub invariant-lines : goal.invariant-lines
invariant-lines g l = record {
  whole : lines l.text ≡ l.records.items ++ lines l.left;
  counted : l.number ≡ length l.records.items;
  records : AreRecords l.full l.records.items;
  short : AreShort l.full l.records.items;
  fits : l.number + length l.left ≤ length l.text;
}

abbrev pub decreases-lines : goal.decreases-lines
decreases-lines g l = length l.left
