-- The loop invariant of `unpack`.
use Rattle.std.proofs.Common.{◌≡◌, ◌≤◌, length, map, take}
use Rattle.std.specs.List.{AllByRecursion}
use Rattle.bsc_block.specs.Records.{IsRecord}
use Rattle.bsc_block.specs.Blocks.{records_in}
use Rattle.bsc_block.proofs.block.unpack.Given as goal

abbrev pub invariant-loop-place : goal.invariant-loop-place
invariant-loop-place l = record {
  few : length l.records.items ≤ l.place;
  records : map (λ r. r.now) l.records.items ≡ records_in (take l.place l.text.units);
  each : AllByRecursion (λ r. IsRecord r.now) l.records.items;
}
