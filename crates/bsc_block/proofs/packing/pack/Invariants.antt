-- The loop invariant of `pack`.
use Rattle.std.proofs.Common.{◌≡◌, ◌≤◌, drop}
use Rattle.bsc_block.specs.Blocks.{front_cost}
use Rattle.bsc_block.proofs.packing.pack.Given as goal
use Rattle.bsc_frame.specs.declared.limits.TheConstants.{MAX_UNITS}

abbrev pub invariant-loop-count : goal.invariant-loop-count
invariant-loop-count g l = record {
  few : l.count ≤ MAX_UNITS;
  total : l.total ≡ front_cost l.format l.count (drop l.from l.records.items);
  fits : l.total ≤ l.limit;
}
