-- The loop invariant of `blocks`, and why the loop ends.
use Rattle.std.proofs.Common.{◌≡◌, ◌≤◌, ◌+◌, ◌-◌, length, drop}
use Rattle.bsc_block.specs.Blocks.{blocks}
use Rattle.bsc_spool.proofs.queue.Queue.blocks.Given as goal

abbrev pub invariant-loop-at : goal.invariant-loop-at
invariant-loop-at g l = record {
  inside : l.at ≤ length l.self.offered;
  few : l.count + l.self.known ≤ l.at;
  count : l.count + length (blocks l.self.format (drop l.at l.self.offered))
      ≡ length (blocks l.self.format (drop l.self.known l.self.offered));
}

abbrev pub decreases-loop-at : goal.decreases-loop-at
decreases-loop-at g l = length l.self.offered - l.at
