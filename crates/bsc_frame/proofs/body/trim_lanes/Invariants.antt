-- The loop invariant of `trim_lanes`, and the number that its loop decreases.
use Rattle.std.proofs.Common.{◌≡◌, ◌≤◌, length, take}
use Rattle.bsc_frame.specs.Reading.{trimmed}
use Rattle.bsc_frame.proofs.body.trim_lanes.Given as goal

abbrev pub invariant-loop-end : goal.invariant-loop-end
invariant-loop-end l = record {
  within : l.end ≤ length l.octets;
  same : trimmed (take l.end l.octets) ≡ trimmed l.octets;
}

abbrev pub decreases-loop-end : goal.decreases-loop-end
decreases-loop-end l = l.end
