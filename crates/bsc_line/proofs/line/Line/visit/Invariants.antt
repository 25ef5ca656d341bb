-- The selection addresses so far have been counted.
use Rattle.std.proofs.Common.{◌≡◌, ◌<◌, ◌+◌, ◌^◌, sum_by, drop}
use Rattle.bsc_control.specs.Control.{peer_at}
use Rattle.bsc_line_model.specs.Rounds.{visit_length, outbound_length}
use Rattle.bsc_line.specs.Counts.{in_u64}
use Rattle.bsc_line.proofs.line.Line.visit.Given as goal

-- the total so far and the remaining addresses make the whole
abbrev pub invariant-loop-select : goal.invariant-loop-select
invariant-loop-select g l = record {
  fits : l.total < 2 ^ 64;
  total : in_u64 (l.total + sum_by outbound_length
      (drop l.select (peer_at l.self.control l.terminal).outbounds))
      ≡ in_u64 (visit_length l.self l.terminal);
}
