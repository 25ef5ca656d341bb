-- The entries so far have been counted.
use Rattle.std.proofs.Common.{◌≡◌, ◌<◌, ◌+◌, ◌^◌, ℕ, false, length, get_or}
use Rattle.bsc_bid.specs.declared.limits.TheConstants.{MAX_TERMINALS}
use Rattle.bsc_line_model.specs.Rounds.{entries_length, round_length, is_seen}
use Rattle.bsc_line.specs.Counts.{in_u64}
use Rattle.bsc_line.proofs.Lengths.{polled_from, seen_before}
use Rattle.bsc_line.proofs.line.Line.round.Given as goal

-- the terminals that were visited are marked, and the total so far and the remaining entries make
-- the whole
abbrev pub invariant-loop-entry : goal.invariant-loop-entry
invariant-loop-entry g l = record {
  fits : l.total < 2 ^ 64;
  sized : length l.seen ≡ MAX_TERMINALS;
  seen : (t : ℕ) → t < MAX_TERMINALS → get_or l.seen t false
      ≡ is_seen t (seen_before l.self.control.poll_list l.entry-index);
  total : in_u64 (l.total + entries_length l.self
      (seen_before l.self.control.poll_list l.entry-index)
      (polled_from l.self l.self.control.poll_list l.entry-index)) ≡ in_u64 (round_length l.self);
}
