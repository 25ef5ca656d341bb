-- `line_holder`: which terminal holds a trusted line, and that no count mismatches.
use Rattle.bsc_line_model.proofs.Holding.{holds_polled, never_mismatches}
use Rattle.bsc_line_model.proofs.HoldingRuns.{runs_hold_only_while_polled}
use Rattle.bsc_line_model.proofs.RestartExamples.{needs_no_restart}
use Rattle.bsc_line_model.proofs.laws.line_holder.Goals as goal

pub returns : goal.returns
returns c = record {
  holder = holds_polled;
  since_new = runs_hold_only_while_polled c.bid_laws.ensures;
  needs_no_restart = needs_no_restart;
  count = never_mismatches c.bid_laws.ensures;
}
