-- Each of the items so far is heard fairly.
use Rattle.bsc_bid.specs.Fair.{IsFairlyHeard}
use Rattle.bsc_line_model.specs.Hearing.{heard_at}
use Rattle.bsc_line_model.specs.Trust.{EachOf}
use Rattle.bsc_line.proofs.trust.each_is_fair.Given as goal

abbrev pub invariant-loop-place : goal.invariant-loop-place
invariant-loop-place l = EachOf l.place (λ t. IsFairlyHeard l.message (heard_at l.items t))
