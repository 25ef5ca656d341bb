-- A call is missed in each of the items so far.
use Rattle.bsc_line_model.specs.Hearing.{heard_at}
use Rattle.bsc_line_model.specs.Trust.{EachOf, IsMissed}
use Rattle.bsc_line.proofs.trust.each_misses.Given as goal

abbrev pub invariant-loop-place : goal.invariant-loop-place
invariant-loop-place l = EachOf l.place (λ t. IsMissed (heard_at l.items t))
