-- Each of the items so far is heard as the message.
use Rattle.bsc_line_model.specs.Hearing.{heard_at}
use Rattle.bsc_line_model.specs.Trust.{AllHear}
use Rattle.bsc_line.proofs.trust.each_hears.Given as goal

abbrev pub invariant-loop-place : goal.invariant-loop-place
invariant-loop-place l = AllHear l.place (heard_at l.items) l.message
