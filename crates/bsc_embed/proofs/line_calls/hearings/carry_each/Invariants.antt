-- The pieces so far are cut.
use Rattle.bsc_embed.proofs.Cutting.{IsCutTo}
use Rattle.bsc_embed.proofs.line_calls.hearings.carry_each.Given as goal

abbrev pub invariant-loop-place : goal.invariant-loop-place
invariant-loop-place l = IsCutTo l.octets l.lengths l.items l.rest l.place
