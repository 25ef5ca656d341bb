-- The terminals so far have heard.
use Rattle.std.proofs.Common.{◌≡◌}
use Rattle.bsc_line.specs.Hearings.{hearing_of}
use Rattle.bsc_line_model.specs.Terminals.{first_answer}
use Rattle.bsc_line.proofs.EachHearing.{HaveHeard}
use Rattle.bsc_line.proofs.terminals.hear_all.Given as goal

abbrev pub invariant-loop-i : goal.invariant-loop-i
invariant-loop-i g l = record {
  heard : HaveHeard l.fn.terminals (hearing_of l.hearings) l.terminals l.i;
  first : l.first ≡ first_answer l.fn.terminals (hearing_of l.hearings) l.terminals l.i;
}
