-- A station that begins again from what a crash left is the one that it left.
use Rattle.bsc_restarts.proofs.WholeControls.{control_after_crash}
use Rattle.bsc_restarts.proofs.WholeTerminals.{terminal_after_crash}
use Rattle.bsc_restarts.proofs.laws.begins_after_crash.Goals as goal

pub returns : goal.returns
returns c = record {
  terminal = terminal_after_crash c.begun_again.ensures.terminal;
  control = control_after_crash c.begun_again.ensures.control;
}
