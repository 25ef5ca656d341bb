-- A station that is filled from a store that has all of it is that station after a restart.
use Rattle.bsc_restarts.proofs.Controls.{control_begins}
use Rattle.bsc_restarts.proofs.Terminals.{terminal_begins}
use Rattle.bsc_restarts.proofs.laws.begun_again.Goals as goal

pub returns : goal.returns
returns c = record {
  terminal = terminal_begins c.recalls.ensures.restart;
  control = control_begins c.recalls.ensures.restart c.made_again.ensures.new;
}
