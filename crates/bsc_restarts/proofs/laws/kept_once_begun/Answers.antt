-- The store of a station that has begun again has all of it.
use Rattle.bsc_restarts.proofs.Begun.{control_kept_begun, known_once_begun, terminal_kept_begun}
use Rattle.bsc_restarts.proofs.laws.kept_once_begun.Goals as goal

pub returns : goal.returns
returns g c = record {
  terminal = terminal_kept_begun c.begins_after_crash.ensures.terminal;
  control = control_kept_begun c.begins_after_crash.ensures.control;
  known = known_once_begun;
}
