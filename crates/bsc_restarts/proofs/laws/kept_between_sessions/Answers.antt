-- The store of a station has all of it between sessions.
use Rattle.bsc_restarts.proofs.Forgotten.{control_outlives_forgetting, terminal_outlives_forgetting}
use Rattle.bsc_restarts.proofs.Offers.{control_outlives_offers, terminal_outlives_offers}
use Rattle.bsc_restarts.proofs.Outliving.{outlives_keeping}
use Rattle.bsc_restarts.proofs.laws.kept_between_sessions.Goals as goal

pub returns : goal.returns
returns g c = record {
  terminal_forgets = terminal_outlives_forgetting;
  terminal_keeps = outlives_keeping _ _ _ g.K.Store;
  terminal_offers = terminal_outlives_offers g.K.Store;
  control_forgets = control_outlives_forgetting;
  control_keeps = outlives_keeping _ _ _ g.K.Store;
  control_offers = control_outlives_offers g.K.Store;
}
