-- A control station outlives its process.
use Rattle.bsc_restarts.proofs.ControlGrowth.{ControlGrows, control_acts, control_grows_itself}
use Rattle.bsc_restarts.proofs.ControlGrowth.{control_hears, side_grows}
use Rattle.bsc_restarts.proofs.Differing.{control_channels_differ}
use Rattle.bsc_restarts.proofs.Forgotten.{control_outlives_forgetting}
use Rattle.bsc_restarts.proofs.Moving.{moves}
use Rattle.bsc_restarts.proofs.Outliving.{followed_if, outlives}
use Rattle.bsc_restarts.proofs.Programs.{control_offers, control_releases, control_sets}
use Rattle.bsc_restarts.proofs.laws.control_outlives_crashes.Goals as goal

pub returns : goal.returns
returns g c terminals distinct is_fed =
    outlives _ _ _ _ g.K.Store _ _ _ _ _ _
    (λ old new event.
    let grows =
    moves _ _ ControlGrows control_grows_itself control_hears control_acts old new event
    in
    record { sent = side_grows old new grows; received = grows.received })
    control_outlives_forgetting
    (followed_if _ _ _ g.K.Store _ _ _ is_fed
    (record {
      offers = λ has given t way chars result old new before after offers.
          control_offers g.K.Store terminals distinct has given t way chars result old new before
          after offers.1;
      releases = λ t way count old new releases.
          let grows = control_releases old new t way count releases in
          record { sent = side_grows old new grows; received = grows.received };
      sets = λ has old new sets. control_sets has terminals old new sets;
    }))
    (control_channels_differ terminals distinct)
