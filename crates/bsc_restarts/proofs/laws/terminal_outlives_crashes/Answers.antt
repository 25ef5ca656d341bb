-- A terminal outlives its process.
use Rattle.bsc_restarts.proofs.Differing.{terminal_channels_differ}
use Rattle.bsc_restarts.proofs.Forgotten.{terminal_outlives_forgetting}
use Rattle.bsc_restarts.proofs.Growing.{grows_if_knows}
use Rattle.bsc_restarts.proofs.Moving.{moves}
use Rattle.bsc_restarts.proofs.Outliving.{followed_if, outlives}
use Rattle.bsc_restarts.proofs.Programs.{terminal_offers, terminal_releases, terminal_sets}
use Rattle.bsc_restarts.proofs.TerminalGrowth.{TerminalGrows, terminal_acts, terminal_grows_itself}
use Rattle.bsc_restarts.proofs.TerminalGrowth.{terminal_hears}
use Rattle.bsc_restarts.proofs.laws.terminal_outlives_crashes.Goals as goal

pub returns : goal.returns
returns g c terminal distinct is_fed =
    outlives _ _ _ _ g.K.Store _ _ _ _ _ _
    (λ old new event.
    let grows =
    moves _ _ TerminalGrows terminal_grows_itself terminal_hears terminal_acts old new
    event in
    record {
      sent = λ t s.
          grows_if_knows old.tributary.sender new.tributary.sender old.tributary.queue
          new.tributary.queue grows.knows grows.there;
      received = grows.received;
    })
    terminal_outlives_forgetting
    (followed_if _ _ _ g.K.Store _ _ _ is_fed
    (record {
      offers = λ has given t way chars result old new before after offers.
          terminal_offers g.K.Store terminal distinct has given t way chars result old new before
          after offers.1;
      releases = λ t way count old new releases.
          let grows = terminal_releases old new count releases in
          record {
            sent = λ i j.
                grows_if_knows old.tributary.sender new.tributary.sender old.tributary.queue
                new.tributary.queue grows.knows grows.there;
            received = grows.received;
          };
      sets = λ has old new sets. terminal_sets has terminal old new sets;
    }))
    (terminal_channels_differ terminal distinct)
