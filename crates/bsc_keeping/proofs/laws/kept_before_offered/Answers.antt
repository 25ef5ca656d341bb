-- Neither what is to be kept of a channel nor what has arrived changes with an offer.
use Rattle.std.proofs.Common.{ap, length, refl}
use Rattle.std.proofs.lemmas.List.{length-set}
use Rattle.bsc_control.specs.Control.{peer_at}
use Rattle.bsc_control.specs.Peer.{offered_to}
use Rattle.bsc_keeping.proofs.OffersKept.{all_of_same, same_at_control, same_received, same_spool}
use Rattle.bsc_keeping.proofs.laws.kept_before_offered.Goals as goal

pub returns-clause-terminal : goal.returns-clause-terminal
returns-clause-terminal g c station terminal select chars old new has keeps =
    all_of_same _ _ g.K.Store g.M.Prints.printed station _ (λ t s. refl) (λ n. refl) old new
    keeps.sending keeps.receiving has

pub returns-clause-control : goal.returns-clause-control
returns-clause-control g c station terminal select chars old new has keeps =
    all_of_same _ _ g.K.Store g.M.Prints.printed station _
    (same_at_control station terminal select chars)
    (λ n. ap (λ rs. length rs) (same_received n _ _ _ _
    (length-set station.peers terminal (offered_to (peer_at station terminal) select chars))
    (same_spool station terminal select chars n)))
    old new keeps.sending keeps.receiving has
