-- There is a place for each peer, and what the next peer fails with, the peers that are waited for
-- fail with.
use Rattle.std.proofs.Common.{◌≡◌, ◌≤◌, ℕ, length, is_some, ◌∙◌, ap, arith}
use Rattle.std.proofs.lemmas.List.{length-replicate}
use Rattle.std.proofs.lemmas.Result.{err_from_is_err_and}
use Rattle.bsc_sockets.specs.Standings.{StandingsValue, new_standings, standings_value, unknown}
use Rattle.bsc_sockets.proofs.Faults.{listen_by_peer}
use Rattle.bsc_sockets.proofs.begin.listen.Goals as goal

places_for_all : (standings : StandingsValue) (count : ℕ) → standings ≡ new_standings count
    → count ≤ length standings.places
places_for_all standings count begun =
    let same : length standings.places ≡ count =
    ap (λ (s : StandingsValue). length s.places) begun ∙ length-replicate count unknown in
    omega (arith, same)

pub returns-clause-admitted : goal.returns-clause-admitted
returns-clause-admitted g c =
    rw c.in_ok-begun.ensures.settings at (c.in_ok-take_peers.ensures.admitted
    (places_for_all (standings_value c.in_ok-begun.begun.sockets.standings) c.args.peers.count
    c.in_ok-begun.ensures.strangers))

pub returns-in_err-take_peers-clause-failed : goal.returns-in_err-take_peers-clause-failed
returns-in_err-take_peers-clause-failed g c =
    let p = err_from_is_err_and c.from_residual-in_err-take_peers.result
    c.from_residual-in_err-take_peers.ensures.1 in
    rw (p.1, p.2) (listen_by_peer (is_some c.args.settings.stops_with) _
    c.in_err-take_peers.ensures.failed)
