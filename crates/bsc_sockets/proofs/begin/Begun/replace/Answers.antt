use Rattle.std.proofs.Common.{rules, ◌≡◌, Some, slice_get, sym, subst}
use Rattle.bsc_sockets.specs.Beginning.{HasAdmitted}
use Rattle.bsc_sockets.specs.Standings.{after_joining, standings_value}
use Rattle.bsc_sockets.proofs.Admitted.{still_admitted}
use Rattle.bsc_sockets.proofs.begin.Begun.replace.Goals as goal

pub returns-clause-admitted : goal.returns-clause-admitted
returns-clause-admitted g c count before =
    let allowed = c.args.self.now.sockets.settings.allowed in
    let joined : standings_value c.next_connection.new.self.standings ≡ after_joining (Some c.in_ok-made.made.address) (standings_value c.args.self.now.sockets.standings) c.args.place (slice_get c.args.self.now.sockets.standings.places.items c.args.place) = search rules in
    subst (HasAdmitted allowed count) (sym joined)
    (still_admitted allowed c.in_ok-made.made.address (standings_value c.args.self.now.sockets.standings) c.args.place _ count (search rules) before)
