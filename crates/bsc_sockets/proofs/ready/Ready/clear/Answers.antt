-- `clear` removes exactly the one place.
use Rattle.std.proofs.Common.{rules, ◌==◌, not}
use Rattle.std.proofs.lemmas.Fn.{filter_same}
use Rattle.bsc_sockets.proofs.ready.Ready.clear.Goals as goal

pub returns : goal.returns
returns g c =
    let left =
    filter_same _ (λ other. not (other == c.args.place)) _ (λ x b f' k. search rules) _ _
    c.retain.ensures.filtered in
    rw (← c.self.view_is) left
