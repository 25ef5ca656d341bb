-- `way_from` returns the first selectable address, or the polling address.
use Rattle.std.proofs.Common.{drop, ap, ◌∙◌}
use Rattle.std.proofs.lemmas.List.{take_rest}
use Rattle.std.specs.Prelude.{position}
use Rattle.bsc_control.specs.CallOrder.{way_at, way_from}
use Rattle.bsc_control.specs.Peer.{is_selectable}
use Rattle.bsc_control.proofs.peer.Peer.way_from.Goals as goal

pub returns-in-Some : goal.returns-in-Some
returns-in-Some g c =
    let from = c.args.from in
    let rest = take_rest c.deref.result.now from in
    ap (way_at from) (c.in-Some.ensures ∙ ap (position is_selectable) rest)
    ∙ ap (λ l. way_at from (position is_selectable (drop from l))) c.deref.ensures.value
    ∙ ap (λ p. way_from p from) c.self.view_is

pub returns-in-None : goal.returns-in-None
returns-in-None g c =
    let from = c.args.from in
    let rest = take_rest c.deref.result.now from in
    ap (way_at from) (c.in-None.ensures ∙ ap (position is_selectable) rest)
    ∙ ap (λ l. way_at from (position is_selectable (drop from l))) c.deref.ensures.value
    ∙ ap (λ p. way_from p from) c.self.view_is
