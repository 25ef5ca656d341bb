-- `release_to` releases the control station's doubt, and keeps the line's invariant.
use Rattle.std.proofs.Common.{◌≡◌, ◌<◌, ℕ, List, length, sym, ◌∙◌, ap, subst}
use Rattle.bsc_spool.specs.Spool.{SpoolValue}
use Rattle.bsc_tributary.specs.Tributary.{TributaryValue, spool_at}
use Rattle.bsc_control.specs.Control.{ControlValue, peer_at, with_peer}
use Rattle.bsc_control.specs.Peer.{PeerValue, outbound_at, with_outbound, outbound_released}
use Rattle.bsc_line_model.specs.Line.{LineValue, line_of, terminal_in, terminal_count}
use Rattle.bsc_line_model.specs.Offers.{select_count, count_to}
use Rattle.bsc_line_model.proofs.Carrying.{is_terminal}
use Rattle.bsc_line.proofs.line.Line.release_to.Goals as goal

pub invariant_of-self : goal.invariant_of-self
invariant_of-self g c =
    let control : ControlValue = c.self.inside.control in
    let ts : List TributaryValue = c.self.inside.terminals.items in
    let t : ℕ = c.args.terminal in
    let s : ℕ = c.args.select in
    let p : PeerValue = peer_at control t in
    let old : LineValue =
    line_of c.self.inside.control c.self.inside.terminals.items c.self.inside.sent
    c.self.inside.trusted c.self.inside.addressed in
    let less : t < length ts =
    subst (λ (l : LineValue). t < terminal_count l) (sym c.self.view_is) c.requires.terminal in
    let way : s < length (terminal_in ts t).terminal.selects =
    subst (λ (l : LineValue). s < select_count l t) (sym c.self.view_is) c.requires.select in
    let here : terminal_in ts t ≡ c.index-station.result.now =
    is_terminal ts t c.index-station.result.now less c.index-station.ensures in
    let stored : c.records.result.now.items ≡ (spool_at (terminal_in ts t).spools s).records =
    c.records.ensures ∙ ap (λ (z : SpoolValue). z.records) c.spool.ensures.value
    ∙ ap (λ (y : TributaryValue). (spool_at y.spools s).records) (sym here) in
    let becomes : c.release.new.self ≡ with_peer control t
    (with_outbound p s (outbound_released (outbound_at p s) (count_to old t s))) =
    c.release.ensures.state
    ∙ ap (λ (n : ℕ). with_peer control t
    (with_outbound p s (outbound_released (outbound_at p s) n))) c.len-count.ensures
    ∙ ap (λ (xs : List (List ℕ)). with_peer control t
    (with_outbound p s (outbound_released (outbound_at p s) (length xs)))) stored in
    c.each_event.ensures.release_to old t s c.release.new.self c.self.invariant less way
    c.release.ensures.control becomes

pub returns-clause-line : goal.returns-clause-line
returns-clause-line g c = invariant_of-self g c
