-- `visit` returns the length of a visit.
use Rattle.std.proofs.Common.{◌≡◌, ◌≤◌, ◌+◌, ℕ, length, drop, sum_by, List, sym, ◌∙◌, ap, arith}
use Rattle.std.proofs.lemmas.List.{drop_all}
use Rattle.bsc_control.specs.Peer.{OutboundValue}
use Rattle.bsc_control.specs.Control.{peer_at}
use Rattle.bsc_line_model.specs.Line.{LineValue}
use Rattle.bsc_line.specs.Counts.{in_u64}
use Rattle.bsc_line.proofs.Lengths.{saturated_with_zero}
use Rattle.bsc_line.proofs.line.Line.visit.Goals as goal
use Rattle.bsc_line_model.specs.Rounds.{outbound_length}

pub returns-clause-value : goal.returns-clause-value
returns-clause-value g c =
    let os : List OutboundValue = (peer_at c.args.self.now.control c.args.terminal).outbounds in
    let count : c.addresses-select-end.result ≡ length os = c.addresses-select-end.ensures.value
    ∙ ap (λ (l : LineValue). length (peer_at l.control c.args.terminal).outbounds)
    c.self.view_is in
    let all : length os ≤ c.loop-select.select = omega (arith, count, c.loop-select-test.false) in
    let none : sum_by outbound_length (drop c.loop-select.select os) ≡ 0 =
    ap (λ (xs : List OutboundValue). sum_by outbound_length xs)
    (drop_all c.loop-select.select os all) in
    sym (saturated_with_zero c.loop-select.total c.loop-select.invariant.fits)
    ∙ ap (λ (n : ℕ). in_u64 (c.loop-select.total + n)) (sym none)
    ∙ c.loop-select.invariant.total
