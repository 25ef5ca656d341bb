-- `forget_sent` leaves a control station: the same records wait as before.
use Rattle.std.proofs.Common.{◌<◌, length, sym, ◌∙◌, ap}
use Rattle.bsc_bid.specs.Addresses.{numbered}
use Rattle.bsc_control.specs.Control.{peer_at}
use Rattle.bsc_control.proofs.Controls.{keeps_outbound_forget}
use Rattle.bsc_control.proofs.Reached.{peer_reached, outbound_reached, stays_reached}
use Rattle.bsc_control.proofs.control.Control.forget_sent.Goals as goal

pub invariant_of-self : goal.invariant_of-self
invariant_of-self g c =
    let within : c.args.terminal < length c.self.inside.procedure.peers =
    rw c.self.view_is c.requires.terminal in
    let there : c.args.select < length (peer_at c.self.inside.procedure c.args.terminal).outbounds =
    rw c.self.view_is c.requires.select in
    let peer =
    peer_reached c.procedure.view_is within c.peer.view_is c.index_mut-peer.ensures.value in
    let reached = outbound_reached peer there c.index_mut-outbound.ensures.value in
    let keeps =
    keeps_outbound_forget c.index_mut-outbound.result.now c.forget.new.self c.args.count
    c.forget.ensures.state c.forget.ensures.waits in
    let stays = stays_reached c.self.invariant.0 reached c.forget.ensures.outbound keeps in
    (stays.control, c.self.invariant.1 ∙ ap (numbered 0) (sym stays.same))

pub returns-clause-control : goal.returns-clause-control
returns-clause-control g c = (invariant_of-self g c).0
