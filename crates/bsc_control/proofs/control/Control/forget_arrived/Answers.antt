-- `forget_arrived` leaves a control station, with another spool.
use Rattle.std.proofs.Common.{◌<◌, length, sym, ◌∙◌, ap}
use Rattle.bsc_bid.specs.Addresses.{numbered}
use Rattle.bsc_control.proofs.Reached.{peer_reached}
use Rattle.bsc_control.proofs.Recalling.{spool_reached}
use Rattle.bsc_control.proofs.control.Control.forget_arrived.Goals as goal

pub invariant_of-self : goal.invariant_of-self
invariant_of-self g c =
    let within : c.args.terminal < length c.self.inside.procedure.peers =
    rw c.self.view_is c.requires.terminal in
    let peer =
    peer_reached c.procedure.view_is within c.peer.view_is c.index_mut-peer.ensures.value in
    let stays = spool_reached c.forget.new.self c.self.invariant.0 peer in
    (stays.control, c.self.invariant.1 ∙ ap (numbered 0) (sym stays.same))

pub returns-clause-control : goal.returns-clause-control
returns-clause-control g c = (invariant_of-self g c).0
