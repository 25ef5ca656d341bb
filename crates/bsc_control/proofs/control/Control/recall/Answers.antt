-- `recall` leaves a control station, at rest as before.
use Rattle.std.proofs.Common.{◌≡◌, ◌<◌, length, sym, ◌∙◌, ap}
use Rattle.bsc_bid.specs.Addresses.{numbered}
use Rattle.bsc_control.specs.declared.task.Task.TheVariants.{AtRest}
use Rattle.bsc_control.specs.Control.{ControlValue, peer_at}
use Rattle.bsc_control.proofs.Entries.{peer_with_outbound, entries_with_peer}
use Rattle.bsc_control.proofs.Reached.{peer_reached, outbound_reached}
use Rattle.bsc_control.proofs.Recalling.{KeepsRest, recalled_reached}
use Rattle.bsc_control.proofs.control.Control.recall.Goals as goal

pub invariant_of-procedure : goal.invariant_of-procedure
invariant_of-procedure g c =
    let peer =
    peer_with_outbound _ c.args.select c.recall.new.self c.recall.ensures.outbound
    c.peer.invariant in
    entries_with_peer _ c.args.terminal _ peer c.procedure.invariant

pub invariant_of-self-2 : goal.invariant_of-self-2
invariant_of-self-2 g c =
    let within : c.args.terminal < length c.self.inside.procedure.peers =
    rw c.self.view_is c.requires.terminal in
    let there : c.args.select < length (peer_at c.self.inside.procedure c.args.terminal).outbounds =
    rw c.self.view_is c.requires.select in
    let peer =
    peer_reached c.procedure.view_is within c.peer.view_is c.index_mut-peer.ensures.value in
    let reached = outbound_reached peer there c.index_mut-side.ensures.value in
    let rest : c.self.inside.procedure.task ≡ AtRest =
    sym (ap (λ (x : ControlValue). x.task) c.procedure.view_is) ∙ c.in-AtRest.is in
    let keeps : KeepsRest c.index_mut-side.result.now c.recall.new.self =
    record {
      rests = c.recall.ensures.rests;
      setup = c.recall.ensures.setup;
      format = c.recall.ensures.format;
    } in
    let stays =
    recalled_reached c.self.invariant.0 rest reached c.recall.ensures.outbound keeps in
    (stays.control, c.self.invariant.1 ∙ ap (numbered 0) (sym stays.same))

pub returns-clause-control : goal.returns-clause-control
returns-clause-control g c = (invariant_of-self-2 g c).0
