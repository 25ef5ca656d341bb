-- `poll` is the step that calls a polling address.
use Rattle.std.proofs.Common.{◌<◌, length, sym, subst}
use Rattle.bsc_control.specs.Control.{ControlValue}
use Rattle.bsc_control.proofs.Entries.{peer_with_receiver, entries_with_peer}
use Rattle.bsc_control.proofs.Present.{polling_address_is_called}
use Rattle.bsc_control.proofs.Reached.{peer_reached}
use Rattle.bsc_control.proofs.procedure.Procedure.poll.Goals as goal

pub invariant_of-peer : goal.invariant_of-peer
invariant_of-peer g c = peer_with_receiver _ c.begin.new.self c.peer.invariant

pub invariant_of-self : goal.invariant_of-self
invariant_of-self g c =
    let peer = peer_with_receiver _ c.begin.new.self c.peer.invariant in
    let entries = entries_with_peer _ c.terminal_of-terminal.result _ peer c.self.invariant in
    let place =
    subst (λ (x : ControlValue). c.args.place < length x.poll_list) (sym c.self.view_is) c.requires in
    record { place = place; entries = entries.entries; peers = entries.peers }

pub returns-clause-row : goal.returns-clause-row
returns-clause-row g c =
    let terminal = c.terminal_of-terminal.ensures in
    let reached =
    peer_reached c.self.view_is terminal.there c.peer.view_is c.index_mut-peer.ensures.value in
    rw c.set_call.ensures
    (polling_address_is_called _ _ _ c.args.place c.args.failures _ c.begin.new.self c.poll.result
    reached terminal.value c.begin.ensures.state c.poll.ensures)

pub returns-clause-entries : goal.returns-clause-entries
returns-clause-entries g c = invariant_of-self g c
