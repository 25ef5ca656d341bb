-- `select` is the step that calls a selection address.
use Rattle.std.proofs.Common.{false, ◌<◌, length, sym, subst}
use Rattle.bsc_control.specs.Control.{ControlValue}
use Rattle.bsc_control.proofs.Entries.{peer_with_flag, entries_with_peer}
use Rattle.bsc_control.proofs.Present.{select_reached, selection_address_is_called}
use Rattle.bsc_control.proofs.Reached.{peer_reached}
use Rattle.bsc_control.proofs.procedure.Procedure.select.Goals as goal

pub invariant_of-peer : goal.invariant_of-peer
invariant_of-peer g c = peer_with_flag _ false c.peer.invariant

pub invariant_of-self : goal.invariant_of-self
invariant_of-self g c =
    let peer = peer_with_flag _ false c.peer.invariant in
    let entries = entries_with_peer _ c.terminal_of-terminal.result _ peer c.self.invariant in
    let place =
    subst (λ (x : ControlValue). c.args.place < length x.poll_list) (sym c.self.view_is) c.requires.place in
    record { place = place; entries = entries.entries; peers = entries.peers }

pub select-requires : goal.select-requires
select-requires g c =
    let terminal = c.terminal_of-terminal.ensures in
    let reached =
    peer_reached c.self.view_is terminal.there c.peer.view_is c.index_mut-peer.ensures.value in
    select_reached _ _ _ _ c.args.select _ reached terminal.value c.requires.select
    c.peer.invariant

pub returns-clause-row : goal.returns-clause-row
returns-clause-row g c =
    let terminal = c.terminal_of-terminal.ensures in
    let reached =
    peer_reached c.self.view_is terminal.there c.peer.view_is c.index_mut-peer.ensures.value in
    let there =
    select_reached _ _ _ _ c.args.select _ reached terminal.value c.requires.select
    c.peer.invariant in
    rw c.set_call.ensures
    (selection_address_is_called _ _ _ c.args.place c.args.select _ c.select.result reached
    terminal.value there c.select.ensures)

pub returns-clause-entries : goal.returns-clause-entries
returns-clause-entries g c = invariant_of-self g c
