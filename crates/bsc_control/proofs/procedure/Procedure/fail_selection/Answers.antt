-- `fail_selection` is the row of a silence after a selection.
use Rattle.std.proofs.Common.{◌<◌, length, sym, ap, ◌∙◌, subst}
use Rattle.bsc_control.specs.Control.{ControlValue, current}
use Rattle.bsc_control.specs.Table.{repeated}
use Rattle.bsc_control.proofs.Present.{select_reached, next_call_after_last_try, tried_again}
use Rattle.bsc_control.proofs.Present.{call_again}
use Rattle.bsc_control.proofs.Reached.{peer_reached}
use Rattle.bsc_control.proofs.procedure.Procedure.fail_selection.Goals as goal

pub invariant_of-self : goal.invariant_of-self
invariant_of-self g c =
    let kept = c.self.invariant in
    record { place = kept.place; entries = kept.entries; peers = kept.peers }

pub invariant_of-self-2 : goal.invariant_of-self-2
invariant_of-self-2 g c =
    let kept = c.self.invariant in
    record { place = kept.place; entries = kept.entries; peers = kept.peers }

pub invariant_of-self-3 : goal.invariant_of-self-3
invariant_of-self-3 g c =
    let kept = c.self.invariant in
    record { place = kept.place; entries = kept.entries; peers = kept.peers }

pub returns-then-self-tries-clause-row : goal.returns-then-self-tries-clause-row
returns-then-self-tries-clause-row g c =
    let tries = c.tries.ensures.value ∙ ap (λ (x : ControlValue). x.setup.tries) c.self.view_is in
    let failures = ap (λ (x : ControlValue). x.failures) c.self.view_is in
    c.call_after_selection.ensures.row
    ∙ next_call_after_last_try c.args.self.now _ _ c.args.select c.args.enquired tries failures
    c.if-self-tries.true

pub returns-then-enquired-clause-row : goal.returns-then-enquired-clause-row
returns-then-enquired-clause-row g c =
    let tries = c.tries.ensures.value ∙ ap (λ (x : ControlValue). x.setup.tries) c.self.view_is in
    rw c.set_enq.ensures
    (tried_again c.args.self.now _ _ c.args.select c.args.enquired _ c.self.view_is tries
    c.if-self-tries.false
    (sym (ap (repeated c.args.self.now c.args.select) c.if-enquired.true)))

pub select-requires : goal.select-requires
select-requires g c =
    let terminal = c.current-terminal.ensures in
    let within =
    subst (λ (x : ControlValue). c.current-terminal.result < length x.peers) c.self.view_is
    terminal.there in
    let reached = peer_reached c.self.view_is within c.peer.view_is c.index-peer.ensures in
    select_reached _ _ _ _ c.args.select _ reached (terminal.value ∙ ap current c.self.view_is)
    c.requires c.peer.invariant

pub returns-clause-row : goal.returns-clause-row
returns-clause-row g c =
    let terminal = c.current-terminal.ensures in
    let within =
    subst (λ (x : ControlValue). c.current-terminal.result < length x.peers) c.self.view_is
    terminal.there in
    let reached = peer_reached c.self.view_is within c.peer.view_is c.index-peer.ensures in
    let present = terminal.value ∙ ap current c.self.view_is in
    let there =
    select_reached _ _ _ _ c.args.select _ reached present c.requires c.peer.invariant in
    let tries = c.tries.ensures.value ∙ ap (λ (x : ControlValue). x.setup.tries) c.self.view_is in
    rw c.set_call.ensures
    (tried_again c.args.self.now _ _ c.args.select c.args.enquired _ c.self.view_is tries
    c.if-self-tries.false
    (call_again c.args.self.now _ _ c.args.select _ c.args.enquired _ reached present
    c.if-enquired.false there c.select.ensures))
