-- The counts of the channels of the terminals so far are compared.
use Rattle.bsc_storing.specs.Endings.{AddsTerminals}
use Rattle.bsc_storing.proofs.reconciling.add_endings.Given as goal

abbrev pub invariant-terminals : goal.invariant-terminals
invariant-terminals g l =
    AddsTerminals g.S.Store g.T.Store l.line l.other l.terminal
    (l.initial.step.items, (l.initial.outcome.ended.items, l.initial.outcome.unfit.items))
    (l.step.items, (l.outcome.ended.items, l.outcome.unfit.items))
    l.initial.sender l.sender l.initial.receiver l.receiver
