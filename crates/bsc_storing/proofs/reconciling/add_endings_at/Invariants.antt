-- The counts of the channels at the places so far are compared.
use Rattle.bsc_storing.specs.Endings.{AddsPlaces}
use Rattle.bsc_storing.proofs.reconciling.add_endings_at.Given as goal

abbrev pub invariant-places : goal.invariant-places
invariant-places g l =
    AddsPlaces g.S.Store g.T.Store l.line l.other l.terminal l.place
    (l.initial.step.items, (l.initial.outcome.ended.items, l.initial.outcome.unfit.items))
    (l.step.items, (l.outcome.ended.items, l.outcome.unfit.items))
    l.initial.sender l.sender l.initial.receiver l.receiver
