-- The connections at the places so far were told.
use Rattle.bsc_attending.specs.Ending.{JoinsFirst}
use Rattle.bsc_attending.specs.Framings.{NamesAddress}
use Rattle.bsc_attending.proofs.live.Live.joined_by.Given as goal

abbrev pub invariant-places : goal.invariant-places
invariant-places g l =
    JoinsFirst (λ place. NamesAddress (g.T.Waiter.names l.self.waiter place)) l.place
    l.initial.trust l.trust
