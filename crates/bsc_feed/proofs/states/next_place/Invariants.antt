-- The places so far have no channel.
use Rattle.bsc_feed.specs.States.{AreEmpty}
use Rattle.bsc_feed.proofs.states.next_place.Given as goal

abbrev pub invariant-places : goal.invariant-places
invariant-places g l = AreEmpty g.P.Party l.station l.from l.place
