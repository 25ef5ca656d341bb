-- Of the places so far there is nothing to tell.
use Rattle.bsc_feed.specs.News.{AreQuiet}
use Rattle.bsc_feed.proofs.news.first_news.Given as goal

abbrev pub invariant-places : goal.invariant-places
invariant-places g l = AreQuiet g.P.Party l.station l.next l.from l.place
