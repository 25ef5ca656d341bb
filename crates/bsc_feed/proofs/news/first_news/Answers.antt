-- Shows that each place that was passed has nothing to tell.
use Rattle.std.proofs.Common.{arith, ◌<◌}
use Rattle.bsc_feed.proofs.Quiet.{quiet_more}
use Rattle.bsc_feed.proofs.news.first_news.Goals as goal

pub places-preserved : goal.places-preserved
places-preserved g c =
    quiet_more g.P.Party c.args.station.now c.args.next.now c.args.from c.places.place _
    c.news_at.result c.news_at.ensures c.in_default.not-Some c.places.invariant

pub returns : goal.returns
returns g c = λ place news low high has.
    let below : place < c.places.place = omega (arith, high, c.places-test.false) in
    c.places.invariant place news low below has
