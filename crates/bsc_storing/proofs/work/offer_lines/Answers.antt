-- Shows that exactly the lines of the text are offered, on the channel that the words name.
use Rattle.std.proofs.Common.{rules}
use Rattle.std.specs.Str.Lines.{lines}
use Rattle.bsc_spool.specs.declared.channel.Channel.{Channel}
use Rattle.bsc_bid.specs.declared.channel.ChannelName.{ChannelName}
use Rattle.bsc_storing.specs.declared.error.StoringError.TheVariants.{NoChannel}
use Rattle.bsc_storing.proofs.OfferedLines.{named_is, offers_all}
use Rattle.bsc_storing.proofs.work.offer_lines.Goals as goal

pub returns : goal.returns
returns g c =
    let its : ChannelName × Channel = (c.in_ok-name.name, c.in_ok-name.channel) in
    offers_all g.S.Store c.args.line.now c.args.channel c.in_ok-records.records.items
    (lines c.args.text.now) its c.args.store.now c.keep_offers.new.store
    (g.W.Write.contents c.args.out.now) (g.W.Write.contents c.tell.new.out) c.len-count.result
    (named_is c.args.line.now c.args.channel c.sending.result its NoChannel c.sending.ensures
    c.in_ok-name.ensures)
    c.in_ok-records.ensures (search rules) c.in_ok-keep_offers.ensures.offered c.in_ok-tell.ensures
