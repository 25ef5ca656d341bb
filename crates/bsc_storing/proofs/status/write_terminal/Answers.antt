-- Shows that the line of the channel at one more place is printed.
use Rattle.std.proofs.Common.{add-one, subst}
use Rattle.bsc_bid.specs.declared.channel.ChannelName.{ChannelName}
use Rattle.bsc_storing.specs.Lines.{ShowsChannel}
use Rattle.bsc_storing.proofs.status.write_terminal.Goals as goal

pub places-preserved : goal.places-preserved
places-preserved g c =
    let before = g.W.Write.contents c.places.out in
    let after = g.W.Write.contents c.write_channel.new.out in
    let shown = subst
    (λ (name : ChannelName). ShowsChannel g.S.Store c.args.line.now name c.places.store
    c.write_channel.new.store before after)
    c.name_at.ensures c.in_ok-write_channel.ensures in
    rw add-one (c.places.store, before, c.places.invariant, shown)
