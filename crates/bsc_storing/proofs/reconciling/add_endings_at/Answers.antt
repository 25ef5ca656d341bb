-- Shows that the counts of the channel at one more place are compared.
use Rattle.std.proofs.Common.{add-one, subst}
use Rattle.bsc_bid.specs.declared.channel.ChannelName.{ChannelName}
use Rattle.bsc_storing.specs.Endings.{AddsIfAny}
use Rattle.bsc_storing.proofs.reconciling.add_endings_at.Goals as goal

pub places-preserved : goal.places-preserved
places-preserved g c =
    let adds = subst
    (λ (name : ChannelName). AddsIfAny g.S.Store g.T.Store c.args.line.now c.args.other.now name
    (c.places.step.items, (c.places.outcome.ended.items, c.places.outcome.unfit.items))
    (c.add_ending.new.step.items, (c.add_ending.new.outcome.ended.items, c.add_ending.new.outcome.unfit.items)) c.places.sender
    c.add_ending.new.sender c.places.receiver c.add_ending.new.receiver)
    c.name_at-name.ensures c.in_ok-add_ending.ensures in
    rw add-one (
      (c.places.step.items, (c.places.outcome.ended.items, c.places.outcome.unfit.items)),
      c.places.sender,
      c.places.receiver,
      c.places.invariant,
      adds,
    )
