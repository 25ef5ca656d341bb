-- An offer that fails changes nothing, so that the other queues are as they were.
use Rattle.std.proofs.Common.{◌∙◌}
use Rattle.bsc_control.specs.Kept.{outbound_of}
use Rattle.bsc_station.proofs.Offered.{own_queue_set}
use Rattle.bsc_station.proofs.offering.offer_for_terminal.Goals as goal

pub returns-in_err-offer_one-clause-others : goal.returns-in_err-offer_one-clause-others
returns-in_err-offer_one-clause-others g c =
    let old = c.args.control.now in
    let queue = (outbound_of old c.args.terminal c.args.select).queue in
    let same = c.in_err-offer_one.ensures.err in
    rw same (c.loop-record.invariant.others queue ∙ own_queue_set old c.args.terminal c.args.select)
