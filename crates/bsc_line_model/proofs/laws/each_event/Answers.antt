-- `each_event`: every event keeps the invariant of a line.
use Rattle.bsc_line_model.proofs.EachEvent.{new_line_stays, setups_kept_by_carry_down}
use Rattle.bsc_line_model.proofs.EachEvent.{setups_kept_by_carry_up, silence_stays}
use Rattle.bsc_line_model.proofs.EachEvent.{offer_at_stays, ready_stays, urgent_at_stays}
use Rattle.bsc_line_model.proofs.EachEvent.{release_from_stays, offer_for_stays, urgent_for_stays}
use Rattle.bsc_line_model.proofs.EachEvent.{polled_stays, release_to_stays}
use Rattle.bsc_line_model.proofs.TerminalRestarts.{restart_stays}
use Rattle.bsc_line_model.proofs.laws.each_event.Goals as goal

pub returns-clause-new_line : goal.returns-clause-new_line
returns-clause-new_line c = new_line_stays

pub returns-clause-down : goal.returns-clause-down
returns-clause-down c =
    setups_kept_by_carry_down
    (record {
      polling = c.own_addresses.ensures.polling;
      selection =
          c.own_addresses.ensures.selection;
    })
    c.bid_laws.ensures

pub returns-clause-up : goal.returns-clause-up
returns-clause-up c = setups_kept_by_carry_up c.bid_laws.ensures

pub returns-clause-silence : goal.returns-clause-silence
returns-clause-silence c = silence_stays c.bid_laws.ensures

pub returns-clause-offer_at : goal.returns-clause-offer_at
returns-clause-offer_at c = offer_at_stays c.bid_laws.ensures

pub returns-clause-ready : goal.returns-clause-ready
returns-clause-ready c = ready_stays

pub returns-clause-urgent_at : goal.returns-clause-urgent_at
returns-clause-urgent_at c = urgent_at_stays

pub returns-clause-release_from : goal.returns-clause-release_from
returns-clause-release_from c = release_from_stays c.bid_laws.ensures

pub returns-clause-offer_for : goal.returns-clause-offer_for
returns-clause-offer_for c = offer_for_stays c.bid_laws.ensures

pub returns-clause-urgent_for : goal.returns-clause-urgent_for
returns-clause-urgent_for c = urgent_for_stays

pub returns-clause-polled : goal.returns-clause-polled
returns-clause-polled c = polled_stays

pub returns-clause-release_to : goal.returns-clause-release_to
returns-clause-release_to c = release_to_stays c.bid_laws.ensures

pub returns-clause-restart : goal.returns-clause-restart
returns-clause-restart c = restart_stays c.bid_laws.ensures
