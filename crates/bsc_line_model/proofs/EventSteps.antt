-- What each event does to the channels, accepted or refused.
use Rattle.std.proofs.Common.{IsTrue, Result, Ok, Err, subst}
use Rattle.bsc_line_model.specs.declared.error.LineError.{LineError}
use Rattle.bsc_line_model.specs.declared.event.Event.{Event}
use Rattle.bsc_line_model.specs.Line.{LineValue}
use Rattle.bsc_line_model.specs.Runs.{Does}
use Rattle.bsc_line_model.specs.Kept.{IsLine}
use Rattle.bsc_line_model.specs.BidLaws.{BidLaws}
use Rattle.bsc_line_model.specs.StepLaws.{StepsAs, EachEventSteps}
use Rattle.bsc_line_model.proofs.EventMoves.{event_moves}
use Rattle.bsc_line_model.proofs.OfferedGrows.{grows_by_offers}
use Rattle.bsc_line_model.proofs.Refusals.{nothing_changed, was_trusted}

event_step : (laws : BidLaws) (event : Event) (old new : LineValue)
    (result : Result (Unit {0}) LineError) → IsLine old → Does event old result new
    → StepsAs event old result new
event_step laws event old new (Ok done) line d = record {
  offered = grows_by_offers event old new line d;
  moves = event_moves laws event old new line d;
  trust = was_trusted event old new d;
  refused = tt;
}
event_step laws event old new (Err why) line d = record {
  offered = tt;
  moves = tt;
  trust = subst (λ (l : LineValue). IsTrue l.trusted) (nothing_changed event old new why d);
  refused = nothing_changed event old new why d;
}

pub event_steps : (laws : BidLaws) → EachEventSteps
event_steps laws old line event new result d = event_step laws event old new result line d
