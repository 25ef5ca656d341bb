-- `event_steps`: what each event does to the channels.
use Rattle.bsc_line_model.proofs.EventSteps.{event_steps}
use Rattle.bsc_line_model.proofs.laws.event_steps.Goals as goal

pub returns : goal.returns
returns c = event_steps c.bid_laws.ensures
