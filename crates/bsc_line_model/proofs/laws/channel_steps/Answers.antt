-- `channel_steps`: each accepted event moves the channels as its row says.
use Rattle.bsc_line_model.proofs.EventMoves.{event_moves}
use Rattle.bsc_line_model.proofs.laws.channel_steps.Goals as goal

pub returns : goal.returns
returns c = event_moves c.bid_laws.ensures
