-- `new_channels`: the channels of a new line are empty.
use Rattle.bsc_line_model.proofs.NewChannels.{new_channels}
use Rattle.bsc_line_model.proofs.laws.new_channels.Goals as goal

pub returns : goal.returns
returns c = new_channels
