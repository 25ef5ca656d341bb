-- `sound_channels`: each channel of a trusted line is sound.
use Rattle.bsc_line_model.proofs.Soundness.{sound_of_together}
use Rattle.bsc_line_model.proofs.laws.sound_channels.Goals as goal

pub returns : goal.returns
returns c = λ l is now. sound_of_together c.bid_laws.ensures l is.stations (is.together now)
