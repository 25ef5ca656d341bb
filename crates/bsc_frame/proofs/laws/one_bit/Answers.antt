-- What octets are heard as if one bit of one of them is turned.
use Rattle.bsc_frame.proofs.TurnedBits.{turned_spells, turned_failed, turned_noise}
use Rattle.bsc_frame.proofs.laws.one_bit.Goals as goal

pub returns-clause-spelled : goal.returns-clause-spelled
returns-clause-spelled c = turned_spells

pub returns-clause-failed : goal.returns-clause-failed
returns-clause-failed c = turned_failed

pub returns-clause-noise : goal.returns-clause-noise
returns-clause-noise c = turned_noise
