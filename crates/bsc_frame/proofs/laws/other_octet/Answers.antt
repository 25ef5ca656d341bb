-- A text with one octet replaced by another of odd parity spells no message.
use Rattle.bsc_frame.proofs.ChangedText.{other_octet_lost}
use Rattle.bsc_frame.proofs.laws.other_octet.Goals as goal

pub returns : goal.returns
returns c = other_octet_lost
