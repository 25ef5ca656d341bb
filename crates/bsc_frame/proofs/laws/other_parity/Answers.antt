-- What octets are heard as if one of them is replaced by an octet of the other parity.
use Rattle.bsc_frame.proofs.DamagedMessages.{spelled_where, failed_place}
use Rattle.bsc_frame.proofs.TurnedOctets.{odd_bits_other}
use Rattle.bsc_frame.proofs.laws.other_parity.Goals as goal

pub returns-clause-spelled : goal.returns-clause-spelled
returns-clause-spelled c = spelled_where

pub returns-clause-failed : goal.returns-clause-failed
returns-clause-failed c = λ m place octet h. failed_place m h place octet

pub returns-clause-odd_bits : goal.returns-clause-odd_bits
returns-clause-odd_bits c = odd_bits_other
