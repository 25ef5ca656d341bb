-- Each octet of a body has odd parity, except the PAD of a call.
use Rattle.bsc_frame.proofs.BodyParity.{body_fits}
use Rattle.bsc_frame.proofs.laws.odd_parity.Goals as goal

pub returns : goal.returns
returns c = body_fits
