-- The loop of `squeeze_part` writes the octets other than SYN after the first ones.
use Rattle.bsc_frame.proofs.Squeezing.{squeeze_start, squeeze_all}
use Rattle.bsc_frame.proofs.squeeze.squeeze_part.Goals as goal

pub loop-octet-init : goal.loop-octet-init
loop-octet-init c =
    squeeze_start c.args.buffer.now c.args.start c.args.octets.now c.told-buffer

pub returns-clause-octets : goal.returns-clause-octets
returns-clause-octets c =
    squeeze_all c.args.buffer.now c.args.start c.loop-octet.count c.loop-octet.buffer
    c.loop-octet.octet-index c.args.octets.now c.loop-octet.invariant c.loop-octet-test.false
