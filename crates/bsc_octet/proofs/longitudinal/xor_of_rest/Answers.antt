-- The loop of `xor_of_rest` adds one octet at a time.
use Rattle.std.proofs.Common.{arith, take, ◌≡◌}
use Rattle.std.proofs.lemmas.List.{take_all}
use Rattle.bsc_octet.proofs.Sums.{xor_more}
use Rattle.bsc_octet.proofs.longitudinal.xor_of_rest.Goals as goal

pub loop-octet-preserved : goal.loop-octet-preserved
loop-octet-preserved c =
    xor_more c.loop-octet.total c.args.octets.now c.loop-octet.octet-index (omega arith)
    c.loop-octet.invariant

pub returns : goal.returns
returns c = λ i.
    let all : take c.loop-octet.octet-index c.args.octets.now ≡ c.args.octets.now =
    take_all c.loop-octet.octet-index c.args.octets.now (omega arith) in
    rw all at (c.loop-octet.invariant i)
