-- `body_of_few` returns a body that is heard as the octets are.
use Rattle.std.proofs.Common.{◌∙◌, ap, arith}
use Rattle.bsc_frame.specs.Reading.{trimmed}
use Rattle.bsc_octet.specs.declared.controls.TheConstants.{SYN}
use Rattle.bsc_frame.proofs.Runs.{skip_pads, skip_all}
use Rattle.bsc_frame.proofs.Bodies.{heard_no_syn, heard_after_syn}
use Rattle.bsc_frame.proofs.body.body_of_few.Goals as goal

pub returns-then-not-starts_with : goal.returns-then-not-starts_with
returns-then-not-starts_with c =
    heard_no_syn c.args.octets.now _ c.starts_with.result
    (skip_pads c.args.octets.now c.either_rest-pads.result c.either_rest-pads.ensures.count)
    c.starts_with.ensures c.if-not-starts_with.true

pub returns : goal.returns
returns c =
    heard_after_syn c.args.octets.now _ c.trim_rest.result.now c.starts_with.result
    (omega (arith, c.requires))
    (skip_pads c.args.octets.now c.either_rest-pads.result c.either_rest-pads.ensures.count)
    c.starts_with.ensures c.if-not-starts_with.false
    (c.trim_rest.ensures
    ∙ ap trimmed (skip_all _ c.either_rest-syns.result SYN c.either_rest-syns.ensures.count))
