-- `body_of_many` returns a body that is heard as the octets are.
use Rattle.std.proofs.Common.{◌∙◌, ap}
use Rattle.bsc_frame.specs.Reading.{trimmed}
use Rattle.bsc_frame.proofs.Bodies.{heard_no_syn, heard_after_syn}
use Rattle.bsc_frame.proofs.body.body_of_many.Goals as goal

pub returns-then-not-starts_with : goal.returns-then-not-starts_with
returns-then-not-starts_with c =
    heard_no_syn c.args.octets.now c.after_pads-rest.result.now c.starts_with-2.result
    c.after_pads-rest.ensures c.starts_with-2.ensures c.if-not-starts_with.true

pub returns : goal.returns
returns c =
    heard_after_syn c.args.octets.now c.after_pads-rest.result.now c.trim.result.now
    c.starts_with-2.result c.if-octets-gt-MAX_HEARD.false c.after_pads-rest.ensures
    c.starts_with-2.ensures c.if-not-starts_with.false
    (c.trim.ensures ∙ ap trimmed c.after_all.ensures)
