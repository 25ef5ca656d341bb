-- `decode_short` returns what is heard, or `None` for octets that begin as a text.
use Rattle.bsc_frame.proofs.ShortMessages.{short_is_read, short_is_heard, text_begins}
use Rattle.bsc_frame.proofs.short.decode_short.Goals as goal

pub returns-then-starts_with-clause-text : goal.returns-then-starts_with-clause-text
returns-then-starts_with-clause-text c =
    text_begins c.args.octets.now c.body_of-body.result.now c.body_of-body.ensures
    c.if-starts_with.ensures

pub returns-clause-reading : goal.returns-clause-reading
returns-clause-reading c =
    short_is_read c.args.octets.now c.body_of-body.result.now _ c.body_of-body.ensures
    c.if-starts_with.ensures c.short_of.ensures

pub returns-clause-short : goal.returns-clause-short
returns-clause-short c =
    short_is_heard c.args.octets.now c.body_of-body.result.now _ c.body_of-body.ensures
    c.if-starts_with.ensures c.short_of.ensures
