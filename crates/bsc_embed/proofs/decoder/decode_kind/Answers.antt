-- `decode_kind` tells what a short message is heard as.
use Rattle.bsc_frame.specs.Short.{heard_as}
use Rattle.bsc_embed.proofs.HeardKinds.{kind_tells_heard}
use Rattle.bsc_embed.proofs.decoder.decode_kind.Goals as goal

pub returns-in-Some : goal.returns-in-Some
returns-in-Some c =
    kind_tells_heard c.args.octets.now (heard_as c.in-Some.short) c.put_short.result c.args.content.now
    c.put_short.new.content (rw c.in-Some.is at c.decode_short.ensures.short)
    c.put_short.ensures.left c.put_short.ensures.kept
