-- `decode_text` tells a text or a failure, since nothing else begins as a text.
use Rattle.std.proofs.Common.{◌∙◌, ap, refl}
use Rattle.bsc_frame.specs.declared.message.Message.TheVariants.{Text}
use Rattle.bsc_frame.specs.declared.message.Heard.TheVariants.{Whole, Failed}
use Rattle.bsc_embed.proofs.HeardKinds.{heard_is, only_text, kind_tells_heard}
use Rattle.bsc_embed.proofs.decoder.decode_text.Goals as goal

pub unreachable-requires : goal.unreachable-requires
unreachable-requires c =
    only_text c.args.octets.now c.in-Whole.message c.requires
    (heard_is c.args.octets.now c.decode.result (Whole c.in-Whole.message) c.in-Whole.is
    c.decode.ensures.whole c.decode.ensures.failed c.decode.ensures.noise) c.in_default.not-Text

pub returns-in-Text : goal.returns-in-Text
returns-in-Text c =
    kind_tells_heard c.args.octets.now (Whole (Text c.in-Text.text)) _ c.args.content.now c.put_text.new.self
    (heard_is c.args.octets.now c.decode.result _ (c.in-Whole.is ∙ ap Whole c.in-Text.is)
    c.decode.ensures.whole c.decode.ensures.failed c.decode.ensures.noise)
    (rw c.put_text.ensures.text refl)
    c.put_text.ensures.kept

pub returns-in-Failed : goal.returns-in-Failed
returns-in-Failed c =
    kind_tells_heard c.args.octets.now Failed _ c.args.content.now c.args.content.now
    (heard_is c.args.octets.now c.decode.result Failed c.in-Failed.is c.decode.ensures.whole
    c.decode.ensures.failed c.decode.ensures.noise) refl refl
