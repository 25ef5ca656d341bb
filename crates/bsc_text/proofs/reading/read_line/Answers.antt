-- Shows that the parts that were read are a line.
use Rattle.bsc_text.proofs.LineParts.{line_of_parts, too_long_whole}
use Rattle.bsc_text.proofs.reading.read_line.Goals as goal

pub returns-in-Ok-Some-clause-line : goal.returns-in-Ok-Some-clause-line
returns-in-Ok-Some-clause-line g c =
    line_of_parts (g.B.Read.remaining c.args.reader.now) (g.B.Read.remaining c.parts.reader)
    (g.B.Read.remaining c.read_part.new.reader) c.in-Ok-Some.end c.parts.line.items
    c.read_part.new.line.items c.parts.invariant.taken c.parts.invariant.feedless
    (rw c.in-Ok-Some.field-0-is at c.in-Ok-Some.ensures.part)

pub returns-in-Err-clause-too_long : goal.returns-in-Err-clause-too_long
returns-in-Err-clause-too_long g c = λ e.
    too_long_whole (g.B.Read.remaining c.args.reader.now) (g.B.Read.remaining c.parts.reader)
    c.parts.line.items c.parts.invariant.taken c.parts.invariant.feedless
    (c.in-Err.ensures.too_long (cc))
