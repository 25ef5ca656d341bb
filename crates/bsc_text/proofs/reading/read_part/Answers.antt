-- Shows what was read of a line from the piece that the reader holds.
use Rattle.std.proofs.Common.{◌≡◌, Some, None, length, sym, ap, subst, ◌∙◌}
use Rattle.std.proofs.Common.{arith, option_map}
use Rattle.std.specs.Io.BufRead.{FillKeeps}
use Rattle.bsc_text.specs.Parts.{after_octet}
use Rattle.bsc_text.proofs.LineParts.{feed_read, part_read, too_long_after}
use Rattle.bsc_text.proofs.reading.read_part.Goals as goal

pub returns-then-len-count-clause-too_long : goal.returns-then-len-count-clause-too_long
returns-then-len-count-clause-too_long g c = λ _.
    too_long_after (g.B.Read.remaining c.args.reader.now) c.args.line.now.items c.in-Ok.piece.now
    (length c.split_at_first.result.0.now) c.in-Ok.ensures.front
    (ap length c.split_at_first.ensures.before) (omega arith)

pub returns-in-Some-clause-part : goal.returns-in-Some-clause-part
returns-in-Some-clause-part g c =
    let rested = c.fill_buf.follows.lender-at-none in
    let filled =
    subst
    (FillKeeps _ (g.B.Read.remaining rested) (g.B.BufRead.consumable_len rested))
    c.in-Ok.is c.fill_buf.follows.holds-at-none in
    let piece = c.in-Ok.piece.now in
    let part = c.split_at_first.result.0.now in
    let after : after_octet 10 piece ≡ Some c.in-Some.field-0.now =
    sym c.split_at_first.ensures.after ∙ ap (option_map (λ rest. rest.now)) c.in-Some.is in
    let long = rw c.in-Some.is at c.split_at_first.ensures.length in (
      part,
      c.in-Ok-extend_from_slice.ensures.items,
      feed_read (g.B.Read.remaining c.args.reader.now) (g.B.Read.remaining c.consume.new.self)
          (g.B.BufRead.consumable_len rested) piece part c.in-Some.field-0.now
          c.split_at_first.ensures.before after (omega (arith, long)) (
            g.B.Read.remaining rested,
            c.in-Ok.ensures.front,
            c.in-Ok.ensures.end,
            filled.0,
            filled.1,
            c.consume.ensures.bytes,
          ),
    )

pub returns-else-count-eq0-clause-part : goal.returns-else-count-eq0-clause-part
returns-else-count-eq0-clause-part g c =
    let rested = c.fill_buf.follows.lender-at-none in
    let filled =
    subst
    (FillKeeps _ (g.B.Read.remaining rested) (g.B.BufRead.consumable_len rested))
    c.in-Ok.is c.fill_buf.follows.holds-at-none in
    let piece = c.in-Ok.piece.now in
    let part = c.split_at_first.result.0.now in
    let after : after_octet 10 piece ≡ None =
    sym c.split_at_first.ensures.after ∙ ap (option_map (λ rest. rest.now)) c.in-None.is in
    let read =
    part_read (g.B.Read.remaining c.args.reader.now)
    (g.B.Read.remaining c.consume-in-None.new.self) (g.B.BufRead.consumable_len rested) piece
    part c.split_at_first.ensures.before after (
      g.B.Read.remaining rested,
      c.in-Ok.ensures.front,
      c.in-Ok.ensures.end,
      filled.0,
      filled.1,
      c.consume-in-None.ensures.bytes,
    ) in
    (part, c.in-Ok-extend_from_slice.ensures.items, (read.0, omega arith, read.1))
