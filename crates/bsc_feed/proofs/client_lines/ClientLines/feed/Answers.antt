-- Shows that a piece is taken up to its first line feed.
use Rattle.std.proofs.Common.{◌++◌, ◌∙◌, ap, sym}
use Rattle.std.specs.Prelude.{option_map}
use Rattle.bsc_feed.specs.Lines.{LinesValue, kept_of}
use Rattle.bsc_feed.proofs.Dividing.{fed_line, fed_part}
use Rattle.bsc_feed.proofs.client_lines.ClientLines.feed.Goals as goal

pub returns-in-Some : goal.returns-in-Some
returns-in-Some c =
    let part = c.split_at_first.result.0.now in
    let view = c.self.view_is in
    fed_line c.args.self.now _ c.args.piece.now part c.in-Some.field-0.now
    c.split_at_first.ensures.before
    (sym c.split_at_first.ensures.after ∙ ap (option_map (λ r. r.now)) c.in-Some.is)
    (rw c.in-Some.is at c.split_at_first.ensures.length) c.turn.ensures.begun
    (c.turn.ensures.complete ∙ c.keep.ensures.begun
    ∙ ap (λ (v : LinesValue). kept_of (v.begun ++ part)) view)

pub returns-in-None : goal.returns-in-None
returns-in-None c =
    let part = c.split_at_first.result.0.now in
    let view = c.self.view_is in
    fed_part c.args.self.now _ c.args.piece.now part c.split_at_first.ensures.before
    (sym c.split_at_first.ensures.after ∙ ap (option_map (λ r. r.now)) c.in-None.is)
    (c.keep.ensures.begun ∙ ap (λ (v : LinesValue). kept_of (v.begun ++ part)) view)
    (c.keep.ensures.complete ∙ ap (λ (v : LinesValue). v.ended) view)
