-- Shows that the lines of the text are the first line and those of the rest.
use Rattle.std.proofs.Common.{sym, ap, ◌∙◌, ◌∷◌}
use Rattle.std.specs.Str.Lines.{lines}
use Rattle.bsc_station.proofs.Firsts.{lines_with_line_first, lines_of_one_line}
use Rattle.bsc_station.proofs.offers.next_line.Goals as goal

pub returns-in-Some-clause-first : goal.returns-in-Some-clause-first
returns-in-Some-clause-first c =
    let rest = c.in-Some.rest.now in
    lines_with_line_first c.args.text.now c.split_line.result.0.now rest
    (rw c.in-Some.is at c.split_line.ensures.more)
    ∙ ap (λ l. l ∷ lines rest) (sym c.without_return.ensures)

pub returns-in-None-clause-first : goal.returns-in-None-clause-first
returns-in-None-clause-first c =
    lines_of_one_line c.args.text.now c.split_line.result.0.now c.requires
    (c.split_line.ensures.last c.in-None.is)
