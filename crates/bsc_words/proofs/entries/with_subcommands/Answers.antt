-- Shows that each iteration of the loop adds the command of one more row.
use Rattle.std.proofs.Common.{ap, sym, ◌∙◌, ◌+◌, drop, map}
use Rattle.std.proofs.lemmas.List.{at_drop_more}
use Rattle.clap.specs.Words.{app_of}
use Rattle.bsc_words.specs.Options.{subcommand_shape, with_shapes}
use Rattle.bsc_words.proofs.entries.with_subcommands.Goals as goal

pub rows-preserved : goal.rows-preserved
rows-preserved c =
    let rows = c.args.rows.now in
    let program = app_of c.rows.program in
    let next = c.rows.row-index + 1 in
    ap (λ a. with_shapes a (map subcommand_shape (drop next rows))) c.in_ok-program.ensures
    ∙ sym (at_drop_more (λ left. with_shapes program (map subcommand_shape left)) rows
    c.rows.row-index _ c.rows-test.true)
    ∙ c.rows.invariant
