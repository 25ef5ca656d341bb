-- The rows so far are added to the program.
use Rattle.std.proofs.Common.{◌≡◌, drop, map}
use Rattle.clap.specs.Words.{app_of}
use Rattle.bsc_words.specs.Options.{subcommand_shape, with_shapes}
use Rattle.bsc_words.proofs.entries.with_subcommands.Given as goal

-- adding the remaining rows gives the program with all of them
abbrev pub invariant-rows : goal.invariant-rows
invariant-rows l =
    with_shapes (app_of l.program) (map subcommand_shape (drop l.row-index l.rows))
    ≡ with_shapes (app_of l.initial.program) (map subcommand_shape l.rows)
