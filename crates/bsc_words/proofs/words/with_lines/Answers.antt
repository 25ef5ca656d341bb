-- Shows that the program has the first rows of the table as its commands.
use Rattle.std.proofs.Common.{◌≡◌}
use Rattle.clap.specs.Words.{app_of}
use Rattle.bsc_words.specs.CommandLine.{line_shapes, program_app}
use Rattle.bsc_words.proofs.Shaped.{of_program}
use Rattle.bsc_words.proofs.words.with_lines.Goals as goal

pub returns : goal.returns
returns c =
    of_program app_of c.with_subcommands.result (app_of c.in_ok-program.program) program_app
    line_shapes c.in_ok-program.ensures c.with_subcommands.ensures
