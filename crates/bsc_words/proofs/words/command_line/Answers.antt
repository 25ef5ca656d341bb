-- Shows that the program has the last rows of the table as its commands, too.
use Rattle.std.proofs.Common.{◌≡◌}
use Rattle.clap.specs.Words.{app_of}
use Rattle.bsc_words.specs.CommandLine.{line_shapes, program_app, station_shapes}
use Rattle.bsc_words.specs.Options.{with_shapes}
use Rattle.bsc_words.proofs.Shaped.{of_program}
use Rattle.bsc_words.proofs.words.command_line.Goals as goal

pub returns : goal.returns
returns c =
    of_program app_of c.with_subcommands.result (app_of c.in_ok-program.program) (with_shapes program_app line_shapes)
    station_shapes c.in_ok-program.ensures c.with_subcommands.ensures
