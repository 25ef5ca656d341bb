-- Shows that the program has one more command, that of the row.
use Rattle.std.proofs.Common.{◌≡◌, ◌∙◌, ap, false, Result, Ok, Err, IfOk}
use Rattle.clap.specs.Built.{AddsSubcommand}
use Rattle.clap.specs.Words.{Shape, app_of, shape_of, with_subcommand}
use Rattle.clap.specs.declared.builder.command.Command.{Command}
use Rattle.clap.specs.declared.builder.command.Command.TheViews.{out-Command}
use Rattle.bsc_words.specs.Options.{subcommand_shape}
use Rattle.bsc_words.proofs.entries.with_subcommand.Goals as goal

-- a program with a command of this shape added
added : {E : Type 0} (built : Result Command E) (program command : Command) (shape : Shape)
    → (out-Command command).has_globals ≡ false → shape_of command ≡ shape
    → IfOk built (AddsSubcommand program command)
    → IfOk built (λ c. app_of c ≡ with_subcommand (app_of program) shape)
added (Ok c) program command shape local is h =
    h.shape local ∙ ap (with_subcommand (app_of program)) is
added (Err error) program command shape local is h = tt

pub returns : goal.returns
returns c =
    added c.subcommand.result c.args.program c.in_ok-command.command
    (subcommand_shape c.args.row.now) c.in_ok-command.ensures.local c.in_ok-command.ensures.shape
    c.subcommand.ensures
