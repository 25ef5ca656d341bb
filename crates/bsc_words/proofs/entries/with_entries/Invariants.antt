-- The entries so far are added to the command.
use Rattle.std.proofs.Common.{◌≡◌, drop, map, false}
use Rattle.clap.specs.Words.{app_of}
use Rattle.clap.specs.declared.builder.command.Command.TheViews.{out-Command}
use Rattle.bsc_words.specs.Options.{entry_rule, with_rules}
use Rattle.bsc_words.proofs.entries.with_entries.Given as goal

-- adding the remaining entries gives the command with all of them
abbrev pub invariant-entries : goal.invariant-entries
invariant-entries l =
    (with_rules (app_of l.command) (map entry_rule (drop l.entry-index l.entries))
    ≡ with_rules (app_of l.initial.command) (map entry_rule l.entries))
    × ((out-Command l.command).has_globals ≡ false)
