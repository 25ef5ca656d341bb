-- Shows that each iteration of the loop adds the rule of one more entry.
use Rattle.std.proofs.Common.{ap, sym, ◌∙◌, ◌+◌, ◌||◌, false, drop, map}
use Rattle.std.proofs.lemmas.List.{at_drop_more}
use Rattle.clap.specs.Words.{app_of, with_rule}
use Rattle.clap.specs.declared.builder.command.Command.TheViews.{out-Command}
use Rattle.bsc_words.specs.Options.{entry_rule, with_rules}
use Rattle.bsc_words.proofs.entries.with_entries.Goals as goal

pub entries-preserved : goal.entries-preserved
entries-preserved c =
    let entries = c.args.entries.now in
    let command = app_of c.entries.command in
    let next = c.entries.entry-index + 1 in
    let globals = (out-Command c.entries.command).has_globals in (
      ap (λ a. with_rules a (map entry_rule (drop next entries)))
          (c.in_ok-command.ensures.shape c.argument.ensures.local
          ∙ ap (with_rule command) c.argument.ensures.rule)
          ∙ sym (at_drop_more (λ left. with_rules command (map entry_rule left)) entries
          c.entries.entry-index _ c.entries-test.true)
          ∙ c.entries.invariant.0,
      c.in_ok-command.ensures.globals
          ∙ ap (λ b. globals || b) c.argument.ensures.local
          ∙ ap (λ b. b || false) c.entries.invariant.1,
    )
