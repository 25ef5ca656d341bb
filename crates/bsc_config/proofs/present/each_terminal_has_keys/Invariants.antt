-- The check of all terminals is the check of those that the loop has not reached.
use Rattle.std.proofs.Common.{◌≡◌, drop}
use Rattle.toml.specs.View.{items_view}
use Rattle.bsc_config.specs.Checks.{check_each, terminal_keys_present}
use Rattle.bsc_config.proofs.present.each_terminal_has_keys.Given as goal

abbrev pub invariant-loop-terminal : goal.invariant-loop-terminal
invariant-loop-terminal l =
    check_each terminal_keys_present 0 (items_view l.values)
    ≡ check_each terminal_keys_present l.terminal (items_view (drop l.terminal l.values))
