-- The check of all terminals is the check of those that the loop has not reached.
use Rattle.std.proofs.Common.{◌≡◌, drop}
use Rattle.toml.specs.View.{items_view}
use Rattle.bsc_config.specs.declared.key.Owner.TheVariants.{Terminal}
use Rattle.bsc_config.specs.Checks.{check_each, known_keys_of}
use Rattle.bsc_config.proofs.known.each_terminal_known.Given as goal

abbrev pub invariant-loop-number : goal.invariant-loop-number
invariant-loop-number l =
    check_each (λ n. known_keys_of (Terminal n)) 0 (items_view l.values)
    ≡ check_each (λ n. known_keys_of (Terminal n)) l.number (items_view (drop l.number l.values))
