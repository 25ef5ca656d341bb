-- The reading of all terminals is the terminals read so far and the reading of the rest.
use Rattle.std.proofs.Common.{◌≡◌, ◌++◌, drop, Ok}
use Rattle.toml.specs.View.{items_view}
use Rattle.bsc_config.specs.Faults.{◌>>=◌}
use Rattle.bsc_config.specs.Terminals.{terminals_of}
use Rattle.bsc_config.proofs.terminals.each_terminal.Given as goal

abbrev pub invariant-loop-number : goal.invariant-loop-number
invariant-loop-number l =
    terminals_of l.version 0 (items_view l.values)
    ≡ (terminals_of l.version l.number (items_view (drop l.number l.values)) >>= λ ts. Ok
    (l.terminals.items ++ ts))
