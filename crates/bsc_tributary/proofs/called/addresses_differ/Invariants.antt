-- A call of each selection address so far names that address.
use Rattle.std.proofs.Common.{◌≡◌, ℕ, ◌<◌, [], get_or}
use Rattle.bsc_tributary.specs.declared.called.Called.TheVariants.{Selection}
use Rattle.bsc_tributary.specs.Called.{called_as}
use Rattle.bsc_tributary.proofs.called.addresses_differ.Given as goal

abbrev pub invariant-loop-select : goal.invariant-loop-select
invariant-loop-select l = (k : ℕ) → k < l.select
    → called_as l.terminal (get_or l.terminal.selects k []) ≡ Selection k
