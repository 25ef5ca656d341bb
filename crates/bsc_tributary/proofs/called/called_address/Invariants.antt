-- The address is none of the selection addresses so far.
use Rattle.std.proofs.Common.{◌≡◌, ℕ, ◌<◌, false, [], get_or}
use Rattle.bsc_tributary.specs.Called.{is_same}
use Rattle.bsc_tributary.proofs.called.called_address.Given as goal

abbrev pub invariant-loop-select : goal.invariant-loop-select
invariant-loop-select l = (k : ℕ) → k < l.select
    → is_same l.address (get_or l.terminal.selects k []) ≡ false
