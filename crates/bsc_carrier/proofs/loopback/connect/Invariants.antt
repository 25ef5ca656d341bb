-- The loop invariant of `connect`.
use Rattle.std.proofs.Common.{◌≡◌, length}
use Rattle.bsc_carrier.proofs.loopback.connect.Given as goal

-- Each side has as many ends as connections were made.
abbrev pub invariant-connections : goal.invariant-connections
invariant-connections g l =
    (length l.control_ends.items ≡ l.counter) × (length l.terminal_ends.items ≡ l.counter)
