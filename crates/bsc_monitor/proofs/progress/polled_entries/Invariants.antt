-- The entries so far are counted.
use Rattle.std.proofs.Common.{◌≡◌, ◌≤◌}
use Rattle.bsc_monitor.specs.Progress.{polled_entries}
use Rattle.bsc_monitor.proofs.progress.polled_entries.Given as goal

abbrev pub invariant-entries : goal.invariant-entries
invariant-entries g l =
    (l.count ≡ polled_entries l.control l.place) × (l.count ≤ l.place)
