-- The loop invariant of `record_all`.
use Rattle.std.proofs.Common.{◌≡◌}
use Rattle.std.specs.Slice.Iter.{iter_rest}
use Rattle.mio.specs.Events.{items}
use Rattle.bsc_clients.specs.Calls.{with_tokens}
use Rattle.bsc_clients.proofs.calls.Calls.record_all.Given as goal

-- With the events that are left, what was reported becomes that of all events.
abbrev pub invariant-events : goal.invariant-events
invariant-events g l =
    with_tokens l.self (iter_rest l.event-iterator) ≡ with_tokens l.fn.self (items l.fn.events)
