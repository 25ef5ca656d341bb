-- The loop invariant of `set_all`.
use Rattle.std.proofs.Common.{◌≡◌}
use Rattle.std.specs.Slice.Iter.{iter_rest}
use Rattle.mio.specs.Events.{items}
use Rattle.bsc_sockets.specs.Ready.{with_events}
use Rattle.bsc_sockets.proofs.asking.set_all.Given as goal

-- With the events that are left, the places become those with all events.
abbrev pub invariant-events : goal.invariant-events
invariant-events g l =
    with_events l.ready (iter_rest l.event-iterator) ≡ with_events l.fn.ready (items l.fn.events)
