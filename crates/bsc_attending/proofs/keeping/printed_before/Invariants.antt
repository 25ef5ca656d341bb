-- The counts of the channels so far.
use Rattle.std.specs.Prelude.{◌≡◌, slice_get}
use Rattle.bsc_keeping.specs.Changes.{printed_of}
use Rattle.bsc_attending.specs.Printer.{counts_below}
use Rattle.bsc_attending.proofs.keeping.printed_before.Given as goal

abbrev pub invariant-channels : goal.invariant-channels
invariant-channels g l =
    l.counts.items
    ≡ counts_below (λ number. printed_of (slice_get l.keeper.receiving.items number)) l.number
