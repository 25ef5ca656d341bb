-- Whether one of the channels so far has a record that is not printed.
use Rattle.std.specs.Prelude.{◌≡◌}
use Rattle.bsc_attending.specs.Printer.{some_unprinted}
use Rattle.bsc_attending.proofs.printer.Printer.has_unprinted.Given as goal

abbrev pub invariant-channels : goal.invariant-channels
invariant-channels g l =
    l.found ≡ some_unprinted g.P.Party l.station l.self.printed.items l.number
