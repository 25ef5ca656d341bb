-- No record of the channels so far is printed.
use Rattle.std.proofs.Common.{◌≡◌}
use Rattle.std.specs.Prelude.{replicate}
use Rattle.bsc_keeping.proofs.printed.Printed.new.Given as goal

abbrev pub invariant-channels : goal.invariant-channels
invariant-channels g l = l.printed.items ≡ replicate l.counter 0
