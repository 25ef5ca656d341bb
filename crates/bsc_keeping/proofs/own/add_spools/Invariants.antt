-- The channels to the selection addresses so far are added.
use Rattle.std.proofs.Common.{◌≡◌, ◌++◌}
use Rattle.bsc_keeping.specs.Own.{each_of, spool_of}
use Rattle.bsc_keeping.proofs.own.add_spools.Given as goal

abbrev pub invariant-selects : goal.invariant-selects
invariant-selects l = l.ends.items ≡ l.initial.ends.items ++ each_of (spool_of l.terminal) l.number
