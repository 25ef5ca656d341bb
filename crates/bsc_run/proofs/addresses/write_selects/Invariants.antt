-- The addresses so far are written.
use Rattle.std.proofs.Common.{take}
use Rattle.std.specs.List.{flat_map}
use Rattle.std.specs.Io.KnownBytes.{Appends}
use Rattle.bsc_run.specs.Addresses.{address_shown}
use Rattle.bsc_run.proofs.addresses.write_selects.Given as goal

abbrev pub invariant-selects : goal.invariant-selects
invariant-selects g l =
    Appends (g.W.Write.contents l.initial.out) (g.W.Write.contents l.out)
    (flat_map address_shown (take l.select l.terminal.selects))
