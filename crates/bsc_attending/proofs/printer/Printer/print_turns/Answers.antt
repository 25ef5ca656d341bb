-- Each turn prints after those before it.
use Rattle.std.proofs.Common.{refl}
use Rattle.bsc_attending.specs.Printer.{on, still}
use Rattle.bsc_attending.proofs.printer.Printer.print_turns.Goals as goal

pub turns-init : goal.turns-init
turns-init g c = still refl

pub returns-then-not-print_turn : goal.returns-then-not-print_turn
returns-then-not-print_turn g c = on c.turns.invariant c.print_turn.ensures

pub turns-preserved : goal.turns-preserved
turns-preserved g c = on c.turns.invariant c.print_turn.ensures
