-- Records are printed in turns, or there is none to print.
use Rattle.std.proofs.Common.{refl}
use Rattle.bsc_attending.specs.Printer.{still}
use Rattle.bsc_attending.proofs.printer.PrinterPrints.print.Goals.{else-has_unprinted-via-else-has_unprinted, else-has_unprinted-via-then-has_unprinted+else-print_turns}
use Rattle.bsc_attending.proofs.printer.PrinterPrints.print.Goals as goal

pub returns-else-has_unprinted : goal.returns-else-has_unprinted
returns-else-has_unprinted g c =
    elim c.else-has_unprinted.branch [
      | else-has_unprinted-via-then-has_unprinted+else-print_turns w ↦ rw w.self-is w.print_turns.ensures
      | else-has_unprinted-via-else-has_unprinted w ↦ rw w.self-is (still refl)
    ]
