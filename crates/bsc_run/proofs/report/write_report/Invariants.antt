-- The lines of the terminals so far are written.
use Rattle.std.specs.Io.KnownBytes.{Appends}
use Rattle.bsc_text.specs.Fronts.{Extends}
use Rattle.bsc_text.specs.Channels.{each_below}
use Rattle.bsc_run.specs.Printed.{terminal_lines}
use Rattle.bsc_run.proofs.report.write_report.Given as goal

abbrev pub invariant-terminals : goal.invariant-terminals
invariant-terminals g l = record {
  written : Appends (g.W.Write.contents l.initial.out) (g.W.Write.contents l.out)
      (each_below (terminal_lines l.line) l.terminal);
  stays : Extends (g.W.Write.contents l.fn.out) (g.W.Write.contents l.out);
}
