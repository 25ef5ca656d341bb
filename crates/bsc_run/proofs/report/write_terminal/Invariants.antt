-- The lines of the channels so far are written.
use Rattle.std.specs.Io.KnownBytes.{Appends}
use Rattle.bsc_text.specs.Fronts.{Extends}
use Rattle.bsc_bid.specs.declared.way.Way.TheVariants.{ToTerminal}
use Rattle.bsc_text.specs.Channels.{each_below}
use Rattle.bsc_run.specs.Printed.{channel_lines}
use Rattle.bsc_run.proofs.report.write_terminal.Given as goal

abbrev pub invariant-selects : goal.invariant-selects
invariant-selects g l = record {
  written : Appends (g.W.Write.contents l.initial.out) (g.W.Write.contents l.out)
      (each_below (λ s. channel_lines l.line l.terminal (ToTerminal s)) l.select);
  stays : Extends (g.W.Write.contents l.fn.out) (g.W.Write.contents l.out);
}
