-- The lines before this number are printed.
use Rattle.bsc_text.specs.Fronts.{Extends}
use Rattle.bsc_trace.proofs.Printed.{HasPrintedOf}
use Rattle.bsc_trace.proofs.naming.naming.write_lines.Given as goal

abbrev pub invariant-lines : goal.invariant-lines
invariant-lines g l = record {
  printed : HasPrintedOf (g.B.Read.remaining l.fn.reader) (g.B.Read.remaining l.reader) l.detail
      l.number (g.W.Write.contents l.fn.out) (g.W.Write.contents l.out);
  stays : Extends (g.W.Write.contents l.fn.out) (g.W.Write.contents l.out);
}
