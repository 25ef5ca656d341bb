-- Shows that the lines of each terminal are written in order.
use Rattle.bsc_report.specs.Printed.{terminal_lines}
use Rattle.bsc_text.proofs.Appending.{each_below_more}
use Rattle.bsc_report.proofs.report.write_report.Goals as goal

pub terminals-preserved : goal.terminals-preserved
terminals-preserved g c =
    let s = c.args.station.now in
    each_below_more (g.W.Write.contents c.args.out.now) (g.W.Write.contents c.terminals.out)
    (g.W.Write.contents c.write_terminal.new.out)
    (λ t. terminal_lines c.args.repeated (g.P.Party.selects s t) (g.P.Party.numbers s t) (g.P.Party.ends s t))
    c.terminals.terminal c.terminals.invariant c.in_ok-write_terminal.ensures
