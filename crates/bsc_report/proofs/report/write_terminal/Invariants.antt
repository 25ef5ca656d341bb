-- The lines of the channels so far are written.
use Rattle.std.specs.Io.KnownBytes.{Appends}
use Rattle.bsc_bid.specs.declared.way.Way.TheVariants.{ToTerminal}
use Rattle.bsc_text.specs.Channels.{each_below}
use Rattle.bsc_report.specs.Printed.{channel_lines}
use Rattle.bsc_report.proofs.report.write_terminal.Given as goal

abbrev pub invariant-selects : goal.invariant-selects
invariant-selects g l =
    let s = l.station in
    Appends (g.W.Write.contents l.initial.out) (g.W.Write.contents l.out)
    (each_below (λ n. channel_lines l.repeated (g.P.Party.selects s l.terminal)
    (g.P.Party.numbers s l.terminal) (g.P.Party.ends s l.terminal) (ToTerminal n)) l.select)
