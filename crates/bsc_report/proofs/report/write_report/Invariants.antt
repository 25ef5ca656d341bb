-- The lines of the terminals so far are written.
use Rattle.std.specs.Io.KnownBytes.{Appends}
use Rattle.bsc_text.specs.Channels.{each_below}
use Rattle.bsc_report.specs.Printed.{terminal_lines}
use Rattle.bsc_report.proofs.report.write_report.Given as goal

abbrev pub invariant-terminals : goal.invariant-terminals
invariant-terminals g l =
    let s = l.station in
    Appends (g.W.Write.contents l.initial.out) (g.W.Write.contents l.out)
    (each_below (λ t. terminal_lines l.repeated (g.P.Party.selects s t) (g.P.Party.numbers s t)
    (g.P.Party.ends s t)) l.terminal)
