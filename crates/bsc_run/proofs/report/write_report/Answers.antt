-- Shows that the lines of each terminal are written in order, and then the last line.
use Rattle.std.proofs.Common.{◌≡◌, arith}
use Rattle.bsc_line_model.specs.Line.{terminal_count}
use Rattle.bsc_text.specs.Channels.{each_below}
use Rattle.bsc_text.proofs.Appending.{each_below_more}
use Rattle.bsc_run.specs.Printed.{terminal_lines, trust_line}
use Rattle.bsc_run.proofs.Appending.{extends_more, two_on_ok}
use Rattle.bsc_text.proofs.Fronts.{extends_same, extends_trans}
use Rattle.std.proofs.KnownBytes.{Appends-nil}
use Rattle.bsc_run.proofs.report.write_report.Goals as goal

pub terminals-init : goal.terminals-init
terminals-init g c = record { written = Appends-nil _; stays = extends_same _ }

pub terminals-preserved : goal.terminals-preserved
terminals-preserved g c = record {
  written =
      each_below_more (g.W.Write.contents c.args.out.now) (g.W.Write.contents c.terminals.out)
      (g.W.Write.contents c.write_terminal.new.out) (terminal_lines c.args.line.now)
      c.terminals.terminal c.terminals.invariant.written c.in_ok-write_terminal.ensures.ok;
  stays = extends_trans _ _ _ c.terminals.invariant.stays c.write_terminal.ensures.stays;
}

pub returns-in_err-write_terminal-clause-stays : goal.returns-in_err-write_terminal-clause-stays
returns-in_err-write_terminal-clause-stays g c =
    extends_trans _ _ _ c.terminals.invariant.stays c.write_terminal.ensures.stays

pub returns-clause-stays : goal.returns-clause-stays
returns-clause-stays g c =
    extends_more _ _ _ _ c.put.result c.terminals.invariant.stays c.put.ensures.ok
    c.put.ensures.front

pub returns-clause-ok : goal.returns-clause-ok
returns-clause-ok g c =
    let l = c.args.line.now in
    let all : c.terminals.terminal ≡ terminal_count l =
    omega (arith, c.terminals-terminal-end.ensures.value) in
    let terminals = rw all at c.terminals.invariant.written in
    let last = rw (c.trust_text.ensures, c.trusted.ensures.value) at c.put.ensures.ok in
    two_on_ok (g.W.Write.contents c.args.out.now) (g.W.Write.contents c.terminals.out)
    (g.W.Write.contents c.put.new.out) (each_below (terminal_lines l) (terminal_count l))
    (trust_line l.trusted) c.put.result terminals last
