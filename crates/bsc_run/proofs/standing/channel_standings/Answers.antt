-- Shows that the channels of one more terminal are added.
use Rattle.std.proofs.Common.{◌≡◌, add-one, arith}
use Rattle.bsc_line_model.specs.Line.{terminal_count}
use Rattle.bsc_run.proofs.standing.channel_standings.Goals as goal

pub terminals-preserved : goal.terminals-preserved
terminals-preserved g c = rw (add-one, ← c.terminals.invariant) c.in_ok-push_terminal.ensures

pub returns : goal.returns
returns g c =
    let all : c.terminals.terminal ≡ terminal_count c.args.line.now =
    omega (arith, c.terminals-terminal-end.ensures.value) in
    rw all at c.terminals.invariant
