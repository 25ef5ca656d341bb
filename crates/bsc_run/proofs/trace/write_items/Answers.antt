-- Shows that one more line is written for each terminal.
use Rattle.std.proofs.Common.{◌≡◌, length, None, arith}
use Rattle.std.specs.Prelude.{slice_index_or}
use Rattle.bsc_line_model.specs.Hearing.{octets_in}
use Rattle.bsc_text.proofs.Appending.{each_below_more}
use Rattle.bsc_run.specs.Traces.{item_line}
use Rattle.bsc_run.proofs.trace.write_items.Goals as goal

pub terminals-preserved : goal.terminals-preserved
terminals-preserved g c =
    each_below_more (g.W.Write.contents c.args.out.now) (g.W.Write.contents c.terminals.out)
    (g.W.Write.contents c.write_item.new.out)
    (λ t. item_line c.args.number c.args.sent.now t
    (octets_in (slice_index_or c.args.items.now t None))) c.terminals.terminal
    c.terminals.invariant (rw c.item_at.ensures at c.in_ok-write_item.ensures)

pub returns : goal.returns
returns g c =
    let all : c.terminals.terminal ≡ length c.args.items.now = omega arith in
    rw all at c.terminals.invariant
