-- One more address is written.
use Rattle.std.proofs.Common.{codes}
use Rattle.std.proofs.KnownBytes.{Appends-trans}
use Rattle.bsc_text.proofs.Lists.{flat_map_take_more}
use Rattle.bsc_run.specs.Addresses.{address_shown}
use Rattle.bsc_run.proofs.addresses.write_selects.Goals as goal

pub selects-preserved : goal.selects-preserved
selects-preserved g c =
    let one =
    Appends-trans (g.W.Write.contents c.selects.out) (g.W.Write.contents c.put.new.out)
    (g.W.Write.contents c.put-in-selects.new.out) (codes " ") c.select.result
    c.in_ok-put.ensures.ok (rw c.codes.ensures.value at c.in_ok-put-2.ensures.ok) in
    rw (flat_map_take_more address_shown c.args.terminal.now.selects c.selects.select
    c.select.result c.select.ensures)
    (Appends-trans _ _ _ _ _ c.selects.invariant one)
