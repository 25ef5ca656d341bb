-- `addressed_apart` returns the channel that is addressed afterwards.
use Rattle.std.proofs.Common.{sym, ◌∙◌, ap}
use Rattle.bsc_control.specs.Control.{terminals}
use Rattle.bsc_line_model.specs.Hearing.{heard_in, heard_at}
use Rattle.bsc_line.specs.Naming.{named_in}
use Rattle.bsc_line.proofs.Naming.{addressed_call, addressed_nobody}
use Rattle.bsc_line.proofs.Naming.{addressed_after_call_not_heard_by_all}
use Rattle.bsc_line.proofs.Naming.{addressed_after_eot_not_heard_by_all}
use Rattle.bsc_line.proofs.Naming.{addressed_after_other_hearing}
use Rattle.bsc_line.proofs.addressing.addressed_apart.Goals as goal

pub returns-then-each_hears : goal.returns-then-each_hears
returns-then-each_hears g c =
    addressed_call (terminals c.args.control.now) c.args.count (heard_at c.args.items.now)
    c.args.addressed c.find.result c.in-Address.address c.requires
    (c.each_hears.ensures.0 c.if-each_hears.true) c.find.ensures.exact

pub returns-else-each_hears : goal.returns-else-each_hears
returns-else-each_hears g c =
    addressed_after_call_not_heard_by_all (terminals c.args.control.now) c.args.count (heard_at c.args.items.now)
    c.args.addressed c.in-Address.address c.each_hears.result c.requires
    (sym c.in-Address.is ∙ (c.named_in.ensures
    ∙ ap named_in (c.hearing.ensures ∙ ap heard_in c.item_at.ensures))) c.if-each_hears.false
    c.each_hears.ensures

pub returns-then-each_hears-2 : goal.returns-then-each_hears-2
returns-then-each_hears-2 g c =
    addressed_nobody (terminals c.args.control.now) c.args.count (heard_at c.args.items.now)
    c.args.addressed c.requires (c.each_hears-in-Nobody.ensures.0 c.if-each_hears-2.true)

pub returns-else-each_hears-2 : goal.returns-else-each_hears-2
returns-else-each_hears-2 g c =
    addressed_after_eot_not_heard_by_all (terminals c.args.control.now) c.args.count (heard_at c.args.items.now)
    c.args.addressed c.each_hears-in-Nobody.result c.requires
    (sym c.in-Nobody.is ∙ (c.named_in.ensures
    ∙ ap named_in (c.hearing.ensures ∙ ap heard_in c.item_at.ensures))) c.if-each_hears-2.false
    c.each_hears-in-Nobody.ensures

pub returns-in-Nothing : goal.returns-in-Nothing
returns-in-Nothing g c =
    addressed_after_other_hearing (terminals c.args.control.now) c.args.count (heard_at c.args.items.now)
    c.args.addressed c.requires (sym c.in-Nothing.is
    ∙ (c.named_in.ensures ∙ ap named_in (c.hearing.ensures ∙ ap heard_in c.item_at.ensures)))
