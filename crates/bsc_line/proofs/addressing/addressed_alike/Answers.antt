-- `addressed_alike` returns the channel that is addressed afterwards.
use Rattle.std.proofs.Common.{sym, ◌∙◌}
use Rattle.bsc_control.specs.Control.{terminals}
use Rattle.bsc_line_model.specs.Hearing.{all_hear}
use Rattle.bsc_line.proofs.Naming.{addressed_call, addressed_nobody, addressed_after_other_hearing}
use Rattle.bsc_line.proofs.Naming.{named_address}
use Rattle.bsc_line.proofs.Naming.{named_nobody}
use Rattle.bsc_line.proofs.addressing.addressed_alike.Goals as goal

pub returns-in-Address : goal.returns-in-Address
returns-in-Address g c =
    addressed_call (terminals c.args.control.now) c.args.count (all_hear c.args.heard.now)
    c.args.addressed c.find.result c.in-Address.address c.requires
    (λ t less. named_address c.args.heard.now c.in-Address.address
    (sym c.in-Address.is ∙ c.named_in.ensures)) c.find.ensures.exact

pub returns-in-Nobody : goal.returns-in-Nobody
returns-in-Nobody g c =
    addressed_nobody (terminals c.args.control.now) c.args.count (all_hear c.args.heard.now)
    c.args.addressed c.requires
    (λ t less. named_nobody c.args.heard.now (sym c.in-Nobody.is ∙ c.named_in.ensures))

pub returns-in-Nothing : goal.returns-in-Nothing
returns-in-Nothing g c =
    addressed_after_other_hearing (terminals c.args.control.now) c.args.count (all_hear c.args.heard.now)
    c.args.addressed c.requires (sym c.in-Nothing.is ∙ c.named_in.ensures)
