-- Shows what is written of the name after a failure.
use Rattle.std.proofs.Common.{◌≡◌, ◌++◌, ap, ◌∙◌, codes, rules}
use Rattle.std.specs.Fmt.{decimal}
use Rattle.bsc_text.specs.Channels.{address_name, channel_name}
use Rattle.bsc_text.proofs.Fronts.{front_after_on_err, front_within_err}
use Rattle.bsc_text.proofs.channels.write_channel_name.Goals as goal

pub returns-in_err-put_numbered-in-ToTerminal-clause-front : goal.returns-in_err-put_numbered-in-ToTerminal-clause-front
returns-in_err-put_numbered-in-ToTerminal-clause-front g c =
    rw c.in-ToTerminal.is
    (front_within_err _ _ (codes "to " ++ decimal c.args.terminal)
    (address_name c.args.addresses c.in-ToTerminal.select) c.from_residual.result
    c.in_err-put_numbered-in-ToTerminal.ensures.front)

pub returns-else-addresses-eq1-clause-front : goal.returns-else-addresses-eq1-clause-front
returns-else-addresses-eq1-clause-front g c =
    let name : channel_name c.args.addresses c.args.terminal c.args.way
    ≡ codes "to " ++ decimal c.args.terminal ++ (codes "." ++ decimal c.in-ToTerminal.select) =
    search rules in
    rw name
    (front_after_on_err _ _ _ (codes "to " ++ decimal c.args.terminal)
    (codes "." ++ decimal c.in-ToTerminal.select) c.put_numbered-else-addresses-eq1.result
    c.in_ok-put_numbered-in-ToTerminal.ensures.ok c.put_numbered-else-addresses-eq1.ensures.front)
