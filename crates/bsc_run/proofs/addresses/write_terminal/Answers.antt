-- The parts of the line for a terminal are written one after another.
use Rattle.std.proofs.Common.{codes}
use Rattle.std.specs.Fmt.{decimal}
use Rattle.std.specs.List.{flat_map}
use Rattle.bsc_text.specs.Traces.{time_shown}
use Rattle.bsc_run.specs.Addresses.{address_shown}
use Rattle.bsc_run.proofs.Appending.{eight_on_ok}
use Rattle.bsc_run.proofs.addresses.write_terminal.Goals as goal

pub returns : goal.returns
returns g c =
    eight_on_ok _ _ _ _ _ _ _ (time_shown 0) (codes "terminal ") (decimal c.args.number)
    (codes " is ") c.args.terminal.now.poll (codes ", selected as")
    (flat_map address_shown c.args.terminal.now.selects) (codes ".\n") c.put-3.result
    c.in_ok-write_time.ensures.ok c.in_ok-write_terminal_number.ensures
    (rw (c.codes.ensures.value, c.poll.ensures) at c.in_ok-put.ensures.ok)
    c.in_ok-put-2.ensures.ok c.in_ok-write_selects.ensures c.put-3.ensures.ok
