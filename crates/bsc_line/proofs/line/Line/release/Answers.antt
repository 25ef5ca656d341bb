-- `release` steps as the event `Release`.
use Rattle.std.proofs.Common.{rules}
use Rattle.bsc_line_model.specs.declared.event.Event.TheVariants as event
use Rattle.bsc_line.proofs.line.Line.release.Goals as goal

pub returns-in-FromTerminal-clause-steps : goal.returns-in-FromTerminal-clause-steps
returns-in-FromTerminal-clause-steps g c =
    c.each_steps.ensures (event.Release c.args.terminal c.args.way) c.release_from.new.self
    c.release_from.result (search rules)

pub returns-else-select-addresses-clause-steps : goal.returns-else-select-addresses-clause-steps
returns-else-select-addresses-clause-steps g c =
    c.each_steps.ensures (event.Release c.args.terminal c.args.way) c.release_to.new.self
    c.release_to.result (search rules)
