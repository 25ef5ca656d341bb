-- The law of the line of a fault.
use Rattle.bsc_command.proofs.Lines.{is_one_fault_line}
use Rattle.bsc_command.proofs.laws.fault_line.Goals as goal

pub returns : goal.returns
returns c = is_one_fault_line
