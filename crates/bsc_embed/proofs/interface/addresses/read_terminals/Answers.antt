-- `read_terminals` answers with the fault of the first that is no terminal.
use Rattle.std.proofs.Common.{inr, sym, ◌∙◌}
use Rattle.bsc_embed.proofs.TerminalLists.{terminal_refused}
use Rattle.bsc_embed.proofs.interface.addresses.read_terminals.Goals as goal

pub returns-in-Err-clause-refused : goal.returns-in-Err-clause-refused
returns-in-Err-clause-refused c =
    inr (terminal_refused c.args.stored.now _ c.loop-addresses.addresses-index _ c.in-Err.fault
    c.loop-addresses-test.true c.loop-addresses.invariant
    (sym c.terminal.ensures ∙ c.in-Err.is))
