-- `new_terminals` returns new terminals with these addresses.
use Rattle.std.proofs.Common.{sym, subst, arith, ◌∙◌}
use Rattle.std.proofs.lemmas.List.{get_or_default}
use Rattle.bsc_bid.specs.Terminal.{HasDistinctAddresses}
use Rattle.bsc_control.specs.Peer.{no_peer}
use Rattle.bsc_line.proofs.Making.{made_at_start, one_more_made, all_terminals_made}
use Rattle.bsc_line.proofs.terminals.new_terminals.Goals as goal

pub new-requires : goal.new-requires
new-requires g c =
    subst HasDistinctAddresses (get_or_default c.args.terminals.now c.loop-terminal.terminal-index
    no_peer.terminal c.terminal-item.result c.loop-terminal-test.true ∙ sym c.terminal-item.is)
    (c.requires c.loop-terminal.terminal-index c.loop-terminal-test.true)

pub loop-terminal-init : goal.loop-terminal-init
loop-terminal-init g c =
    made_at_start c.args.setup c.args.terminals.now c.new-made.result.items c.new-made.ensures.items

pub loop-terminal-preserved : goal.loop-terminal-preserved
loop-terminal-preserved g c =
    one_more_made c.args.setup c.args.terminals.now c.loop-terminal.made.items c.push.new.terminals.items
    c.loop-terminal.terminal-index c.terminal-item.result c.new.result c.loop-terminal.invariant
    c.loop-terminal-test.true c.terminal-item.is c.new.ensures c.in_ok-push.ensures.ok

pub returns-clause-value : goal.returns-clause-value
returns-clause-value g c =
    all_terminals_made c.args.setup c.args.terminals.now c.loop-terminal.made.items
    c.loop-terminal.terminal-index c.loop-terminal.invariant (omega arith)
