-- `Line::new` returns a new line, or the first refusal.
use Rattle.std.proofs.Common.{None, true, refl}
use Rattle.bsc_line_model.specs.Line.{line_of}
use Rattle.bsc_control.specs.Peer.{no_peer}
use Rattle.bsc_line.proofs.line.Line.new.Goals as goal

pub new_terminals-requires : goal.new_terminals-requires
new_terminals-requires g c =
    λ t less. c.distinct_addresses.ensures c.args.terminals.now
    c.in_ok-control.ensures.accepted.distinct t no_peer.terminal less

pub invariant_of-result : goal.invariant_of-result
invariant_of-result g c =
    rw c.new-2.ensures (c.each_event.ensures.new_line c.args.setup c.args.terminals.now c.args.poll_list.now
    (line_of c.in_ok-control.control c.in_ok-terminals.terminals.items None true None)
    (record {
      control = c.in_ok-control.ensures.value;
      terminals =
          c.in_ok-terminals.ensures.value;
      pending = refl;
      trusted = refl;
      addressed = refl;
    })
    c.in_ok-control.ensures.control)

pub returns-clause-line : goal.returns-clause-line
returns-clause-line g c = invariant_of-result g c
