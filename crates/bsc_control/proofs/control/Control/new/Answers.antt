-- `new` returns a new control station, or the first refusal.
use Rattle.std.proofs.Common.{length, sym, ◌∙◌, ap}
use Rattle.bsc_bid.specs.Addresses.{numbered}
use Rattle.bsc_bid.proofs.Refusing.{right_entries}
use Rattle.bsc_control.specs.Kept.{IsControl}
use Rattle.bsc_control.proofs.NewControls.{new_control}
use Rattle.bsc_control.proofs.control.Control.new.Given as given
use Rattle.bsc_control.proofs.control.Control.new.Goals as goal

is_control : (g : given.Over) (c : goal.In_ok-procedure g) → IsControl c.in_ok-procedure.procedure
is_control g c =
    let a = c.in_ok-directory.ensures.accepted in
    new_control c.args.setup c.args.terminals.now c.args.poll_list.now c.in_ok-procedure.procedure
    a.number a.distinct a.right c.in_ok-procedure.ensures.entries
    c.in_ok-procedure.ensures.value

pub invariant_of-result : goal.invariant_of-result
invariant_of-result g c = (
  is_control g c,
  c.in_ok-directory.ensures.entries
      ∙ ap (numbered 0) (sym c.in_ok-procedure.ensures.value.terminals_given),
)

pub returns-clause-control : goal.returns-clause-control
returns-clause-control g c = is_control g c

pub returns-clause-value : goal.returns-clause-value
returns-clause-value g c = c.in_ok-procedure.ensures.value

pub new-requires-2-clause-some : goal.new-requires-2-clause-some
new-requires-2-clause-some g c = c.in_ok-directory.ensures.accepted.some

pub new-requires-2-clause-entries : goal.new-requires-2-clause-entries
new-requires-2-clause-entries g c =
    right_entries (length c.args.terminals.now) c.args.poll_list.now
    c.in_ok-directory.ensures.accepted.right
