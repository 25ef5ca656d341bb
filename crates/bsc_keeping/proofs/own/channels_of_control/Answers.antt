-- Shows that the channels of one more terminal are added.
use Rattle.std.proofs.Common.{[]}
use Rattle.bsc_keeping.specs.Own.{polled_at, selections_at}
use Rattle.bsc_keeping.proofs.Owns.{each_of_more}
use Rattle.bsc_keeping.proofs.own.channels_of_control.Goals as goal

pub terminals-preserved : goal.terminals-preserved
terminals-preserved c = record {
  sending = each_of_more [] c.terminals.sending.items c.add_selections_at.new.ends.items
      (selections_at c.args.terminals.now) c.terminals.number c.terminals.invariant.sending
      c.in_ok-add_selections_at.ensures;
  receiving = each_of_more [] c.terminals.receiving.items c.add_polled.new.ends.items
      (polled_at c.args.terminals.now) c.terminals.number c.terminals.invariant.receiving
      c.in_ok-add_polled.ensures;
}
