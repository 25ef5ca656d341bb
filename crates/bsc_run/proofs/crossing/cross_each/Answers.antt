-- Shows that each iteration of the loop lets one more item cross the cable.
use Rattle.std.proofs.Common.{option_map, refl, ◌∙◌, arith}
use Rattle.bsc_run.specs.Crossing.{none, streams_of}
use Rattle.bsc_run.proofs.Items.{items_cross_more}
use Rattle.bsc_run.proofs.crossing.cross_each.Goals as goal

pub items-init : goal.items-init
items-init g c = record { crossed = rw c.new-heard.ensures.items none; count = refl }

pub items-preserved : goal.items-preserved
items-preserved g c = record {
  crossed =
      rw c.in_ok-push.ensures.items (items_cross_more (streams_of g.S.Write.contents g.S.Read.remaining)
      (option_map (λ w. w.items)) c.args.items.now c.items.heard.items c.items.terminal
      c.index-items-terminal.result c.in_ok-word.word c.args.cable.now c.items.cable
      c.cross_item.new.cable (omega arith) c.index-items-terminal.is c.items.invariant.crossed
      c.in_ok-word.ensures.crossed);
  count = c.cross_item.ensures.count ∙ c.items.invariant.count;
}
