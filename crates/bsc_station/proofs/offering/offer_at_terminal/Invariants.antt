-- The records so far are offered at the terminal.
use Rattle.std.proofs.Common.{◌≡◌, ◌++◌}
use Rattle.std.specs.Vec.Iter.{into_iter_items}
use Rattle.bsc_block.specs.Blocks.{AreShort}
use Rattle.bsc_station.specs.Offers.{KeepsAllElse}
use Rattle.bsc_station.proofs.offering.offer_at_terminal.Given as goal

abbrev pub invariant-loop-record : goal.invariant-loop-record
invariant-loop-record g l = record {
  items : l.yielded ++ into_iter_items l.record-iterator
      ≡ into_iter_items l.initial.record-iterator;
  short : AreShort l.terminal.tributary.queue.format.full (into_iter_items l.record-iterator);
  format : l.terminal.tributary.queue.format ≡ l.initial.terminal.tributary.queue.format;
  offered : l.terminal.tributary.queue.offered ≡ l.initial.terminal.tributary.queue.offered
      ++ l.yielded;
  known : l.terminal.tributary.queue.known ≡ l.initial.terminal.tributary.queue.known;
  others : KeepsAllElse l.initial.terminal l.terminal;
}
