-- The records so far are offered for the address, which the control station still has.
use Rattle.std.proofs.Common.{◌≡◌, ◌<◌, ◌++◌, length}
use Rattle.std.specs.Vec.Iter.{into_iter_items}
use Rattle.bsc_block.specs.Blocks.{AreShort}
use Rattle.bsc_control.specs.Control.{peer_at}
use Rattle.bsc_control.specs.Kept.{outbound_of}
use Rattle.bsc_spool.specs.Queue.{QueueValue}
use Rattle.bsc_station.specs.Offers.{with_queue}
use Rattle.bsc_station.proofs.offering.offer_for_terminal.Given as goal

abbrev pub invariant-loop-record : goal.invariant-loop-record
invariant-loop-record g l = record {
  items : l.yielded ++ into_iter_items l.record-iterator
      ≡ into_iter_items l.initial.record-iterator;
  short : AreShort l.control.setup.format.full (into_iter_items l.record-iterator);
  peers : l.terminal < length l.control.peers;
  selects : l.select < length (peer_at l.control l.terminal).outbounds;
  offered : (outbound_of l.control l.terminal l.select).queue.offered
      ≡ (outbound_of l.initial.control l.terminal l.select).queue.offered ++ l.yielded;
  known : (outbound_of l.control l.terminal l.select).queue.known
      ≡ (outbound_of l.initial.control l.terminal l.select).queue.known;
  others : (queue : QueueValue) → with_queue l.control l.terminal l.select queue
      ≡ with_queue l.initial.control l.terminal l.select queue;
}
