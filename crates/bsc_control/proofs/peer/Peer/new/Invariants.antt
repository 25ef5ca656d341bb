-- The loop has made this many sending sides, all of them new.
use Rattle.std.proofs.Common.{◌≡◌}
use Rattle.std.specs.Prelude.{replicate, All}
use Rattle.bsc_control.specs.Peer.{IsOutbound, new_outbound}
use Rattle.bsc_control.proofs.peer.Peer.new.Given as goal

abbrev pub invariant-loop : goal.invariant-loop
invariant-loop g l =
    record {
      made : l.outbounds.items ≡ replicate l.counter (new_outbound l.setup);
      ready : All IsOutbound l.outbounds.items;
    }
