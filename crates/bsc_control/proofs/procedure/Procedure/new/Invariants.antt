-- The loop has made the parts of this many terminals, all of them new.
use Rattle.std.proofs.Common.{◌≡◌, map, take}
use Rattle.std.specs.List.{All}
use Rattle.bsc_control.specs.Peer.{PeerValue, IsPeer, IsNewPeer}
use Rattle.bsc_control.proofs.procedure.Procedure.new.Given as goal

abbrev pub invariant-loop-terminal : goal.invariant-loop-terminal
invariant-loop-terminal g l =
    record {
      made : map (λ (p : PeerValue). p.terminal) l.peers.items ≡ take l.terminal-index l.terminals;
      fresh : All (λ (p : PeerValue). IsNewPeer l.setup p.terminal p) l.peers.items;
      peers : All IsPeer l.peers.items;
    }
