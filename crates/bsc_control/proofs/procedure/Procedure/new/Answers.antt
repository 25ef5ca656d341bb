-- `Procedure::new` returns a new control station.
use Rattle.std.proofs.Common.{◌≡◌, ℕ, ◌+◌, ◌<◌, ◌≤◌, List, [], ◌∷◌, ◌++◌, length, map, take, get_or}
use Rattle.std.proofs.Common.{replicate, refl, sym, ap, ◌∙◌, subst, add-one, take_all}
use Rattle.std.specs.List.{All}
use Rattle.std.proofs.Math.Seq.{take-suc}
use Rattle.std.proofs.lemmas.List.{map-append, length-map}
use Rattle.std.proofs.lemmas.List.Elements.{All-push}
use Rattle.bsc_bid.specs.Setup.{SetupValue}
use Rattle.bsc_bid.specs.Terminal.{TerminalValue}
use Rattle.bsc_control.specs.Peer.{PeerValue, IsPeer, IsNewPeer, new_outbound}
use Rattle.bsc_control.proofs.procedure.Procedure.new.Goals as goal

-- the terminals so far and one more
peers_with_one_more : (ts : List TerminalValue) (n : ℕ) (x : TerminalValue) (ps : List PeerValue)
    (p : PeerValue) → n < length ts → x ≡ get_or ts n x → map (λ (q : PeerValue). q.terminal) ps
    ≡ take n ts → p.terminal ≡ x
    → map (λ (q : PeerValue). q.terminal) (ps ++ p ∷ []) ≡ take (n + 1) ts
peers_with_one_more ts n x ps p within is made same =
    map-append (λ (q : PeerValue). q.terminal) ps (p ∷ []) ∙ ap (λ z. z ++ p.terminal ∷ []) made
    ∙ ap (λ y. take n ts ++ y ∷ []) (same ∙ is) ∙ sym (rw (add-one) (take-suc ts n x within))

-- a new part is one of the terminal that it keeps
new_peer_own : (setup : SetupValue) (x : TerminalValue) (p : PeerValue) → IsNewPeer setup x p
    → IsNewPeer setup p.terminal p
new_peer_own setup x p h =
    record {
      terminal_given = refl;
      is_polled = h.is_polled;
      not_urgent = h.not_urgent;
      receiver = h.receiver;
      nothing_spooled = h.nothing_spooled;
      no_delays = h.no_delays;
      outbounds =
          h.outbounds
          ∙ ap (λ (t : TerminalValue). replicate (length t.selects) (new_outbound setup))
          (sym h.terminal_given);
    }

pub loop-terminal-preserved : goal.loop-terminal-preserved
loop-terminal-preserved g c =
    let items : c.push.new.self.items ≡ c.loop-terminal.peers.items ++ c.in_ok-peer.peer ∷ [] =
    c.in_ok-push.ensures.items in
    let fresh = λ (p : PeerValue). IsNewPeer c.args.setup p.terminal p in
    record {
      made =
          ap (map (λ (p : PeerValue). p.terminal)) items
          ∙ peers_with_one_more c.args.terminals.now c.loop-terminal.terminal-index c.terminal-item.result
          c.loop-terminal.peers.items c.in_ok-peer.peer c.loop-terminal-test.true
          c.terminal-item.is c.loop-terminal.invariant.made
          c.in_ok-peer.ensures.value.terminal_given;
      fresh =
          subst (All fresh) (sym items)
          (All-push fresh c.loop-terminal.peers.items c.in_ok-peer.peer
          c.loop-terminal.invariant.fresh
          (new_peer_own c.args.setup c.terminal-item.result c.in_ok-peer.peer
          c.in_ok-peer.ensures.value));
      peers =
          subst (All IsPeer) (sym items) (All-push IsPeer c.loop-terminal.peers.items
          c.in_ok-peer.peer c.loop-terminal.invariant.peers c.in_ok-peer.ensures.peer);
    }

entries_of : (ts : List TerminalValue) (n : ℕ) (ps : List PeerValue) (list items : List ℕ)
    → map (λ (p : PeerValue). p.terminal) ps ≡ take n ts → length ts ≤ n → items ≡ list
    → All (λ t. t < length ts) list → All (λ t. t < length ps) items
entries_of ts n ps list items made all same h =
    let lengths : length ps ≡ length ts = sym (length-map ps (λ (p : PeerValue). p.terminal))
    ∙ ap length made ∙ ap length (take_all n ts all) in
    subst (λ (k : ℕ). All (λ t. t < k) items) (sym lengths)
    (subst (All (λ t. t < length ts)) (sym same) h)

pub invariant_of-result : goal.invariant_of-result
invariant_of-result g c =
    record {
      place =
          subst (λ (xs : List ℕ). 0 < length xs) (sym c.in_ok-from_slice.ensures.items)
          c.requires.some;
      entries =
          entries_of c.args.terminals.now c.loop-terminal.terminal-index c.loop-terminal.peers.items
          c.args.poll_list.now c.in_ok-from_slice.field-0.items c.loop-terminal.invariant.made
          c.loop-terminal-test.false
          c.in_ok-from_slice.ensures.items c.requires.entries;
      peers = c.loop-terminal.invariant.peers;
    }

pub returns-clause-value : goal.returns-clause-value
returns-clause-value g c =
    record {
      setup_given = refl;
      poll_list_given = c.in_ok-from_slice.ensures.items;
      terminals_given =
          c.loop-terminal.invariant.made
          ∙ take_all c.loop-terminal.terminal-index c.args.terminals.now
          c.loop-terminal-test.false;
      place = refl;
      task = refl;
      failures = refl;
      wacks = refl;
      peers = c.loop-terminal.invariant.fresh;
    }

pub returns-clause-entries : goal.returns-clause-entries
returns-clause-entries g c = invariant_of-result g c
