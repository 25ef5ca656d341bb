-- A station that was made is a control station.
use Rattle.std.proofs.Common.{◌≡◌, ℕ, zero, suc, ◌≤◌, ◌<◌, List, [], ◌∷◌, length, get_or, replicate}
use Rattle.std.proofs.Common.{sym, ◌∙◌, ap, subst, arith}
use Rattle.std.proofs.lemmas.List.{length-map}
use Rattle.std.specs.List.{All}
use Rattle.bsc_bid.specs.Ready.{IsAtRest}
use Rattle.bsc_bid.specs.Setup.{SetupValue}
use Rattle.bsc_bid.specs.Terminal.{TerminalValue}
use Rattle.bsc_bid.specs.declared.limits.TheConstants.{MAX_TERMINALS, MAX_ENTRIES}
use Rattle.bsc_control.specs.declared.task.Task.{Task}
use Rattle.bsc_bid.specs.Addresses.{AreDistinct}
use Rattle.bsc_control.specs.Control.{ControlValue, HasEntries, peer, peer_at}
use Rattle.bsc_control.specs.Kept.{SuitsTask, HasSettings, IsControl, IsNewControl}
use Rattle.bsc_control.specs.Peer.{OutboundValue, PeerValue, IsNewPeer, no_outbound, no_peer}
use Rattle.bsc_control.specs.Peer.{outbound_at, new_outbound}
use Rattle.bsc_bid.specs.Refusals.{IsTerminalCount, AreEntries}

-- what holds of all elements and of the default holds at each place
holds_of_all_and_default : {X : Type 0} (P : X → Type 0) (xs : List X) (d : X) → All P xs → P d → (k : ℕ)
    → P (get_or xs k d)
holds_of_all_and_default P [] d all none k = none
holds_of_all_and_default P (x ∷ xs) d all none zero = all 0 d (omega arith)
holds_of_all_and_default P (x ∷ xs) d all none (suc k) =
    holds_of_all_and_default P xs d (λ i e within. all (suc i) e (omega arith)) none k

-- what holds of an element holds at each place of a list of its copies
holds_of_copies : {X : Type 0} (P : X → Type 0) (n : ℕ) (x d : X) → P x → (k : ℕ) → k
    < length (replicate n x) → P (get_or (replicate n x) k d)
holds_of_copies P zero x d h k within = absurd (omega (arith, within))
holds_of_copies P (suc n) x d h zero within = h
holds_of_copies P (suc n) x d h (suc k) within = holds_of_copies P n x d h k (omega (arith, within))

-- what holds of a new sending side holds of each sending side of a new control station
holds_of_new : (P : OutboundValue → Type 0) (setup : SetupValue) (c : ControlValue)
    → All (λ (p : PeerValue). IsNewPeer setup p.terminal p) c.peers → P (new_outbound setup)
    → (t s : ℕ) → s < length (peer_at c t).outbounds → P (outbound_at (peer_at c t) s)
holds_of_new P setup c all new t =
    holds_of_all_and_default (λ (p : PeerValue). (s : ℕ) → s < length p.outbounds → P (outbound_at p s)) c.peers
    no_peer
    (λ i e within s there.
    let p : PeerValue = get_or c.peers i e in
    let os : List OutboundValue = replicate (length p.terminal.selects) (new_outbound setup) in
    let is : p.outbounds ≡ os = (all i e within).outbounds in
    subst (λ (xs : List OutboundValue). P (get_or xs s no_outbound)) (sym is)
    (holds_of_copies P (length p.terminal.selects) (new_outbound setup) no_outbound new s
    (subst (λ (xs : List OutboundValue). s < length xs) is there)))
    (λ s there. absurd (omega (arith, there)))
    t

-- a place is in a list or past its end
rests_within_or_past_end : (os : List OutboundValue) (s : ℕ)
    → (s < length os → IsAtRest (get_or os s no_outbound).sender.phase)
    → IsAtRest (get_or os s no_outbound).sender.phase
rests_within_or_past_end [] s h = tt
rests_within_or_past_end (o ∷ os) zero h = h (omega arith)
rests_within_or_past_end (o ∷ os) (suc s) h = rests_within_or_past_end os s (λ within. h (omega (arith, within)))

short_list : (n : ℕ) → (MAX_ENTRIES < n → MAX_ENTRIES < MAX_ENTRIES) → n ≤ MAX_ENTRIES
short_list n h = grind (arith, h)

pub new_control : (setup : SetupValue) (ts : List TerminalValue) (list : List ℕ) (c : ControlValue)
    → IsTerminalCount (length ts) → AreDistinct ts → AreEntries (length ts) list → HasEntries c
    → IsNewControl setup ts list c → IsControl c
new_control setup ts list c number distinct right entries new =
    let lengths : length c.peers ≡ length ts =
    sym (length-map c.peers (λ (p : PeerValue). p.terminal)) ∙ ap length new.terminals_given in
    let short : MAX_ENTRIES < length list → MAX_ENTRIES < MAX_ENTRIES =
    λ long. (right MAX_ENTRIES long).0 in
    record {
      some = subst (λ (n : ℕ). 1 ≤ n) (sym lengths) number.some;
      few = subst (λ (n : ℕ). n ≤ MAX_TERMINALS) (sym lengths) number.few;
      list =
          subst (λ (xs : List ℕ). length xs ≤ MAX_ENTRIES) (sym new.poll_list_given)
          (short_list (length list) short);
      distinct = subst AreDistinct (sym new.terminals_given) distinct;
      entries = entries;
      orderly =
          record {
            suits = subst (λ (task : Task). SuitsTask task (peer c)) (sym new.task) tt;
            rests =
                λ t s unused. rests_within_or_past_end (peer_at c t).outbounds s
                (holds_of_new (λ (o : OutboundValue). IsAtRest o.sender.phase) setup c new.peers
                tt t s);
            settings =
                holds_of_new (HasSettings c) setup c new.peers
                (record {
                  setup = sym new.setup_given;
                  format =
                      ap (λ (x : SetupValue). x.format) (sym new.setup_given);
                });
          };
    }
