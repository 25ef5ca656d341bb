-- What stays when the sender and the queue of one selection address are replaced.
use Rattle.std.proofs.Common.{◌≡◌, ℕ, ◌≤◌, ◌<◌, List, length, get_or, refl, sym, ◌∙◌, ap, subst}
use Rattle.std.proofs.Common.{arith}
use Rattle.std.proofs.lemmas.List.{length-set}
use Rattle.bsc_spool.specs.Queue.{waiting}
use Rattle.bsc_bid.specs.declared.phase.Phase.TheVariants.{Idle}
use Rattle.bsc_bid.specs.Ready.{IsGoing, IsAtRest}
use Rattle.bsc_control.specs.declared.task.Replied.TheVariants.{Nothing, Uninterrupted, Interrupted}
use Rattle.bsc_control.specs.declared.task.Task.{Task}
use Rattle.bsc_control.specs.declared.task.Task.TheVariants.{AtRest, Selecting, Sending, Polling}
use Rattle.bsc_control.specs.Control.{ControlValue, peer_at, peer, current, with_peer}
use Rattle.bsc_control.specs.Kept.{SuitsTask, outbound_of, HasSettings, IsOrderly}
use Rattle.bsc_control.specs.Peer.{OutboundValue, PeerValue, no_outbound, no_peer, outbound_at}
use Rattle.bsc_control.specs.Peer.{with_outbound}
use Rattle.bsc_control.proofs.PeerLists.{value_kept_by_set, holds_after_set}

-- the station once the sender to a selection address of a terminal and its queue are replaced
abbrev pub replaced : ControlValue → ℕ → ℕ → OutboundValue → ControlValue
replaced c t s o = with_peer c t (with_outbound (peer_at c t) s o)

-- a function of the sending sides that stays at the replaced one stays everywhere
pub unchanged_by_replacement : {B : Type 0} (f : OutboundValue → B) (c : ControlValue) (t s : ℕ) (o : OutboundValue)
    → f o ≡ f (outbound_of c t s) → (j k : ℕ) → f (outbound_of (replaced c t s o) j k)
    ≡ f (outbound_of c j k)
unchanged_by_replacement f c t s o same j k =
    value_kept_by_set (λ (p : PeerValue). f (outbound_at p k)) c.peers t j (with_outbound (peer_at c t) s o)
    no_peer (value_kept_by_set f (peer_at c t).outbounds s k o no_outbound same)

pub outbounds_kept_by_replacement : (c : ControlValue) (t s : ℕ) (o : OutboundValue) (j : ℕ)
    → length (peer_at (replaced c t s o) j).outbounds ≡ length (peer_at c j).outbounds
outbounds_kept_by_replacement c t s o j =
    value_kept_by_set (λ (p : PeerValue). length p.outbounds) c.peers t j (with_outbound (peer_at c t) s o)
    no_peer (length-set (peer_at c t).outbounds s o)

pub settings_replaced : (c : ControlValue) (t s : ℕ) (o : OutboundValue) → o.sender.setup
    ≡ (outbound_of c t s).sender.setup → o.queue.format ≡ (outbound_of c t s).queue.format
    → ((j k : ℕ) → k < length (peer_at c j).outbounds → HasSettings c (outbound_of c j k))
    → (j k : ℕ) → k < length (peer_at (replaced c t s o) j).outbounds
    → HasSettings (replaced c t s o) (outbound_of (replaced c t s o) j k)
settings_replaced c t s o setup format h j k there =
    let was : HasSettings c (outbound_of c j k) =
    h j k (subst (λ (n : ℕ). k < n) (outbounds_kept_by_replacement c t s o j) there) in
    record {
      setup = unchanged_by_replacement (λ (x : OutboundValue). x.sender.setup) c t s o setup j k ∙ was.setup;
      format = unchanged_by_replacement (λ (x : OutboundValue). x.queue.format) c t s o format j k ∙ was.format;
    }

-- a task finds in the new sending side what it found in the old one
pub record Follows (o x : OutboundValue) : Type 0 where
  pub rests : IsAtRest o.sender.phase → IsAtRest x.sender.phase
  pub goes : IsGoing o.sender.phase → IsGoing x.sender.phase
  pub idle : o.sender.phase ≡ Idle → x.sender.phase ≡ Idle
  pub some : o.sender.phase ≡ Idle → 1 ≤ length (waiting o.queue) → 1 ≤ length (waiting x.queue)

outbound_follows_itself : (o : OutboundValue) → Follows o o
outbound_follows_itself o = record { rests = λ h. h; goes = λ h. h; idle = λ h. h; some = λ e h. h }

follows_everywhere : (c : ControlValue) (t s : ℕ) (o : OutboundValue) → t < length c.peers → s
    < length (peer_at c t).outbounds → Follows (outbound_of c t s) o
    → (j k : ℕ) → Follows (outbound_of c j k) (outbound_of (replaced c t s o) j k)
follows_everywhere c t s o within there follows j k =
    holds_after_set (λ (i : ℕ) (p : PeerValue). (n : ℕ) → Follows (outbound_of c i n) (outbound_at p n))
    c.peers t (with_outbound (peer_at c t) s o) no_peer
    (holds_after_set (λ (n : ℕ) (x : OutboundValue). Follows (outbound_of c t n) x) (peer_at c t).outbounds
    s o no_outbound follows (λ le. absurd (omega (arith, le, there)))
    (λ n ne. outbound_follows_itself (outbound_of c t n)))
    (λ le. absurd (omega (arith, le, within)))
    (λ i ne n. outbound_follows_itself (outbound_of c i n))
    j k

suits_following : (task : Task) (p q : PeerValue) → q.receiver ≡ p.receiver → length q.outbounds
    ≡ length p.outbounds → ((k : ℕ) → Follows (outbound_at p k) (outbound_at q k))
    → SuitsTask task p → SuitsTask task q
suits_following AtRest p q receiver lengths follows suits = tt
suits_following (Selecting s enquired) p q receiver lengths follows suits =
    record {
      there = subst (λ (n : ℕ). s < n) (sym lengths) suits.there;
      idle = (follows s).idle suits.idle;
      some = (follows s).some suits.idle suits.some;
    }
suits_following (Sending s) p q receiver lengths follows suits =
    record {
      there = subst (λ (n : ℕ). s < n) (sym lengths) suits.there;
      going =
          (follows s).goes suits.going;
    }
suits_following (Polling Nothing) p q receiver lengths follows suits = receiver ∙ suits
suits_following (Polling Uninterrupted) p q receiver lengths follows suits = tt
suits_following (Polling Interrupted) p q receiver lengths follows suits = tt

-- the station stays in order if one sending side is replaced by one that follows it
pub orderly_replaced : (c : ControlValue) (t s : ℕ) (o : OutboundValue) → t < length c.peers → s
    < length (peer_at c t).outbounds → o.sender.setup ≡ (outbound_of c t s).sender.setup
    → o.queue.format ≡ (outbound_of c t s).queue.format
    → Follows (outbound_of c t s) o → IsOrderly c → IsOrderly (replaced c t s o)
orderly_replaced c t s o within there setup format follows h =
    let all = follows_everywhere c t s o within there follows in
    record {
      suits =
          suits_following c.task (peer c) (peer (replaced c t s o))
          (value_kept_by_set (λ (p : PeerValue). p.receiver) c.peers t (current c)
          (with_outbound (peer_at c t) s o) no_peer refl)
          (outbounds_kept_by_replacement c t s o (current c))
          (all (current c))
          h.suits;
      rests = λ j k unused. (all j k).rests (h.rests j k unused);
      settings = settings_replaced c t s o setup format h.settings;
    }

-- and if only flags of a terminal change
pub orderly_flags : (c : ControlValue) (t : ℕ) (p : PeerValue) → p.receiver ≡ (peer_at c t).receiver
    → p.outbounds ≡ (peer_at c t).outbounds → IsOrderly c → IsOrderly (with_peer c t p)
orderly_flags c t p receiver outbounds h =
    let same =
    λ (j : ℕ). value_kept_by_set (λ (x : PeerValue). x.outbounds) c.peers t j p no_peer outbounds in
    let follows =
    λ (j k : ℕ). subst (λ (os : List OutboundValue). Follows (outbound_of c j k)
    (get_or os k no_outbound)) (sym (same j)) (outbound_follows_itself (outbound_of c j k)) in
    record {
      suits =
          suits_following c.task (peer c) (peer (with_peer c t p))
          (value_kept_by_set (λ (x : PeerValue). x.receiver) c.peers t (current c) p no_peer receiver)
          (ap length (same (current c)))
          (follows (current c))
          h.suits;
      rests = λ j k unused. (follows j k).rests (h.rests j k unused);
      settings = λ j k there.
          let was : HasSettings c (outbound_of c j k) =
          h.settings j k (subst (λ (os : List OutboundValue). k < length os) (same j) there) in
          record {
            setup =
                ap (λ (os : List OutboundValue). (get_or os k no_outbound).sender.setup) (same j)
                ∙ was.setup;
            format =
                ap (λ (os : List OutboundValue). (get_or os k no_outbound).queue.format) (same j)
                ∙ was.format;
          };
    }
