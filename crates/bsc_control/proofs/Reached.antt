-- What is reached through the peers of a control station, and what remains when it is replaced.
use Rattle.std.proofs.Common.{◌≡◌, ℕ, ◌<◌, List, length, sym, ◌∙◌, ap, subst}
use Rattle.std.proofs.lemmas.List.{set-get_or, get_or_read}
use Rattle.std.specs.Prelude.{slice_index_or, Result, Ok, Err}
use Rattle.std.specs.Result.{OnOk, OnErr}
use Rattle.bsc_control.specs.Control.{ControlValue, peer_at, with_peer}
use Rattle.bsc_control.specs.Kept.{IsControl, outbound_of}
use Rattle.bsc_control.specs.Peer.{OutboundValue, PeerValue, IsOutbound, no_outbound, no_peer}
use Rattle.bsc_control.specs.Peer.{outbound_at, with_outbound, outbound_released, offered}
use Rattle.bsc_control.specs.Peer.{offered_to}
use Rattle.bsc_control.proofs.Controls.{KeepsOutbound, IsFlagged, StaysControl, stays_flagged}
use Rattle.bsc_control.proofs.Controls.{stays_replaced}
use Rattle.bsc_control.proofs.Replacing.{replaced}

-- the station c has the fields d, and what it keeps for this terminal has the fields p
pub record IsPeerReached (c d : ControlValue) (t : ℕ) (p : PeerValue) : Type 0 where
  pub station : d ≡ c
  pub within : t < length c.peers
  pub peer : p ≡ peer_at c t

pub peer_reached : {c d : ControlValue} {t : ℕ} {p q : PeerValue} → d ≡ c → t < length c.peers
    → p ≡ q → q ≡ slice_index_or d.peers t q → IsPeerReached c d t p
peer_reached {c} {d} {t} {p} {q} station within fields read =
    let there : t < length d.peers =
    subst (λ (x : ControlValue). t < length x.peers) (sym station) within in
    record {
      station = station;
      within = within;
      peer =
          fields ∙ get_or_read d.peers t q there read no_peer
          ∙ ap (λ (x : ControlValue). peer_at x t) station;
    }

-- the sending side of this selection address is o
pub record IsReached (c d : ControlValue) (t s : ℕ) (p : PeerValue) (o : OutboundValue) : Type 0
  where
    pub reached : IsPeerReached c d t p
    pub there : s < length (peer_at c t).outbounds
    pub outbound : o ≡ outbound_of c t s

pub outbound_reached : {c d : ControlValue} {t s : ℕ} {p : PeerValue} {o : OutboundValue}
    → IsPeerReached c d t p → s < length (peer_at c t).outbounds
    → o ≡ slice_index_or p.outbounds s o → IsReached c d t s p o
outbound_reached {c} {d} {t} {s} {p} {o} reached there read =
    let within : s < length p.outbounds =
    subst (λ (x : PeerValue). s < length x.outbounds) (sym reached.peer) there in
    record {
      reached = reached;
      there = there;
      outbound =
          get_or_read p.outbounds s o within read no_outbound
          ∙ ap (λ (x : PeerValue). outbound_at x s) reached.peer;
    }

pub replaced_is : (c d : ControlValue) (t s : ℕ) (p : PeerValue) (x : OutboundValue)
    → IsPeerReached c d t p → with_peer d t (with_outbound p s x) ≡ replaced c t s x
replaced_is c d t s p x h =
    ap (λ (y : PeerValue). with_peer d t (with_outbound y s x)) h.peer
    ∙ ap (λ (y : ControlValue). with_peer y t (with_outbound (peer_at c t) s x)) h.station

-- the flags change as f says
pub stays_flag : {c d : ControlValue} {t : ℕ} {p : PeerValue} (f : PeerValue → PeerValue)
    → ((x : PeerValue) → IsFlagged x (f x)) → IsControl c → IsPeerReached c d t p
    → StaysControl c (with_peer d t (f p))
stays_flag {c} {d} {t} {p} f flagged h reached =
    let same : with_peer d t (f p) ≡ with_peer c t (f (peer_at c t)) =
    ap (λ (y : PeerValue). with_peer d t (f y)) reached.peer
    ∙ ap (λ (y : ControlValue). with_peer y t (f (peer_at c t))) reached.station in
    subst (StaysControl c) (sym same)
    (stays_flagged c t (f (peer_at c t)) h reached.within (flagged (peer_at c t)))

-- the sending side of the address is replaced
pub stays_reached : {c d : ControlValue} {t s : ℕ} {p : PeerValue} {o x : OutboundValue}
    → IsControl c → IsReached c d t s p o → IsOutbound x → KeepsOutbound o x
    → StaysControl c (with_peer d t (with_outbound p s x))
stays_reached {c} {d} {t} {s} {p} {o} {x} h reached ready keeps =
    let kept : KeepsOutbound (outbound_of c t s) x =
    subst (λ (y : OutboundValue). KeepsOutbound y x) reached.outbound keeps in
    subst (StaysControl c) (sym (replaced_is c d t s p x reached.reached))
    (stays_replaced c t s x h reached.reached.within reached.there ready kept)

-- replacing a sending side by itself changes nothing
pub replaced_by_itself : (c : ControlValue) (t s : ℕ) → replaced c t s (outbound_of c t s) ≡ c
replaced_by_itself c t s =
    ap (λ os. with_peer c t (record (peer_at c t) { outbounds = os }))
    (set-get_or (peer_at c t).outbounds s no_outbound)
    ∙ ap (λ ps. record c { peers = ps }) (set-get_or c.peers t no_peer)

pub unchanged_reached : {E : Type 0} {c d : ControlValue} {t s : ℕ} {p : PeerValue}
    {o : OutboundValue}
    (answer : Result (Unit {0}) E) (x : OutboundValue) → IsReached c d t s p o
    → OnErr answer (x ≡ o) → OnErr answer (with_peer d t (with_outbound p s x) ≡ c)
unchanged_reached (Ok u) x reached err = err
unchanged_reached {E} {c} {d} {t} {s} {p} {o} (Err e) x reached err =
    replaced_is c d t s p x reached.reached ∙ ap (replaced c t s) (err ∙ reached.outbound)
    ∙ replaced_by_itself c t s

-- what the contracts of the methods say of the result, if the fields e are the station's
pub flag_left : (f : PeerValue → PeerValue) (c d e : ControlValue) (t : ℕ) (p : PeerValue)
    → IsPeerReached c d t p → c ≡ e → with_peer d t (f p) ≡ with_peer e t (f (peer_at e t))
flag_left f c d e t p reached same =
    ap (λ (y : PeerValue). with_peer d t (f y)) reached.peer
    ∙ ap (λ (y : ControlValue). with_peer y t (f (peer_at c t))) reached.station
    ∙ ap (λ (y : ControlValue). with_peer y t (f (peer_at y t))) same

pub released_left : (c d e : ControlValue) (t s k : ℕ) (p : PeerValue) (o x : OutboundValue)
    (count : ℕ) → IsReached c d t s p o → c ≡ e → s ≡ k → x ≡ outbound_released o count
    → with_peer d t (with_outbound p s x)
    ≡ with_peer e t (with_outbound (peer_at e t) k (outbound_released (outbound_of e t k) count))
released_left c d e t s k p o x count reached same select is =
    cc (reached.reached.station, reached.reached.peer, reached.outbound, same, select, is)

pub offered_left : {E : Type 0} (answer : Result (Unit {0}) E) (c d e : ControlValue) (t s : ℕ)
    (p : PeerValue) (o x : OutboundValue) (r : List ℕ) → IsReached c d t s p o → c ≡ e
    → OnOk answer (x ≡ offered o r)
    → OnOk answer (with_peer d t (with_outbound p s x)
    ≡ with_peer e t (offered_to (peer_at e t) s r))
offered_left (Ok u) c d e t s p o x r reached same is =
    cc (reached.reached.station, reached.reached.peer, reached.outbound, same, is)
offered_left (Err f) c d e t s p o x r reached same is = tt

pub read_left : {B : Type 0} (f : OutboundValue → B) (c d e : ControlValue) (t s k : ℕ)
    (p : PeerValue) (o : OutboundValue) (b : B) → IsReached c d t s p o → c ≡ e → s ≡ k → b ≡ f o
    → b ≡ f (outbound_of e t k)
read_left f c d e t s k p o b reached same select is =
    is ∙ ap f (reached.outbound ∙ ap (λ (x : ControlValue). outbound_of x t s) same
    ∙ ap (outbound_of e t) select)
