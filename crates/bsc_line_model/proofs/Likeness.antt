-- Offers, flags and releases: if each terminal and what the control station keeps for it fit
-- together as before, all stations do.
use Rattle.std.proofs.Common.{◌≡◌, ◌⊎◌, inl, inr, ℕ, ◌<◌, ◌≤◌, Bool, true, false, List, length}
use Rattle.std.proofs.Common.{Option, None, Some, slice_set, refl, sym, ◌∙◌, ap, subst, arith}
use Rattle.std.proofs.Common.{get_or-set_other, get_or-set_same}
use Rattle.std.proofs.lemmas.List.{length-set}
use Rattle.bsc_frame.specs.declared.message.Message.{Message}
use Rattle.bsc_frame.specs.declared.message.Message.TheVariants as m
use Rattle.bsc_spool.specs.Queue.{QueueValue, with_offered}
use Rattle.bsc_bid.specs.declared.alternation.Alternation.{Alternation}
use Rattle.bsc_frame.specs.declared.reply.Reply.{Reply}
use Rattle.bsc_frame.specs.declared.reply.Reply.TheVariants.{Ack0, Nak, Wack}
use Rattle.bsc_bid.specs.declared.phase.Phase.{Phase}
use Rattle.bsc_bid.specs.declared.phase.Phase.TheVariants.{Idle, Unanswered, Held, InDoubt}
use Rattle.bsc_bid.specs.Receiver.{ReceiverValue}
use Rattle.bsc_bid.specs.Sender.{SenderValue, release_in}
use Rattle.bsc_bid.specs.Agreement.{Flight, InBid, IsResting}
use Rattle.bsc_bid.specs.EachStep.{ReleaseAgrees}
use Rattle.bsc_bid.specs.Terminal.{TerminalValue}
use Rattle.bsc_tributary.specs.Tributary.{TributaryValue, spool_at, after_release}
use Rattle.bsc_control.specs.declared.task.Replied.{Replied}
use Rattle.bsc_control.specs.declared.task.Task.{Task}
use Rattle.bsc_control.specs.declared.task.Task.TheVariants.{AtRest, Selecting, Sending, Polling}
use Rattle.bsc_control.specs.Peer.{PeerValue, OutboundValue, no_peer, no_outbound, outbound_at}
use Rattle.bsc_control.specs.Peer.{with_outbound, offered, offered_to, outbound_released}
use Rattle.bsc_control.specs.Control.{ControlValue, peer_at, current, with_peer}
use Rattle.bsc_control.specs.Table.{select_address}
use Rattle.bsc_bid.specs.declared.speaker.Speaker.{Speaker}
use Rattle.bsc_bid.specs.declared.speaker.Speaker.TheVariants as sp
use Rattle.bsc_line_model.specs.declared.transmission.Transmission.{Transmission}
use Rattle.bsc_line_model.specs.Line.{terminal_in, no_terminal}
use Rattle.bsc_line_model.specs.Together.{Rests, HasNoBid, NoBids, NoOtherBids, RestsUp, RestsDown}
use Rattle.bsc_line_model.specs.Together.{AllInControlMode, IsFresh, IsFreshAfter, IsAnswer}
use Rattle.bsc_line_model.specs.Together.{selected, IsSelectedBy, IsSelectedWith, IsInBidDown, IsInBidUp}
use Rattle.bsc_line_model.specs.Together.{IsLeftByReceiver, IsPolledBy, IsPolledWith, InTask}
use Rattle.bsc_line_model.specs.BidLaws.{BidLaws}
use Rattle.bsc_line_model.proofs.Stations.{same_or_not}

-- A terminal (x) and what the control station keeps for it (p) became u and q, which differ from
-- them only in what the invariant does not depend on.
pub record IsLike (p : PeerValue) (x : TributaryValue) (q : PeerValue) (u : TributaryValue) : Type 0
  where
    pub terminal : q.terminal ≡ p.terminal
    pub outbounds : length q.outbounds ≡ length p.outbounds
    pub mode : u.mode ≡ x.mode
    pub receiver : u.receiver ≡ x.receiver
    pub rests_up : RestsUp p x → RestsUp q u
    pub rests_down : (k : ℕ) → RestsDown p x k → RestsDown q u k
    pub bids_up : (f : Flight)
        → InBid x.sender.phase x.queue p.receiver.alternation p.receiver.last p.spool.records f
        → InBid u.sender.phase u.queue q.receiver.alternation q.receiver.last q.spool.records f
    pub bids_down : (k : ℕ) (f : Flight)
        → InBid (outbound_at p k).sender.phase (outbound_at p k).queue x.receiver.alternation
        x.receiver.last (spool_at x.spools k).records f →
        InBid (outbound_at q k).sender.phase (outbound_at q k).queue u.receiver.alternation
        u.receiver.last (spool_at u.spools k).records f

-- the stations differ only in what the invariant does not depend on
pub record AreLike (c : ControlValue) (ts : List TributaryValue) (d : ControlValue)
    (us : List TributaryValue) : Type 0 where
  pub current : current d ≡ current c
  pub count : length us ≡ length ts
  pub like : (t : ℕ) → t < length ts
      → IsLike (peer_at c t) (terminal_in ts t) (peer_at d t) (terminal_in us t)

rests_like : (p : PeerValue) (x : TributaryValue) (q : PeerValue) (u : TributaryValue)
    → IsLike p x q u → Rests p x → Rests q u
rests_like p x q u k h =
    record {
      up = k.rests_up h.up;
      down = λ s less. k.rests_down s (h.down s (omega (arith, k.outbounds)));
    }

no_bid_like : (p : PeerValue) (x : TributaryValue) (q : PeerValue) (u : TributaryValue)
    → IsLike p x q u → HasNoBid p x → HasNoBid q u
no_bid_like p x q u k h =
    record {
      mode = λ sends. h.mode (sym k.mode ∙ sends);
      up = k.rests_up h.up;
      down = λ s less. k.rests_down s (h.down s (omega (arith, k.outbounds)));
    }

no_bids_like : (c : ControlValue) (ts : List TributaryValue) (d : ControlValue)
    (us : List TributaryValue) → AreLike c ts d us → NoBids c ts → NoBids d us
no_bids_like c ts d us k h t less =
    let before : t < length ts = omega (arith, k.count) in
    no_bid_like (peer_at c t) (terminal_in ts t) (peer_at d t) (terminal_in us t) (k.like t before)
    (h t before)

others_like : (c : ControlValue) (ts : List TributaryValue) (d : ControlValue)
    (us : List TributaryValue) → AreLike c ts d us → NoOtherBids c ts (current c)
    → NoOtherBids d us (current d)
others_like c ts d us k h t less differ =
    let before : t < length ts = omega (arith, k.count) in
    no_bid_like (peer_at c t) (terminal_in ts t) (peer_at d t) (terminal_in us t) (k.like t before)
    (h t before (λ same. differ (same ∙ sym k.current)))

modes_like : (c : ControlValue) (ts : List TributaryValue) (d : ControlValue)
    (us : List TributaryValue) → AreLike c ts d us → AllInControlMode ts → AllInControlMode us
modes_like c ts d us k h t less =
    let before : t < length ts = omega (arith, k.count) in
    (k.like t before).mode ∙ h t before

fresh_like : (p : PeerValue) (x : TributaryValue) (q : PeerValue) (u : TributaryValue) (s : ℕ)
    → IsLike p x q u → IsFresh x s → IsFresh u s
fresh_like p x q u s k h =
    record {
      mode = k.mode ∙ h.mode;
      even = ap (λ (r : ReceiverValue). r.alternation) k.receiver ∙ h.even;
      last =
          subst (λ (r : ReceiverValue). (r.last ≡ Ack0) ⊎ (r.last ≡ Wack)) (sym k.receiver) h.last;
    }

fresh_after_like : (p : PeerValue) (x : TributaryValue) (q : PeerValue) (u : TributaryValue) (s : ℕ)
    (ts us : List TributaryValue) (enquired : Bool) → IsLike p x q u
    → (AllInControlMode ts → AllInControlMode us) → IsFreshAfter enquired x s ts
    → IsFreshAfter enquired u s us
fresh_after_like p x q u s ts us true k modes (inl h) = inl (fresh_like p x q u s k h)
fresh_after_like p x q u s ts us true k modes (inr h) = inr (modes h)
fresh_after_like p x q u s ts us false k modes h = tt

answer_like : (w : Message) (p : PeerValue) (x : TributaryValue) (q : PeerValue)
    (u : TributaryValue) (s : ℕ) (ts us : List TributaryValue) → IsLike p x q u
    → (AllInControlMode ts → AllInControlMode us) → IsAnswer w x s ts → IsAnswer w u s us
answer_like (m.Reply Nak) p x q u s ts us k modes h = modes h
answer_like (m.Reply Ack0) p x q u s ts us k modes h =
    (fresh_like p x q u s k h.0, ap (λ (r : ReceiverValue). r.last) k.receiver ∙ h.1)
answer_like (m.Reply Wack) p x q u s ts us k modes h =
    (fresh_like p x q u s k h.0, ap (λ (r : ReceiverValue). r.last) k.receiver ∙ h.1)
answer_like _ p x q u s ts us k modes h = absurd h

selected_by_like : (speaker : Speaker) (w : Message) (enquired : Bool) (p : PeerValue)
    (x : TributaryValue) (q : PeerValue) (u : TributaryValue) (e s : ℕ)
    (ts us : List TributaryValue) → IsLike p x q u → (AllInControlMode ts → AllInControlMode us)
    → IsSelectedBy speaker w enquired (selected p e s x ts)
    → IsSelectedBy speaker w enquired (selected q e s u us)
selected_by_like sp.Control w true p x q u e s ts us k modes h = h
selected_by_like sp.Control w false p x q u e s ts us k modes h = h
    ∙ ap (λ (t : TerminalValue). m.Call (select_address t s)) (sym k.terminal)
selected_by_like (sp.Terminal t) w true p x q u e s ts us k modes h =
    (h.0, answer_like w p x q u s ts us k modes h.1)
selected_by_like (sp.Terminal t) w false p x q u e s ts us k modes h =
    (h.0, answer_like w p x q u s ts us k modes h.1)

selected_like : (pending : Option Transmission) (enquired : Bool) (p : PeerValue)
    (x : TributaryValue) (q : PeerValue) (u : TributaryValue) (e s : ℕ)
    (ts us : List TributaryValue) → IsLike p x q u → (AllInControlMode ts → AllInControlMode us)
    → IsSelectedWith pending enquired (selected p e s x ts)
    → IsSelectedWith pending enquired (selected q e s u us)
selected_like None enquired p x q u e s ts us k modes h = tt
selected_like (Some sent) enquired p x q u e s ts us k modes h =
    selected_by_like sent.speaker sent.message enquired p x q u e s ts us k modes h

polled_by_like : (speaker : Speaker) (w : Message) (replied : Replied) (p q : PeerValue) (e : ℕ)
    (ts us : List TributaryValue) → q.terminal ≡ p.terminal
    → (AllInControlMode ts → AllInControlMode us) → IsPolledBy speaker w replied p e ts
    → IsPolledBy speaker w replied q e us
polled_by_like sp.Control w replied p q e ts us k modes (inl h) =
    inl (h.0 ∙ ap (λ (t : TerminalValue). m.Call t.poll) (sym k), h.1)
polled_by_like sp.Control w replied p q e ts us k modes (inr h) =
    inr (h.0, h.1, modes h.2)
polled_by_like (sp.Terminal t) w replied p q e ts us k modes h = (h.0, h.1, modes h.2)

polled_like : (pending : Option Transmission) (replied : Replied) (p q : PeerValue) (e : ℕ)
    (ts us : List TributaryValue) → q.terminal ≡ p.terminal
    → (AllInControlMode ts → AllInControlMode us) → IsPolledWith pending replied p e ts
    → IsPolledWith pending replied q e us
polled_like None replied p q e ts us k modes h = tt
polled_like (Some sent) replied p q e ts us k modes h =
    polled_by_like sent.speaker sent.message replied p q e ts us k modes h

bid_down_like : (pending : Option Transmission) (p : PeerValue) (x : TributaryValue) (q : PeerValue)
    (u : TributaryValue) (e s : ℕ) → IsLike p x q u → IsInBidDown pending p e s x
    → IsInBidDown pending q e s u
bid_down_like pending p x q u e s k b =
    record {
      mode = k.mode ∙ b.mode;
      up = k.rests_up b.up;
      down = λ j less differ. k.rests_down j (b.down j (omega (arith, k.outbounds)) differ);
      flight = b.flight;
      flies = b.flies;
      bid = k.bids_down s b.flight b.bid;
    }

bid_up_like : (pending : Option Transmission) (p : PeerValue) (x : TributaryValue) (q : PeerValue)
    (u : TributaryValue) (e : ℕ) → IsLike p x q u → IsInBidUp pending p e x
    → IsInBidUp pending q e u
bid_up_like pending p x q u e k b =
    record {
      mode = k.mode ∙ b.mode;
      down = λ j less. k.rests_down j (b.down j (omega (arith, k.outbounds)));
      flight = b.flight;
      flies = b.flies;
      bid = k.bids_up b.flight b.bid;
    }

-- the stations fit together as before
pub together_like : (c : ControlValue) (ts : List TributaryValue) (d : ControlValue)
    (us : List TributaryValue) (task : Task) (pending : Option Transmission) → current c < length ts
    → AreLike c ts d us → InTask task pending c ts → InTask task pending d us
together_like c ts d us AtRest pending there k h =
    record {
      silent = h.silent;
      rests = λ t less.
          let before : t < length ts = omega (arith, k.count) in
          rests_like (peer_at c t) (terminal_in ts t) (peer_at d t) (terminal_in us t)
          (k.like t before) (h.rests t before);
    }
together_like c ts d us (Selecting s enquired) pending there k h =
    let e : ℕ = current c in
    let like : IsLike (peer_at c e) (terminal_in ts e) (peer_at d e) (terminal_in us e) =
    k.like e there in
    record {
      no_bids = no_bids_like c ts d us k h.no_bids;
      with_pending =
          subst (λ (n : ℕ). IsSelectedWith pending enquired
          (selected (peer_at d n) n s (terminal_in us n) us))
          (sym k.current)
          (selected_like pending enquired (peer_at c e) (terminal_in ts e) (peer_at d e)
          (terminal_in us e) e s ts us like (modes_like c ts d us k) h.with_pending);
      fresh =
          subst (λ (n : ℕ). IsFreshAfter enquired (terminal_in us n) s us) (sym k.current)
          (fresh_after_like (peer_at c e) (terminal_in ts e) (peer_at d e) (terminal_in us e) s ts us
          enquired like (modes_like c ts d us k) h.fresh);
    }
together_like c ts d us (Sending s) pending there k h =
    let e : ℕ = current c in
    record {
      others = others_like c ts d us k h.others;
      present =
          subst (λ (n : ℕ). IsInBidDown pending (peer_at d n) n s (terminal_in us n)
          ⊎ IsLeftByReceiver pending (peer_at d n) (terminal_in us n) us) (sym k.current)
          (elim h.present [
            | inl b ↦ inl (bid_down_like pending (peer_at c e) (terminal_in ts e) (peer_at d e)
                (terminal_in us e) e s (k.like e there) b)
            | inr left ↦ inr (record {
              modes = modes_like c ts d us k left.modes;
              rests =
                  rests_like (peer_at c e) (terminal_in ts e) (peer_at d e) (terminal_in us e)
                  (k.like e there) left.rests;
              unheard = left.unheard;
            })
          ]);
    }
together_like c ts d us (Polling replied) pending there k h =
    let e : ℕ = current c in
    let like : IsLike (peer_at c e) (terminal_in ts e) (peer_at d e) (terminal_in us e) =
    k.like e there in
    record {
      others = others_like c ts d us k h.others;
      present =
          subst (λ (n : ℕ). (HasNoBid (peer_at d n) (terminal_in us n)
          × IsPolledWith pending replied (peer_at d n) n us)
          ⊎ IsInBidUp pending (peer_at d n) n (terminal_in us n)) (sym k.current)
          (elim h.present [
            | inl q ↦
                inl (
                  no_bid_like (peer_at c e) (terminal_in ts e) (peer_at d e) (terminal_in us e) like
                      q.0,
                  polled_like pending replied (peer_at c e) (peer_at d e) e ts us like.terminal
                      (modes_like c ts d us k) q.1,
                )
            | inr b ↦ inr (bid_up_like pending (peer_at c e) (terminal_in ts e) (peer_at d e)
                (terminal_in us e) e like b)
          ]);
    }

pub like_itself : (p : PeerValue) (x : TributaryValue) → IsLike p x p x
like_itself p x =
    record {
      terminal = refl;
      outbounds = refl;
      mode = refl;
      receiver = refl;
      rests_up = λ h. h;
      rests_down = λ k h. h;
      bids_up = λ f h. h;
      bids_down = λ k f h. h;
    }

-- one terminal was replaced
pub terminal_like : (c : ControlValue) (ts : List TributaryValue) (t : ℕ) (u : TributaryValue) → t
    < length ts → IsLike (peer_at c t) (terminal_in ts t) (peer_at c t) u
    → AreLike c ts c (slice_set ts t u)
terminal_like c ts t u there k =
    record {
      current = refl;
      count = length-set ts t u;
      like = λ n less.
          elim (same_or_not n t) [
            | inl same ↦
                subst (λ (j : ℕ). IsLike (peer_at c j) (terminal_in ts j) (peer_at c j)
                (terminal_in (slice_set ts t u) j)) (sym same)
                (subst (λ (y : TributaryValue). IsLike (peer_at c t) (terminal_in ts t)
                (peer_at c t) y) (sym (get_or-set_same ts t u no_terminal there)) k)
            | inr differ ↦
                subst (λ (y : TributaryValue). IsLike (peer_at c n) (terminal_in ts n) (peer_at c n)
                y) (sym (get_or-set_other ts t n u no_terminal differ))
                (like_itself (peer_at c n) (terminal_in ts n))
          ];
    }

-- what the control station keeps for one terminal was replaced
pub peer_like : (c : ControlValue) (ts : List TributaryValue) (t : ℕ) (q : PeerValue) → t
    < length c.peers → IsLike (peer_at c t) (terminal_in ts t) q (terminal_in ts t)
    → AreLike c ts (with_peer c t q) ts
peer_like c ts t q there k =
    record {
      current = refl;
      count = refl;
      like = λ n less.
          elim (same_or_not n t) [
            | inl same ↦
                subst (λ (j : ℕ). IsLike (peer_at c j) (terminal_in ts j)
                (peer_at (with_peer c t q) j) (terminal_in ts j)) (sym same)
                (subst (λ (z : PeerValue). IsLike (peer_at c t) (terminal_in ts t) z
                (terminal_in ts t)) (sym (get_or-set_same c.peers t q no_peer there)) k)
            | inr differ ↦
                subst (λ (z : PeerValue). IsLike (peer_at c n) (terminal_in ts n) z
                (terminal_in ts n)) (sym (get_or-set_other c.peers t n q no_peer differ))
                (like_itself (peer_at c n) (terminal_in ts n))
          ];
    }

-- flags at either end
pub flags_like : (p : PeerValue) (x : TributaryValue) (for_it ready at_it : Bool)
    → IsLike p x (record p { urgent = for_it }) (record x { ready = ready; urgent = at_it })
flags_like p x for_it ready at_it =
    record {
      terminal = refl;
      outbounds = refl;
      mode = refl;
      receiver = refl;
      rests_up = λ h. h;
      rests_down = λ k h. h;
      bids_up = λ f h. h;
      bids_down = λ k f h. h;
    }

-- whether the terminal is polled
pub polled_flag_like : (p : PeerValue) (x : TributaryValue) (polled : Bool)
    → IsLike p x (record p { polled = polled }) x
polled_flag_like p x polled =
    record {
      terminal = refl;
      outbounds = refl;
      mode = refl;
      receiver = refl;
      rests_up = λ h. h;
      rests_down = λ k h. h;
      bids_up = λ f h. h;
      bids_down = λ k f h. h;
    }

-- an offer at a terminal
pub offer_at_like : (laws : BidLaws) (p : PeerValue) (x : TributaryValue) (r : List ℕ) → length r
    ≤ x.queue.format.full → IsLike p x p (record x { queue = with_offered x.queue r })
offer_at_like laws p x r short =
    record {
      terminal = refl;
      outbounds = refl;
      mode = refl;
      receiver = refl;
      rests_up = λ h. laws.offer_at_rest x.sender.phase x.queue p.spool.records r short h;
      rests_down = λ k h. h;
      bids_up =
          λ f h. laws.offer x.sender.phase x.queue p.receiver.alternation p.receiver.last
          p.spool.records f r short h;
      bids_down = λ k f h. h;
    }

-- the queue and the sender of one selection address were replaced
pub outbound_like : (p : PeerValue) (x : TributaryValue) (s : ℕ) (o : OutboundValue) → s
    < length p.outbounds →
    (RestsDown p x s → IsResting o.sender.phase o.queue (spool_at x.spools s).records) →
    ((f : Flight)
    → InBid (outbound_at p s).sender.phase (outbound_at p s).queue x.receiver.alternation
    x.receiver.last (spool_at x.spools s).records f
    → InBid o.sender.phase o.queue x.receiver.alternation x.receiver.last
    (spool_at x.spools s).records f) →
    IsLike p x (with_outbound p s o) x
outbound_like p x s o there rests bids =
    let q : PeerValue = with_outbound p s o in
    let this : outbound_at q s ≡ o = get_or-set_same p.outbounds s o no_outbound there in
    record {
      terminal = refl;
      outbounds = length-set p.outbounds s o;
      mode = refl;
      receiver = refl;
      rests_up = λ h. h;
      rests_down = λ k h.
          elim (same_or_not k s) [
            | inl same ↦
                subst (λ (j : ℕ). RestsDown q x j) (sym same)
                (subst (λ (z : OutboundValue). IsResting z.sender.phase z.queue
                (spool_at x.spools s).records) (sym this)
                (rests (subst (λ (j : ℕ). RestsDown p x j) same h)))
            | inr differ ↦
                subst (λ (z : OutboundValue). IsResting z.sender.phase z.queue
                (spool_at x.spools k).records)
                (sym (get_or-set_other p.outbounds s k o no_outbound differ)) h
          ];
      bids_up = λ f h. h;
      bids_down = λ k f h.
          elim (same_or_not k s) [
            | inl same ↦
                subst (λ (j : ℕ). InBid (outbound_at q j).sender.phase (outbound_at q j).queue
                x.receiver.alternation x.receiver.last (spool_at x.spools j).records f)
                (sym same)
                (subst (λ (z : OutboundValue). InBid z.sender.phase z.queue x.receiver.alternation
                x.receiver.last (spool_at x.spools s).records f) (sym this)
                (bids f
                (subst (λ (j : ℕ). InBid (outbound_at p j).sender.phase (outbound_at p j).queue
                x.receiver.alternation x.receiver.last (spool_at x.spools j).records f) same
                h)))
            | inr differ ↦
                subst (λ (z : OutboundValue). InBid z.sender.phase z.queue x.receiver.alternation
                x.receiver.last (spool_at x.spools k).records f)
                (sym (get_or-set_other p.outbounds s k o no_outbound differ)) h
          ];
    }

-- an offer for a selection address
pub offer_for_like : (laws : BidLaws) (p : PeerValue) (x : TributaryValue) (s : ℕ) (r : List ℕ) → s
    < length p.outbounds → length r ≤ (outbound_at p s).queue.format.full
    → IsLike p x (offered_to p s r) x
offer_for_like laws p x s r there short =
    let o : OutboundValue = outbound_at p s in
    outbound_like p x s (offered o r) there
    (λ h. laws.offer_at_rest o.sender.phase o.queue (spool_at x.spools s).records r short h)
    (λ f h. laws.offer o.sender.phase o.queue x.receiver.alternation x.receiver.last
    (spool_at x.spools s).records f r short h)

-- a release by the spooled count: the doubt ends, and all else stays
released_rests : (laws : BidLaws) (s : SenderValue) (q : QueueValue) (spooled : List (List ℕ))
    (phase : Phase) → s.phase ≡ phase → IsResting s.phase q spooled →
    IsResting (release_in s q phase (length spooled)).sender.phase
    (release_in s q phase (length spooled)).queue spooled
released_rests laws s q spooled Idle e h = h
released_rests laws s q spooled (Unanswered b) e h = h
released_rests laws s q spooled (Held end x) e h = h
released_rests laws s q spooled (InDoubt k) e h =
    let r : ReleaseAgrees (release_in s q (InDoubt k) (length spooled)) spooled =
    subst (λ (z : Phase). ReleaseAgrees (release_in s q z (length spooled)) spooled) e
    (laws.release s q k spooled e (subst (λ (z : Phase). IsResting z q spooled) e h)) in
    subst (λ (z : Phase). IsResting z (release_in s q (InDoubt k) (length spooled)).queue spooled)
    (sym r.idle) r.rest

released_bids : (s : SenderValue) (q : QueueValue) (alternation : Alternation) (last : Reply)
    (spooled : List (List ℕ)) (f : Flight) (n : ℕ) (phase : Phase) → s.phase ≡ phase
    → InBid s.phase q alternation last spooled f →
    InBid (release_in s q phase n).sender.phase (release_in s q phase n).queue alternation last
    spooled f
released_bids s q alternation last spooled f n Idle e h = h
released_bids s q alternation last spooled f n (Unanswered b) e h = h
released_bids s q alternation last spooled f n (Held end x) e h = h
released_bids s q alternation last spooled f n (InDoubt k) e h =
    let i : InBid (InDoubt k) q alternation last spooled f =
    subst (λ (z : Phase). InBid z q alternation last spooled f) e h in
    absurd i.agree

-- a release at a terminal
pub release_from_like : (laws : BidLaws) (p : PeerValue) (x : TributaryValue)
    → IsLike p x p (after_release x (length p.spool.records))
release_from_like laws p x =
    record {
      terminal = refl;
      outbounds = refl;
      mode = refl;
      receiver = refl;
      rests_up = λ h. released_rests laws x.sender x.queue p.spool.records x.sender.phase refl h;
      rests_down = λ k h. h;
      bids_up =
          λ f h. released_bids x.sender x.queue p.receiver.alternation p.receiver.last
          p.spool.records f (length p.spool.records) x.sender.phase refl h;
      bids_down = λ k f h. h;
    }

-- a release at the control station
pub release_to_like : (laws : BidLaws) (p : PeerValue) (x : TributaryValue) (s : ℕ) → s
    < length p.outbounds
    → IsLike p x
    (with_outbound p s (outbound_released (outbound_at p s) (length (spool_at x.spools s).records)))
    x
release_to_like laws p x s there =
    let o : OutboundValue = outbound_at p s in
    let n : ℕ = length (spool_at x.spools s).records in
    outbound_like p x s (outbound_released o n) there
    (λ h. released_rests laws o.sender o.queue (spool_at x.spools s).records o.sender.phase refl h)
    (λ f h. released_bids o.sender o.queue x.receiver.alternation x.receiver.last
    (spool_at x.spools s).records f n o.sender.phase refl h)
