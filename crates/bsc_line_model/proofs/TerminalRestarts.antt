-- A terminal begins again: the stations fit together afterwards, in each task of the control
-- station.
use Rattle.std.proofs.Common.{◌≡◌, ◌≢◌, ◌⊎◌, inl, inr, ℕ, ◌<◌, Bool, true, false, List, length}
use Rattle.std.proofs.Common.{Option, None, Some, slice_set, refl, sym, ◌∙◌, ap, subst, arith}
use Rattle.std.proofs.Common.{get_or-set_other, get_or-set_same}
use Rattle.std.proofs.lemmas.List.{length-set}
use Rattle.bsc_frame.specs.declared.message.Message.{Message}
use Rattle.bsc_frame.specs.declared.message.Message.TheVariants as m
use Rattle.bsc_frame.specs.declared.reply.Reply.TheVariants.{Ack0, Nak, Wack}
use Rattle.bsc_bid.specs.Agreement.{Flight, InBid}
use Rattle.bsc_tributary.specs.declared.mode.Mode.{Mode}
use Rattle.bsc_tributary.specs.declared.mode.Mode.TheVariants.{Control}
use Rattle.bsc_tributary.specs.Tributary.{TributaryValue, spool_at, restarted as restarted_tributary}
use Rattle.bsc_control.specs.declared.task.Replied.{Replied}
use Rattle.bsc_control.specs.declared.task.Task.{Task}
use Rattle.bsc_control.specs.declared.task.Task.TheVariants.{AtRest, Selecting, Sending, Polling}
use Rattle.bsc_bid.specs.declared.way.Way.{Way}
use Rattle.bsc_bid.specs.declared.way.Way.TheVariants.{FromTerminal, ToTerminal}
use Rattle.bsc_control.specs.Peer.{PeerValue, OutboundValue, outbound_at}
use Rattle.bsc_control.specs.Control.{ControlValue, peer_at, peer, current}
use Rattle.bsc_bid.specs.declared.speaker.Speaker.{Speaker}
use Rattle.bsc_bid.specs.declared.speaker.Speaker.TheVariants as sp
use Rattle.bsc_line_model.specs.declared.transmission.Transmission.{Transmission}
use Rattle.bsc_line_model.specs.Line.{terminal_in, no_terminal}
use Rattle.bsc_line_model.specs.Restarts.{pending_without}
use Rattle.bsc_line_model.specs.Kept.{IsTuned, AreTuned, AreStations}
use Rattle.bsc_line_model.specs.BidLaws.{BidLaws}
use Rattle.bsc_line_model.specs.Stays.{RestartStays}
use Rattle.bsc_line_model.specs.Together.{Rests, HasNoBid, NoBids, NoOtherBids}
use Rattle.bsc_line_model.specs.Together.{AllInControlMode, IsFresh, IsFreshAfter, IsAnswer}
use Rattle.bsc_line_model.specs.Together.{selected, IsSelectedBy, IsSelectedWith, IsInBidDown}
use Rattle.bsc_line_model.specs.Together.{IsInBidUp, IsUnheard, IsLeftByReceiver, FliesDown, FliesUp}
use Rattle.bsc_line_model.specs.Together.{IsPolledBy, IsPolledWith, IsSending, IsPolling, InTask}
use Rattle.bsc_line_model.proofs.Stations.{same_or_not, one_changed, stations_set, tuned_at}
use Rattle.bsc_line_model.proofs.Stations.{current_terminal_there}
use Rattle.bsc_line_model.proofs.SendingDown.{others_in_control}
use Rattle.bsc_line_model.proofs.Resting.{rests_of_no_bid, rests_of_bid_down, rests_of_bid_up}
use Rattle.bsc_line_model.proofs.Resting.{rests_in_task}
use Rattle.bsc_line_model.proofs.Restarting.{own_is_lost, other_stays, still_not_of_control}
use Rattle.bsc_line_model.proofs.Restarting.{rests_restarted, no_bid_restarted, stations_again}
use Rattle.bsc_line_model.proofs.Restarting.{together_after_control_restart}

-- the terminals once terminal t began again
abbrev with_new : List TributaryValue → ℕ → List TributaryValue
with_new ts t = slice_set ts t (restarted_tributary (terminal_in ts t))

this_one : (ts : List TributaryValue) (t : ℕ) → t < length ts
    → terminal_in (with_new ts t) t ≡ restarted_tributary (terminal_in ts t)
this_one ts t there =
    get_or-set_same ts t (restarted_tributary (terminal_in ts t)) no_terminal there

other_one : (ts : List TributaryValue) (t n : ℕ) → n ≢ t
    → terminal_in (with_new ts t) n ≡ terminal_in ts n
other_one ts t n differ =
    get_or-set_other ts t n (restarted_tributary (terminal_in ts t)) no_terminal differ

-- all terminals are in control mode if they were, or if the one that began again was not
modes_restarted : (ts : List TributaryValue) (t : ℕ) → t < length ts → AllInControlMode ts
    → AllInControlMode (with_new ts t)
modes_restarted ts t there modes =
    one_changed (λ n x. x.mode ≡ Control) ts t (restarted_tributary (terminal_in ts t)) there refl
    modes

modes_of_addressed : (addressed : Option (ℕ × Way)) (ts : List TributaryValue) (t : ℕ) (way : Way)
    → t < length ts → addressed ≡ Some (t, way) → AreTuned addressed ts
    → AllInControlMode (with_new ts t)
modes_of_addressed addressed ts t way there is tuned n less =
    elim (same_or_not n t) [
      | inl same ↦
          subst (λ (j : ℕ). (terminal_in (with_new ts t) j).mode ≡ Control) (sym same)
          (ap (λ (x : TributaryValue). x.mode) (this_one ts t there))
      | inr differ ↦
          (let before : n < length ts =
          omega (arith, length-set ts t (restarted_tributary (terminal_in ts t))) in
          ap (λ (x : TributaryValue). x.mode) (other_one ts t n differ)
          ∙ others_in_control addressed t n way (terminal_in ts n).mode is differ (tuned n before))
    ]

no_bids_restarted : (laws : BidLaws) (c : ControlValue) (ts : List TributaryValue) (t : ℕ)
    → t < length ts → NoBids c ts → NoBids c (with_new ts t)
no_bids_restarted laws c ts t there h =
    one_changed (λ n x. HasNoBid (peer_at c n) x) ts t (restarted_tributary (terminal_in ts t)) there
    (no_bid_restarted laws (peer_at c t) (terminal_in ts t)
    (rests_of_no_bid (peer_at c t) (terminal_in ts t) (h t there))) h

no_other_bids_restarted : (laws : BidLaws) (c : ControlValue) (ts : List TributaryValue) (t e : ℕ)
    → t < length ts → Rests (peer_at c t) (terminal_in ts t) → NoOtherBids c ts e
    → NoOtherBids c (with_new ts t) e
no_other_bids_restarted laws c ts t e there rests others n less apart =
    elim (same_or_not n t) [
      | inl same ↦
          subst (λ (j : ℕ). HasNoBid (peer_at c j) (terminal_in (with_new ts t) j)) (sym same)
          (subst (λ (x : TributaryValue). HasNoBid (peer_at c t) x) (sym (this_one ts t there))
          (no_bid_restarted laws (peer_at c t) (terminal_in ts t) rests))
      | inr differ ↦
          (let before : n < length ts =
          omega (arith, length-set ts t (restarted_tributary (terminal_in ts t))) in
          subst (λ (x : TributaryValue). HasNoBid (peer_at c n) x) (sym (other_one ts t n differ))
          (others n before apart))
    ]

-- what is pending of the terminal that began again is lost, and all else stays
lost_of : (t u : ℕ) (w : Message) → u ≡ t → pending_without (sp.Terminal t)
    (Some (record { speaker = sp.Terminal u; message = w })) ≡ None
lost_of t u w same =
    subst (λ (n : ℕ). pending_without (sp.Terminal t)
    (Some (record { speaker = sp.Terminal n; message = w })) ≡ None) (sym same) (own_is_lost t w)

kept_of_other : (t u : ℕ) (w : Message) → u ≢ t → pending_without (sp.Terminal t)
    (Some (record { speaker = sp.Terminal u; message = w }))
    ≡ Some (record { speaker = sp.Terminal u; message = w })
kept_of_other t u w differ = other_stays t u w (λ same. differ (sym same))

kept_down_by : (t e : ℕ) (speaker : Speaker) (w : Message) (f : Flight) → e ≢ t
    → FliesDown (Some (record { speaker = speaker; message = w })) e f
    → pending_without (sp.Terminal t) (Some (record { speaker = speaker; message = w }))
    ≡ Some (record { speaker = speaker; message = w })
kept_down_by t e sp.Control w f differ flies = refl
kept_down_by t e (sp.Terminal u) w f differ flies =
    kept_of_other t u w (λ same. differ (sym flies.0 ∙ same))

kept_down : (t e : ℕ) (pending : Option Transmission) (f : Flight) → e ≢ t → FliesDown pending e f
    → pending_without (sp.Terminal t) pending ≡ pending
kept_down t e None f differ flies = refl
kept_down t e (Some sent) f differ flies = kept_down_by t e sent.speaker sent.message f differ flies

kept_up_by : (t e : ℕ) (speaker : Speaker) (w : Message) (f : Flight) → e ≢ t
    → FliesUp (Some (record { speaker = speaker; message = w })) e f
    → pending_without (sp.Terminal t) (Some (record { speaker = speaker; message = w }))
    ≡ Some (record { speaker = speaker; message = w })
kept_up_by t e sp.Control w f differ flies = refl
kept_up_by t e (sp.Terminal u) w f differ flies =
    kept_of_other t u w (λ same. differ (sym flies.0 ∙ same))

kept_up : (t e : ℕ) (pending : Option Transmission) (f : Flight) → e ≢ t → FliesUp pending e f
    → pending_without (sp.Terminal t) pending ≡ pending
kept_up t e None f differ flies = refl
kept_up t e (Some sent) f differ flies = kept_up_by t e sent.speaker sent.message f differ flies

kept_unheard_by : (t : ℕ) (speaker : Speaker) (w : Message) → speaker ≡ sp.Control
    → pending_without (sp.Terminal t) (Some (record { speaker = speaker; message = w }))
    ≡ Some (record { speaker = speaker; message = w })
kept_unheard_by t sp.Control w is = refl
kept_unheard_by t (sp.Terminal u) w is = absurd (cc)

kept_unheard : (t : ℕ) (pending : Option Transmission) → IsUnheard pending
    → pending_without (sp.Terminal t) pending ≡ pending
kept_unheard t None h = refl
kept_unheard t (Some sent) h = kept_unheard_by t sent.speaker sent.message h.0

-- a terminal begins again while an address is selected
answer_restarted : (w : Message) (x : TributaryValue) (s : ℕ) (ts us : List TributaryValue)
    → (AllInControlMode ts → AllInControlMode us) → IsAnswer w x s ts → IsAnswer w x s us
answer_restarted (m.Reply Nak) x s ts us modes h = modes h
answer_restarted (m.Reply Ack0) x s ts us modes h = h
answer_restarted (m.Reply Wack) x s ts us modes h = h
answer_restarted _ x s ts us modes h = absurd h

selected_by_restarted : (speaker : Speaker) (w : Message) (enquired : Bool) (p : PeerValue)
    (ts : List TributaryValue) (t e s : ℕ) → t < length ts
    → IsSelectedBy speaker w enquired (selected p e s (terminal_in ts e) ts) →
    IsSelectedWith
    (pending_without (sp.Terminal t) (Some (record { speaker = speaker; message = w }))) enquired
    (selected p e s (terminal_in (with_new ts t) e) (with_new ts t))
selected_by_restarted sp.Control w true p ts t e s there h = h
selected_by_restarted sp.Control w false p ts t e s there h = h
selected_by_restarted (sp.Terminal u) w enquired p ts t e s there h =
    elim (same_or_not u t) [
      | inl same ↦
          subst (λ (o : Option Transmission). IsSelectedWith o enquired
          (selected p e s (terminal_in (with_new ts t) e) (with_new ts t)))
          (sym (lost_of t u w same)) tt
      | inr differ ↦
          subst (λ (o : Option Transmission). IsSelectedWith o enquired
          (selected p e s (terminal_in (with_new ts t) e) (with_new ts t)))
          (sym (kept_of_other t u w differ)) (answers enquired h differ)
    ]
  where
    answers : (asked : Bool)
        → IsSelectedBy (sp.Terminal u) w asked (selected p e s (terminal_in ts e) ts) → u ≢ t
        → IsSelectedBy (sp.Terminal u) w asked
        (selected p e s (terminal_in (with_new ts t) e) (with_new ts t))
    answers asked k differ = (
      k.0,
      subst (λ (x : TributaryValue). IsAnswer w x s (with_new ts t))
          (sym (other_one ts t e (λ same. differ (k.0 ∙ same))))
          (answer_restarted w (terminal_in ts e) s ts (with_new ts t) (modes_restarted ts t there)
          k.1),
    )

selected_restarted : (pending : Option Transmission) (enquired : Bool) (p : PeerValue)
    (ts : List TributaryValue) (t e s : ℕ) → t < length ts
    → IsSelectedWith pending enquired (selected p e s (terminal_in ts e) ts) →
    IsSelectedWith (pending_without (sp.Terminal t) pending) enquired
    (selected p e s (terminal_in (with_new ts t) e) (with_new ts t))
selected_restarted None enquired p ts t e s there h = tt
selected_restarted (Some sent) enquired p ts t e s there h =
    selected_by_restarted sent.speaker sent.message enquired p ts t e s there h

fresh_restarted : (addressed : Option (ℕ × Way)) (ts : List TributaryValue) (t e s : ℕ)
    (enquired : Bool) → t < length ts → e < length ts → AreTuned addressed ts
    → IsFreshAfter enquired (terminal_in ts e) s ts
    → IsFreshAfter enquired (terminal_in (with_new ts t) e) s (with_new ts t)
fresh_restarted addressed ts t e s false there within tuned h = tt
fresh_restarted addressed ts t e s true there within tuned (inr modes) =
    inr (modes_restarted ts t there modes)
fresh_restarted addressed ts t e s true there within tuned (inl fresh) =
    elim (same_or_not e t) [
      | inl same ↦
          (let is : addressed ≡ Some (e, ToTerminal s) =
          subst (λ (n : Mode). IsTuned addressed e n) fresh.mode (tuned e within) in
          inr (modes_of_addressed addressed ts t (ToTerminal s) there
          (subst (λ (n : ℕ). addressed ≡ Some (n, ToTerminal s)) same is) tuned))
      | inr differ ↦
          inl (subst (λ (x : TributaryValue). IsFresh x s) (sym (other_one ts t e differ)) fresh)
    ]

-- a terminal begins again while the control station sends
unheard_by_restarted : (laws : BidLaws) (p : PeerValue) (e s t : ℕ) (x : TributaryValue)
    (speaker : Speaker) (w : Message) → e ≡ t
    → IsInBidDown (Some (record { speaker = speaker; message = w })) p e s x
    → IsUnheard (pending_without (sp.Terminal t) (Some (record { speaker = speaker; message = w })))
unheard_by_restarted laws p e s t x sp.Control w same b =
    let o : OutboundValue = outbound_at p s in (
      refl,
      laws.outward o.sender.phase o.queue x.receiver.alternation x.receiver.last
          (spool_at x.spools s).records w
          (subst (λ (f : Flight). InBid o.sender.phase o.queue x.receiver.alternation
          x.receiver.last (spool_at x.spools s).records f) b.flies b.bid),
    )
unheard_by_restarted laws p e s t x (sp.Terminal u) w same b =
    subst IsUnheard (sym (lost_of t u w (b.flies.0 ∙ same))) tt

unheard_restarted : (laws : BidLaws) (p : PeerValue) (e s t : ℕ) (x : TributaryValue)
    (pending : Option Transmission) → e ≡ t → IsInBidDown pending p e s x
    → IsUnheard (pending_without (sp.Terminal t) pending)
unheard_restarted laws p e s t x None same b = tt
unheard_restarted laws p e s t x (Some sent) same b =
    unheard_by_restarted laws p e s t x sent.speaker sent.message same b

-- the channels of the present terminal rest, whichever terminal began again
present_rests : (laws : BidLaws) (p : PeerValue) (ts : List TributaryValue) (t e : ℕ)
    → t < length ts → Rests p (terminal_in ts e) → Rests p (terminal_in (with_new ts t) e)
present_rests laws p ts t e there h =
    elim (same_or_not e t) [
      | inl same ↦
          subst (λ (j : ℕ). Rests p (terminal_in (with_new ts t) j)) (sym same)
          (subst (λ (x : TributaryValue). Rests p x) (sym (this_one ts t there))
          (rests_restarted laws p (terminal_in ts t)
          (subst (λ (j : ℕ). Rests p (terminal_in ts j)) same h)))
      | inr differ ↦ subst (λ (x : TributaryValue). Rests p x) (sym (other_one ts t e differ)) h
    ]

sending_restarted : (laws : BidLaws) (addressed : Option (ℕ × Way)) (c : ControlValue)
    (ts : List TributaryValue) (pending : Option Transmission) (t s : ℕ) → t < length ts
    → current c < length ts → AreTuned addressed ts → IsSending pending c ts s →
    IsInBidDown (pending_without (sp.Terminal t) pending) (peer c) (current c) s
    (terminal_in (with_new ts t) (current c))
    ⊎ IsLeftByReceiver (pending_without (sp.Terminal t) pending) (peer c)
    (terminal_in (with_new ts t) (current c)) (with_new ts t)
sending_restarted laws addressed c ts pending t s there within tuned h =
    elim h.present [
      | inl b ↦ by_bid b (same_or_not (current c) t)
      | inr left ↦
          inr (record {
            modes = modes_restarted ts t there left.modes;
            rests = present_rests laws (peer c) ts t (current c) there left.rests;
            unheard = subst IsUnheard (sym (kept_unheard t pending left.unheard)) left.unheard;
          })
    ]
  where
    by_bid : IsInBidDown pending (peer c) (current c) s (terminal_in ts (current c))
        → (current c ≡ t) ⊎ (current c ≢ t) →
        IsInBidDown (pending_without (sp.Terminal t) pending) (peer c) (current c) s
        (terminal_in (with_new ts t) (current c))
        ⊎ IsLeftByReceiver (pending_without (sp.Terminal t) pending) (peer c)
        (terminal_in (with_new ts t) (current c)) (with_new ts t)
    by_bid b (inl same) =
        let is : addressed ≡ Some (current c, ToTerminal s) =
        subst (λ (n : Mode). IsTuned addressed (current c) n) b.mode (tuned (current c) within) in
        inr (record {
          modes =
              modes_of_addressed addressed ts t (ToTerminal s) there
              (subst (λ (n : ℕ). addressed ≡ Some (n, ToTerminal s)) same is) tuned;
          rests =
              present_rests laws (peer c) ts t (current c) there
              (rests_of_bid_down laws pending (peer c) (current c) s (terminal_in ts (current c)) b);
          unheard =
              unheard_restarted laws (peer c) (current c) s t (terminal_in ts (current c)) pending
              same b;
        })
    by_bid b (inr differ) =
        inl (subst (λ (o : Option Transmission). IsInBidDown o (peer c) (current c) s
        (terminal_in (with_new ts t) (current c)))
        (sym (kept_down t (current c) pending b.flight differ b.flies))
        (subst (λ (x : TributaryValue). IsInBidDown pending (peer c) (current c) s x)
        (sym (other_one ts t (current c) differ)) b))

-- a terminal begins again in a poll
polled_by_restarted : (speaker : Speaker) (w : Message) (replied : Replied) (p : PeerValue)
    (ts : List TributaryValue) (t e : ℕ) → t < length ts → IsPolledBy speaker w replied p e ts →
    IsPolledWith
    (pending_without (sp.Terminal t) (Some (record { speaker = speaker; message = w }))) replied p e
    (with_new ts t)
polled_by_restarted sp.Control w replied p ts t e there (inl call) = inl call
polled_by_restarted sp.Control w replied p ts t e there (inr reply) =
    inr (reply.0, reply.1, modes_restarted ts t there reply.2)
polled_by_restarted (sp.Terminal u) w replied p ts t e there h =
    elim (same_or_not u t) [
      | inl same ↦
          subst (λ (o : Option Transmission). IsPolledWith o replied p e (with_new ts t))
          (sym (lost_of t u w same)) tt
      | inr differ ↦
          subst (λ (o : Option Transmission). IsPolledWith o replied p e (with_new ts t))
          (sym (kept_of_other t u w differ)) (h.0, h.1, modes_restarted ts t there h.2)
    ]

polled_restarted : (pending : Option Transmission) (replied : Replied) (p : PeerValue)
    (ts : List TributaryValue) (t e : ℕ) → t < length ts → IsPolledWith pending replied p e ts
    → IsPolledWith (pending_without (sp.Terminal t) pending) replied p e (with_new ts t)
polled_restarted None replied p ts t e there h = tt
polled_restarted (Some sent) replied p ts t e there h =
    polled_by_restarted sent.speaker sent.message replied p ts t e there h

-- the terminal that sent began again: only the reply to it may be pending
polled_by_after_bid : (speaker : Speaker) (w : Message) (replied : Replied) (p : PeerValue)
    (us : List TributaryValue) (t e : ℕ) (f : Flight) → e ≡ t → AllInControlMode us
    → FliesUp (Some (record { speaker = speaker; message = w })) e f →
    IsPolledWith
    (pending_without (sp.Terminal t) (Some (record { speaker = speaker; message = w }))) replied p e
    us
polled_by_after_bid sp.Control w replied p us t e f same modes flies =
    inr (flies.0, flies.1, modes)
polled_by_after_bid (sp.Terminal u) w replied p us t e f same modes flies =
    subst (λ (o : Option Transmission). IsPolledWith o replied p e us)
    (sym (lost_of t u w (flies.0 ∙ same))) tt

polled_after_bid : (pending : Option Transmission) (replied : Replied) (p : PeerValue)
    (us : List TributaryValue) (t e : ℕ) (f : Flight) → e ≡ t → AllInControlMode us
    → FliesUp pending e f → IsPolledWith (pending_without (sp.Terminal t) pending) replied p e us
polled_after_bid None replied p us t e f same modes flies = tt
polled_after_bid (Some sent) replied p us t e f same modes flies =
    polled_by_after_bid sent.speaker sent.message replied p us t e f same modes flies

present_no_bid : (laws : BidLaws) (p : PeerValue) (ts : List TributaryValue) (t e : ℕ)
    → t < length ts → HasNoBid p (terminal_in ts e) → HasNoBid p (terminal_in (with_new ts t) e)
present_no_bid laws p ts t e there h =
    elim (same_or_not e t) [
      | inl same ↦
          subst (λ (j : ℕ). HasNoBid p (terminal_in (with_new ts t) j)) (sym same)
          (subst (λ (x : TributaryValue). HasNoBid p x) (sym (this_one ts t there))
          (no_bid_restarted laws p (terminal_in ts t)
          (rests_of_no_bid p (terminal_in ts t)
          (subst (λ (j : ℕ). HasNoBid p (terminal_in ts j)) same h))))
      | inr differ ↦ subst (λ (x : TributaryValue). HasNoBid p x) (sym (other_one ts t e differ)) h
    ]

polling_restarted : (laws : BidLaws) (addressed : Option (ℕ × Way)) (c : ControlValue)
    (ts : List TributaryValue) (pending : Option Transmission) (t : ℕ) (replied : Replied)
    → t < length ts → current c < length ts → AreTuned addressed ts
    → IsPolling pending c ts replied →
    (HasNoBid (peer c) (terminal_in (with_new ts t) (current c))
    × IsPolledWith (pending_without (sp.Terminal t) pending) replied (peer c) (current c)
    (with_new ts t))
    ⊎ IsInBidUp (pending_without (sp.Terminal t) pending) (peer c) (current c)
    (terminal_in (with_new ts t) (current c))
polling_restarted laws addressed c ts pending t replied there within tuned h =
    elim h.present [
      | inl q ↦
          inl (
            present_no_bid laws (peer c) ts t (current c) there q.0,
            polled_restarted pending replied (peer c) ts t (current c) there q.1,
          )
      | inr b ↦ by_bid b (same_or_not (current c) t)
    ]
  where
    by_bid : IsInBidUp pending (peer c) (current c) (terminal_in ts (current c))
        → (current c ≡ t) ⊎ (current c ≢ t) →
        (HasNoBid (peer c) (terminal_in (with_new ts t) (current c))
        × IsPolledWith (pending_without (sp.Terminal t) pending) replied (peer c) (current c)
        (with_new ts t))
        ⊎ IsInBidUp (pending_without (sp.Terminal t) pending) (peer c) (current c)
        (terminal_in (with_new ts t) (current c))
    by_bid b (inl same) =
        let is : addressed ≡ Some (current c, FromTerminal) =
        subst (λ (n : Mode). IsTuned addressed (current c) n) b.mode (tuned (current c) within) in
        let modes : AllInControlMode (with_new ts t) =
        modes_of_addressed addressed ts t FromTerminal there
        (subst (λ (n : ℕ). addressed ≡ Some (n, FromTerminal)) same is) tuned in
        let rests : Rests (peer c) (terminal_in ts t) =
        subst (λ (j : ℕ). Rests (peer c) (terminal_in ts j)) same
        (rests_of_bid_up laws pending (peer c) (current c) (terminal_in ts (current c)) b) in
        inl (
          subst (λ (j : ℕ). HasNoBid (peer c) (terminal_in (with_new ts t) j)) (sym same)
              (subst (λ (x : TributaryValue). HasNoBid (peer c) x) (sym (this_one ts t there))
              (no_bid_restarted laws (peer c) (terminal_in ts t) rests)),
          polled_after_bid pending replied (peer c) (with_new ts t) t (current c) b.flight same modes
              b.flies,
        )
    by_bid b (inr differ) =
        inr (subst (λ (o : Option Transmission). IsInBidUp o (peer c) (current c)
        (terminal_in (with_new ts t) (current c)))
        (sym (kept_up t (current c) pending b.flight differ b.flies))
        (subst (λ (x : TributaryValue). IsInBidUp pending (peer c) (current c) x)
        (sym (other_one ts t (current c) differ)) b))

-- a terminal begins again
pub together_after_terminal_restart : (laws : BidLaws) (addressed : Option (ℕ × Way))
    (c : ControlValue) (ts : List TributaryValue) (pending : Option Transmission) (t : ℕ)
    → t < length ts → AreStations c ts → AreTuned addressed ts → (task : Task)
    → InTask task pending c ts
    → InTask task (pending_without (sp.Terminal t) pending) c (with_new ts t)
together_after_terminal_restart laws addressed c ts pending t there stations tuned AtRest h =
    record {
      silent = still_not_of_control t pending h.silent;
      rests =
          one_changed (λ n x. Rests (peer_at c n) x) ts t (restarted_tributary (terminal_in ts t))
          there (rests_restarted laws (peer_at c t) (terminal_in ts t) (h.rests t there)) h.rests;
    }
together_after_terminal_restart laws addressed c ts pending t there stations tuned
    (Selecting s enquired) h =
    record {
      no_bids = no_bids_restarted laws c ts t there h.no_bids;
      with_pending =
          selected_restarted pending enquired (peer c) ts t (current c) s there h.with_pending;
      fresh =
          fresh_restarted addressed ts t (current c) s enquired there
          (current_terminal_there c ts stations) tuned h.fresh;
    }
together_after_terminal_restart laws addressed c ts pending t there stations tuned (Sending s) h =
    record {
      others =
          no_other_bids_restarted laws c ts t (current c) there
          (rests_in_task laws (Sending s) pending c ts t there h) h.others;
      present =
          sending_restarted laws addressed c ts pending t s there
          (current_terminal_there c ts stations) tuned h;
    }
together_after_terminal_restart laws addressed c ts pending t there stations tuned (Polling replied)
    h =
    record {
      others =
          no_other_bids_restarted laws c ts t (current c) there
          (rests_in_task laws (Polling replied) pending c ts t there h) h.others;
      present =
          polling_restarted laws addressed c ts pending t replied there
          (current_terminal_there c ts stations) tuned h;
    }

-- a line keeps its invariant
pub restart_stays : (laws : BidLaws) → RestartStays
restart_stays laws l sp.Control line there is =
    record {
      stations = stations_again l.control l.terminals line.stations is;
      tuned = line.tuned;
      together =
          λ now. together_after_control_restart laws l.control l.terminals l.pending line.stations
          (line.together now);
    }
restart_stays laws l (sp.Terminal t) line there is =
    record {
      stations =
          stations_set l.control l.terminals t (restarted_tributary (terminal_in l.terminals t))
          line.stations there is refl refl;
      tuned =
          λ now. tuned_at l.addressed l.terminals t (restarted_tributary (terminal_in l.terminals t))
          there (inl refl) (line.tuned now);
      together =
          λ now. together_after_terminal_restart laws l.addressed l.control l.terminals l.pending t
          there line.stations (line.tuned now) l.control.task (line.together now);
    }
