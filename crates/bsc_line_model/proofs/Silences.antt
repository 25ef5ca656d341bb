-- The owner of the line acts on a silence, with nothing pending: the terminal that sends, else the
-- control station.
use Rattle.std.proofs.Common.{◌≡◌, ◌≢◌, ◌⊎◌, inl, inr, ℕ, ◌+◌, ◌<◌, Bool, true, false, nat_lt, List}
use Rattle.std.proofs.Common.{length, Option, None, Some, slice_set, refl, sym, ◌∙◌, ap, subst}
use Rattle.std.proofs.Common.{arith, get_or-set_other, get_or-set_same, if◌then◌else◌}
use Rattle.std.proofs.lemmas.List.{length-set}
use Rattle.bsc_frame.specs.declared.message.Message.{Message}
use Rattle.bsc_bid.specs.Sender.{SenderStep, silence_step}
use Rattle.bsc_bid.specs.Agreement.{Flight, Still, InBid}
use Rattle.bsc_bid.specs.EachStep.{SenderAgrees}
use Rattle.bsc_tributary.specs.declared.mode.Mode.{Mode}
use Rattle.bsc_tributary.specs.declared.mode.Mode.TheVariants.{Control, Sending as Sends}
use Rattle.bsc_tributary.specs.Tributary.{TributaryValue, TributaryStep}
use Rattle.bsc_tributary.specs.Tributary.{silence_in as terminal_silence, act_step}
use Rattle.bsc_tributary.specs.Tributary.{ActsOnSilence as TerminalActs}
use Rattle.bsc_control.specs.declared.task.Replied.{Replied}
use Rattle.bsc_control.specs.declared.task.Replied.TheVariants.{Nothing, Uninterrupted, Interrupted}
use Rattle.bsc_control.specs.declared.task.Task.{Task}
use Rattle.bsc_control.specs.declared.task.Task.TheVariants.{AtRest, Selecting, Sending, Polling}
use Rattle.bsc_bid.specs.declared.way.Way.{Way}
use Rattle.bsc_bid.specs.declared.way.Way.TheVariants.{FromTerminal}
use Rattle.bsc_control.specs.Peer.{PeerValue}
use Rattle.bsc_control.specs.Control.{ControlValue, ControlStep, peer_at, peer, current}
use Rattle.bsc_control.specs.CallOrder.{Start, Selection, Poll}
use Rattle.bsc_control.specs.Table.{ActsOnSilence as ControlActs, silence_in, next_call_step}
use Rattle.bsc_control.specs.Table.{poll_call_step, repeated}
use Rattle.bsc_bid.specs.declared.speaker.Speaker.TheVariants as sp
use Rattle.bsc_line_model.specs.Transmission.{sent_by}
use Rattle.bsc_line_model.specs.Line.{terminal_in, no_terminal}
use Rattle.bsc_line_model.specs.Kept.{IsTuned, AreTuned, AreStations}
use Rattle.bsc_line_model.specs.Together.{Rests, HasNoBid, NoBids, NoOtherBids, AllInControlMode}
use Rattle.bsc_line_model.specs.Together.{IsSelecting, IsPolling, IsInBidUp, IsPolledWith, InTask}
use Rattle.bsc_line_model.specs.BidLaws.{BidLaws}
use Rattle.bsc_control.proofs.Calls.{places, current_within_peers}
use Rattle.bsc_line_model.proofs.Stations.{same_or_not, one_changed, current_terminal_there}
use Rattle.bsc_line_model.proofs.Calling.{no_bids_after_poll_call}
use Rattle.bsc_line_model.proofs.SendingDown.{others_in_control}
use Rattle.bsc_line_model.proofs.SendingUp.{keeps_going, going_in_bid, times_out_down}
use Rattle.bsc_line_model.proofs.ActingUp.{HasActedUp, bid_up_after_act, present_terminal_after_act}
use Rattle.bsc_line_model.proofs.CallsHeard.{no_bids_if_none_with_each}
use Rattle.bsc_line_model.proofs.AnswersHeard.{StepsTo, together_after_next_call}
use Rattle.bsc_line_model.proofs.UnheardBids.{times_out_unheard, never_sends_in_bid_down}
use Rattle.bsc_line_model.specs.Transmission.{speaker_of}

-- a selection is called again, or given up after too many tries
selects_again : (c : ControlValue) (ts : List TributaryValue) (s : ℕ) (enquired over : Bool)
    → AreStations c ts → c.task ≡ Selecting s enquired → IsSelecting None c ts s enquired →
    StepsTo (if over then next_call_step c (Selection s)
    else record {
      control = record c { failures = c.failures + 1 };
      sent =
          Some (repeated c s enquired);
    }) ts
selects_again c ts s enquired true stations is k = together_after_next_call c ts (Selection s) stations k.no_bids
selects_again c ts s true false stations is k =
    subst (λ (t : Task). InTask t (Some
    (record { speaker = sp.Control; message = repeated c s true }))
    (record c { failures = c.failures + 1 }) ts) (sym is)
    (record { no_bids = k.no_bids; with_pending = refl; fresh = k.fresh })
selects_again c ts s false false stations is k =
    subst (λ (t : Task). InTask t (Some
    (record { speaker = sp.Control; message = repeated c s false }))
    (record c { failures = c.failures + 1 }) ts) (sym is)
    (record { no_bids = k.no_bids; with_pending = refl; fresh = k.fresh })

-- a poll is called again, or given up
polls_again : (c : ControlValue) (ts : List TributaryValue) (over : Bool) → AreStations c ts
    → NoBids c ts
    → StepsTo (if over then next_call_step c (Poll false) else poll_call_step c c.place
    (c.failures + 1)) ts
polls_again c ts true stations all = together_after_next_call c ts (Poll false) stations all
polls_again c ts false stations all =
    no_bids_after_poll_call c ts c.place (c.failures + 1) (current_within_peers c (places c stations.control.entries))
    stations.count all

-- the control station acts on a silence while no terminal sends
pub silent_control : (laws : BidLaws) (c d : ControlValue) (ts : List TributaryValue)
    (out : Option Message) → AreStations c ts
    → ((t : ℕ) → t < length ts → (terminal_in ts t).mode ≢ Sends) → InTask c.task None c ts
    → ControlActs c d out →
    InTask d.task (sent_by sp.Control out) d ts
silent_control laws c d ts out stations nobody together row = by_task c.task refl together
  where
    by_row : (task : Task) → c.task ≡ task → StepsTo (silence_in c task) ts
        → InTask d.task (sent_by sp.Control out) d ts
    by_row task is steps =
        let step : record { control = d; sent = out } ≡ silence_in c task = row
        ∙ ap (λ (k : Task). silence_in c k) is in
        subst (λ (o : ControlStep). StepsTo o ts) (sym step) steps

    no_bids : (replied : Replied) → IsPolling None c ts replied → NoBids c ts
    no_bids replied k =
        elim k.present [
          | inl q ↦ no_bids_if_none_with_each c ts (current c) k.others q.0
          | inr b ↦ absurd (nobody (current c)
              (current_terminal_there c ts stations) b.mode)
        ]

    by_task : (task : Task) → c.task ≡ task → InTask task None c ts
        → InTask d.task (sent_by sp.Control out) d ts
    by_task AtRest is k =
        by_row AtRest is (together_after_next_call c ts Start stations
        (λ t less. record {
          mode = nobody t less;
          up = (k.rests t less).up;
          down = (k.rests t less).down;
        }))
    by_task (Selecting s enquired) is k =
        by_row (Selecting s enquired) is (selects_again c ts s enquired
        (nat_lt c.setup.tries (c.failures + 1)) stations is k)
    by_task (Sending s) is k =
        by_row (Sending s) is
        (elim k.present [
          | inl b ↦ times_out_down laws c ts s stations is k.others b
          | inr left ↦ times_out_unheard laws c ts s stations is k.others left
        ])
    by_task (Polling Nothing) is k =
        by_row (Polling Nothing) is (polls_again c ts (nat_lt c.setup.tries (c.failures + 1))
        stations (no_bids Nothing k))
    by_task (Polling Uninterrupted) is k =
        by_row (Polling Uninterrupted) is (together_after_next_call c ts (Poll false) stations
        (no_bids Uninterrupted k))
    by_task (Polling Interrupted) is k =
        by_row (Polling Interrupted) is (together_after_next_call c ts (Poll true) stations (no_bids Interrupted k))

-- the sending terminal, which is the polled one, acts on a silence
times_out_up : (laws : BidLaws) (c : ControlValue) (ts : List TributaryValue)
    (addressed : Option (ℕ × Way)) (u : TributaryValue) (out : Option Message) (replied : Replied)
    → current c < length ts → AreTuned addressed ts → NoOtherBids c ts (current c) →
    IsInBidUp None (peer c) (current c) (terminal_in ts (current c))
    → TerminalActs (terminal_in ts (current c)) u out
    → IsPolling (sent_by (sp.Terminal (current c)) out) c (slice_set ts (current c) u) replied
times_out_up laws c ts addressed u out replied there tuned others b row =
    let e : ℕ = current c in
    let p : PeerValue = peer c in
    let x : TributaryValue = terminal_in ts e in
    let us : List TributaryValue = slice_set ts e u in
    let step : SenderStep = silence_step x.sender x.queue in
    let bid : InBid x.sender.phase x.queue p.receiver.alternation p.receiver.last p.spool.records
    Still =
    subst (λ (f : Flight). InBid x.sender.phase x.queue p.receiver.alternation p.receiver.last
    p.spool.records f) b.flies b.bid in
    let agrees : SenderAgrees x.queue p.receiver.alternation p.receiver.last p.spool.records step =
    laws.silence x.sender x.queue p.receiver.alternation p.receiver.last p.spool.records
    (laws.continues x.sender.phase x.queue p.receiver.alternation p.receiver.last
    p.spool.records Still bid) in
    let becomes : record { tributary = u; sent = out } ≡ act_step x step = row
    ∙ ap (λ (n : Mode). terminal_silence x n) b.mode in
    let acted : HasActedUp p e u out =
    subst (λ (o : TributaryStep). HasActedUp p e o.tributary o.sent) (sym becomes)
    (bid_up_after_act laws p e x step step.act refl
    (record { down = b.down; continues = agrees.continues; ended = agrees.ended })
    (λ quiet. inl (
      b.mode,
      keeps_going step.act x.sender.phase step.sender.phase
          (laws.fits.silence x.sender x.queue) quiet
          (going_in_bid x.sender.phase x.queue p.receiver.alternation p.receiver.last p.spool.records
          Still bid),
    ))) in
    let is : addressed ≡ Some (e, FromTerminal) =
    subst (λ (n : Mode). IsTuned addressed e n) b.mode (tuned e there) in
    let this : terminal_in us e ≡ u = get_or-set_same ts e u no_terminal there in
    let modes : u.mode ≡ Control → AllInControlMode us = λ here t less.
    elim (same_or_not t e) [
      | inl same ↦ rw (same, this) here
      | inr differ ↦
          (let before : t < length ts = omega (arith, length-set ts e u) in
          subst (λ (y : TributaryValue). y.mode ≡ Control)
          (sym (get_or-set_other ts e t u no_terminal differ))
          (others_in_control addressed e t FromTerminal (terminal_in ts t).mode is differ
          (tuned t before)))
    ] in
    record {
      others = λ t less differ.
          let before : t < length ts = omega (arith, length-set ts e u) in
          subst (λ (y : TributaryValue). HasNoBid (peer_at c t) y)
          (sym (get_or-set_other ts e t u no_terminal differ)) (others t before differ);
      present =
          subst (λ (y : TributaryValue). (HasNoBid p y
          × IsPolledWith (sent_by (sp.Terminal e) out) replied p e us)
          ⊎ IsInBidUp (sent_by (sp.Terminal e) out) p e y) (sym this)
          (present_terminal_after_act p e u out replied us acted modes);
    }

-- a terminal that sends acts on a silence while the control station is at rest
acts_up_at_rest : (laws : BidLaws) (p : PeerValue) (x u : TributaryValue) (out : Option Message)
    → x.mode ≡ Sends → Rests p x → TerminalActs x u out → Rests p u
acts_up_at_rest laws p x u out sends rests row =
    let becomes : record { tributary = u; sent = out }
    ≡ act_step x (silence_step x.sender x.queue) = row
    ∙ ap (λ (n : Mode). terminal_silence x n) sends in
    subst (λ (o : TributaryStep). Rests p o.tributary) (sym becomes)
    (record {
      up = laws.silence_at_rest x.sender x.queue p.spool.records rests.up;
      down = rests.down;
    })

not_from_control : (t : ℕ) (out : Option Message)
    → speaker_of (sent_by (sp.Terminal t) out) ≢ Some sp.Control
not_from_control t None is = cc
not_from_control t (Some w) is = cc

pub silent_terminal : (laws : BidLaws) (c : ControlValue) (ts : List TributaryValue)
    (addressed : Option (ℕ × Way)) (t : ℕ) (u : TributaryValue) (out : Option Message)
    → AreStations c ts → t < length ts → AreTuned addressed ts → (terminal_in ts t).mode ≡ Sends
    → InTask c.task None c ts → TerminalActs (terminal_in ts t) u out →
    InTask c.task (sent_by (sp.Terminal t) out) c (slice_set ts t u)
silent_terminal laws c ts addressed t u out stations less tuned sends together row =
    by_task c.task together
  where
    there : current c < length ts
    there =
        current_terminal_there c ts stations

    by_task : (task : Task) → InTask task None c ts
        → InTask task (sent_by (sp.Terminal t) out) c (slice_set ts t u)
    by_task AtRest k =
        record {
          silent = not_from_control t out;
          rests =
              one_changed (λ n y. Rests (peer_at c n) y) ts t u less
              (acts_up_at_rest laws (peer_at c t) (terminal_in ts t) u out sends (k.rests t less)
              row) k.rests;
        }
    by_task (Selecting s enquired) k = absurd ((k.no_bids t less).mode sends)
    by_task (Sending s) k =
        elim (same_or_not t (current c)) [
          | inl same ↦ absurd (never_sends_in_bid_down None c ts s k.present
              (ap (λ (n : ℕ). (terminal_in ts n).mode) (sym same) ∙ sends) there)
          | inr differ ↦ absurd ((k.others t less differ).mode sends)
        ]
    by_task (Polling replied) k =
        elim (same_or_not t (current c)) [
          | inl same ↦
              elim k.present [
                | inl q ↦ absurd (q.0.mode (ap (λ (n : ℕ). (terminal_in ts n).mode) (sym same)
                    ∙ sends))
                | inr b ↦
                    subst (λ (n : ℕ). IsPolling (sent_by (sp.Terminal n) out) c (slice_set ts n u)
                    replied) (sym same)
                    (times_out_up laws c ts addressed u out replied there tuned k.others b
                    (subst (λ (n : ℕ). TerminalActs (terminal_in ts n) u out) same row))
              ]
          | inr differ ↦ absurd ((k.others t less differ).mode sends)
        ]
