-- What the control station's steps leave of its queues: only a reply heard in a bid changes one.
use Rattle.std.proofs.Common.{◌≡◌, ◌≢◌, ◌⊎◌, inl, inr, ℕ, ◌+◌, ◌<◌, Bool, true, false, nat_lt, List}
use Rattle.std.proofs.Common.{length, Option, None, Some, refl, sym, ◌∙◌, ap, subst}
use Rattle.std.proofs.Common.{get_or-set_other, get_or-set_same, if◌then◌else◌}
use Rattle.std.proofs.lemmas.List.{length-set}
use Rattle.bsc_frame.specs.declared.message.Message.{Message}
use Rattle.bsc_frame.specs.declared.message.Message.TheVariants as m
use Rattle.bsc_frame.specs.declared.message.Heard.{Heard}
use Rattle.bsc_frame.specs.declared.message.Heard.TheVariants.{Whole, Failed, Noise}
use Rattle.bsc_spool.specs.Queue.{QueueValue}
use Rattle.bsc_bid.specs.Act.{Act}
use Rattle.bsc_bid.specs.Act as a
use Rattle.bsc_frame.specs.declared.reply.Reply.{Reply}
use Rattle.bsc_frame.specs.declared.reply.Reply.TheVariants.{Ack0, Nak, Wack}
use Rattle.bsc_frame.specs.Replies.{reply_in}
use Rattle.bsc_bid.specs.Receiver.{ReceiverStep, Rooms, new_receiver, heard_step, sends_interrupt}
use Rattle.bsc_bid.specs.Sender.{SenderStep, begin_step, reply_step, silence_step}
use Rattle.bsc_control.specs.declared.task.Replied.{Replied}
use Rattle.bsc_control.specs.declared.task.Replied.TheVariants.{Nothing, Uninterrupted, Interrupted}
use Rattle.bsc_control.specs.declared.task.Task.{Task}
use Rattle.bsc_control.specs.declared.task.Task.TheVariants.{AtRest, Selecting, Sending, Polling}
use Rattle.bsc_bid.specs.declared.way.Way.{Way}
use Rattle.bsc_bid.specs.declared.way.Way.TheVariants.{FromTerminal, ToTerminal}
use Rattle.bsc_control.specs.Peer.{PeerValue, OutboundValue, no_peer, no_outbound, outbound_at}
use Rattle.bsc_control.specs.Peer.{with_outbound, outbound_after}
use Rattle.bsc_control.specs.Control.{ControlValue, ControlStep, peer_at, peer, current}
use Rattle.bsc_control.specs.Control.{terminal_of_entry, with_peer, answer_step}
use Rattle.bsc_control.specs.CallOrder.{After, Start, Selection, Poll, next_call}
use Rattle.bsc_control.specs.Kept.{outbound_of, IsControl, IsSelected, IsInBid, SuitsTask}
use Rattle.bsc_control.specs.Table.{Hears, ActsOnSilence, poll_call_step, way_call_step}
use Rattle.bsc_control.specs.Table.{next_call_step, act_step, bid_step, after_bid}
use Rattle.bsc_control.specs.Table.{selecting_step, receive_step, polling_step, task_step}
use Rattle.bsc_control.specs.Table.{rooms_after, repeated, silence_in, is_interrupted, after_step}
use Rattle.bsc_control.proofs.Calls.{HasPlaces, places, places_of_same_list, current_within_peers}
use Rattle.bsc_control.proofs.Calls.{by_next_call, next_call_within_peers}
use Rattle.bsc_line_model.proofs.Stations.{same_or_not}
use Rattle.bsc_line_model.proofs.QueueSteps.{begin_queue, silence_queue}

-- what is kept for a terminal is replaced, with the same queues
written_queues : (c : ControlValue) (e : ℕ) (p : PeerValue) (t k : ℕ) → e < length c.peers
    → p.outbounds ≡ (peer_at c e).outbounds → (outbound_of (with_peer c e p) t k).queue
    ≡ (outbound_of c t k).queue
written_queues c e p t k there same =
    elim (same_or_not t e) [
      | inl this ↦
          subst (λ (n : ℕ). (outbound_of (with_peer c e p) n k).queue ≡ (outbound_of c n k).queue)
          (sym this)
          (ap (λ (q : PeerValue). (outbound_at q k).queue)
          (get_or-set_same c.peers e p no_peer there)
          ∙ ap (λ (os : List OutboundValue). (outbound_at (record p { outbounds = os }) k).queue)
          same)
      | inr other ↦ ap (λ (q : PeerValue). (outbound_at q k).queue)
          (get_or-set_other c.peers e t p no_peer other)
    ]

-- a call leaves all queues unchanged
polls_queues : (c : ControlValue) (place failures t k : ℕ) → terminal_of_entry c place
    < length c.peers → (outbound_of (poll_call_step c place failures).control t k).queue
    ≡ (outbound_of c t k).queue
polls_queues c place failures t k there =
    let e : ℕ = terminal_of_entry c place in
    written_queues c e (record (peer_at c e) { receiver = new_receiver true }) t k there refl

calls_queues : (c : ControlValue) (place : ℕ) (way : Way) (t k : ℕ) → terminal_of_entry c place
    < length c.peers → (outbound_of (way_call_step c place way).control t k).queue
    ≡ (outbound_of c t k).queue
calls_queues c place FromTerminal t k there = polls_queues c place 0 t k there
calls_queues c place (ToTerminal s) t k there =
    let e : ℕ = terminal_of_entry c place in
    written_queues c e (record (peer_at c e) { urgent = false }) t k there refl

queues_kept_by_next_call : (c : ControlValue) (after : After) (t k : ℕ) → HasPlaces c
    → (outbound_of (next_call_step c after).control t k).queue ≡ (outbound_of c t k).queue
queues_kept_by_next_call c after t k places =
    by_next_call (λ (step : ControlStep). (outbound_of step.control t k).queue
    ≡ (outbound_of c t k).queue) c after refl
    (calls_queues c (next_call c after).place (next_call c after).way t k
    (next_call_within_peers c after places))

-- this queue is the one to selection address s of the present terminal, and is the step's
pub record IsStepped (c : ControlValue) (s : ℕ) (step : SenderStep) (t k : ℕ)
    (queue : QueueValue) : Type 0 where
  pub terminal : t ≡ current c
  pub select : k ≡ s
  pub left : queue ≡ step.queue

abbrev SteppedAt : ControlValue → ℕ → SenderStep → ℕ → ℕ → QueueValue → Type 0
SteppedAt c s step t k queue = (queue ≡ (outbound_of c t k).queue) ⊎ IsStepped c s step t k queue

outbound_after_own_step : (c : ControlValue) (s : ℕ) (step : SenderStep) → current c < length c.peers → s
    < length (peer c).outbounds → (outbound_of (after_step c s step) (current c) s).queue
    ≡ step.queue
outbound_after_own_step c s step there select =
    ap (λ (q : PeerValue). (outbound_at q s).queue)
    (get_or-set_same c.peers (current c) (with_outbound (peer c) s (outbound_after step))
    no_peer there)
    ∙ ap (λ (o : OutboundValue). o.queue)
    (get_or-set_same (peer c).outbounds s (outbound_after step) no_outbound select)

other_outbound_unchanged : (c : ControlValue) (s : ℕ) (step : SenderStep) (k : ℕ) → current c < length c.peers
    → k ≢ s → (outbound_of (after_step c s step) (current c) k).queue
    ≡ (outbound_of c (current c) k).queue
other_outbound_unchanged c s step k there differ =
    ap (λ (q : PeerValue). (outbound_at q k).queue)
    (get_or-set_same c.peers (current c) (with_outbound (peer c) s (outbound_after step))
    no_peer there)
    ∙ ap (λ (o : OutboundValue). o.queue)
    (get_or-set_other (peer c).outbounds s k (outbound_after step) no_outbound differ)

stepped_queues : (c : ControlValue) (s : ℕ) (step : SenderStep) (t k : ℕ) → current c
    < length c.peers → s < length (peer c).outbounds
    → SteppedAt c s step t k (outbound_of (after_step c s step) t k).queue
stepped_queues c s step t k there select =
    elim (same_or_not t (current c)) [
      | inl this ↦
          elim (same_or_not k s) [
            | inl same ↦
                inr (record {
                  terminal = this;
                  select = same;
                  left = ap (λ (n : ℕ). (outbound_of (after_step c s step) n k).queue) this
                      ∙ ap (λ (n : ℕ). (outbound_of (after_step c s step) (current c) n).queue) same
                      ∙ outbound_after_own_step c s step there select;
                })
            | inr differ ↦
                inl (subst (λ (n : ℕ). (outbound_of (after_step c s step) n k).queue
                ≡ (outbound_of c n k).queue) (sym this) (other_outbound_unchanged c s step k there differ))
          ]
      | inr other ↦ inl (ap (λ (q : PeerValue). (outbound_at q k).queue)
          (get_or-set_other c.peers (current c) t (with_outbound (peer c) s (outbound_after step))
          no_peer other))
    ]

-- the act that follows changes no queue
performs_queues : (c : ControlValue) (s : ℕ) (act : Act) (after : After) (t k : ℕ) → HasPlaces c
    → (outbound_of (act_step c s act after).control t k).queue ≡ (outbound_of c t k).queue
performs_queues c s (a.Send text) after t k places = refl
performs_queues c s a.Enq after t k places = refl
performs_queues c s a.Over after t k places = queues_kept_by_next_call c after t k places
performs_queues c s a.Quiet after t k places = refl

acted_queues : (c : ControlValue) (s : ℕ) (step : SenderStep) (after : After) (t k : ℕ)
    → HasPlaces c → s < length (peer c).outbounds
    → SteppedAt c s step t k (outbound_of (bid_step c s step after).control t k).queue
acted_queues c s step after t k places select =
    let d : ControlValue = after_step c s step in
    let still : HasPlaces d =
    places_of_same_list c d refl refl (length-set c.peers (current c)
    (with_outbound (peer c) s (outbound_after step))) places in
    subst (λ (q : QueueValue). SteppedAt c s step t k q)
    (sym (performs_queues d s step.act after t k still))
    (stepped_queues c s step t k (current_within_peers c places) select)

-- a step that leaves its queue unchanged leaves all unchanged
queues_kept_by_step : (c : ControlValue) (s : ℕ) (step : SenderStep) (after : After) (t k : ℕ) → HasPlaces c
    → s < length (peer c).outbounds → step.queue ≡ (outbound_at (peer c) s).queue
    → (outbound_of (bid_step c s step after).control t k).queue ≡ (outbound_of c t k).queue
queues_kept_by_step c s step after t k places select same =
    elim (acted_queues c s step after t k places select) [
      | inl still ↦ still
      | inr now ↦ now.left ∙ same ∙ ap (λ (n : ℕ). (outbound_of c n s).queue) (sym now.terminal)
          ∙ ap (λ (n : ℕ). (outbound_of c t n).queue) (sym now.select)
    ]

-- a queue once the control station has heard this: unchanged, or as a reply leaves it in its bid
pub record LearnsDown (c : ControlValue) (h : Heard) (d : ControlValue) (t k : ℕ) : Type 0 where
  pub terminal : t ≡ current c
  pub task : c.task ≡ Sending k
  pub queue : (outbound_of d t k).queue
      ≡ (reply_step (outbound_at (peer c) k).sender (outbound_at (peer c) k).queue
      (reply_in h)).queue

abbrev pub OutboundHears : ControlValue → Heard → ControlValue → ℕ → ℕ → Type 0
OutboundHears c h d t k = ((outbound_of d t k).queue ≡ (outbound_of c t k).queue)
    ⊎ LearnsDown c h d t k

-- a selection is answered
wack_queues : (c : ControlValue) (s : ℕ) (over : Bool) (t k : ℕ) → HasPlaces c →
    (outbound_of (if over then next_call_step c (Selection s) else answer_step
    (record c { task = Selecting s true; failures = 0; wacks = c.wacks + 1 }) m.Enq).control t
    k).queue ≡ (outbound_of c t k).queue
wack_queues c s true t k places = queues_kept_by_next_call c (Selection s) t k places
wack_queues c s false t k places = refl

selecting_queues : (c : ControlValue) (s : ℕ) (reply : Option Reply) (t k : ℕ) → HasPlaces c → s
    < length (peer c).outbounds → (outbound_of (selecting_step c s reply).control t k).queue
    ≡ (outbound_of c t k).queue
selecting_queues c s None t k places select = refl
selecting_queues c s (Some Ack0) t k places select =
    queues_kept_by_step c s (begin_step (outbound_at (peer c) s).sender (outbound_at (peer c) s).queue)
    (Selection s) t k places select (begin_queue (outbound_at (peer c) s).sender
    (outbound_at (peer c) s).queue)
selecting_queues c s (Some Nak) t k places select = queues_kept_by_next_call c (Selection s) t k places
selecting_queues c s (Some Wack) t k places select =
    wack_queues c s (nat_lt c.setup.waits (c.wacks + 1)) t k places
selecting_queues c s (Some _) t k places select = refl

-- a poll is answered
receives_queues : (c : ControlValue) (replied : Replied) (step : ReceiverStep) (t k : ℕ)
    → HasPlaces c → (outbound_of (receive_step c replied step).control t k).queue
    ≡ (outbound_of c t k).queue
receives_queues c replied step t k places =
    written_queues c (current c) (record (peer c) {
      receiver = step.receiver;
      spool = step.spool;
      urgent =
          if sends_interrupt step.reply then false else (peer c).urgent;
    }) t k (current_within_peers c places) refl

polling_queues : (c : ControlValue) (replied : Replied) (h : Heard) (rooms : Rooms) (t k : ℕ)
    → HasPlaces c → (outbound_of (polling_step c replied h rooms).control t k).queue
    ≡ (outbound_of c t k).queue
polling_queues c replied h rooms t k places = by_heard h
  where
    by_heard : (g : Heard) → (outbound_of (polling_step c replied g rooms).control t k).queue
        ≡ (outbound_of c t k).queue
    by_heard (Whole m.Eot) = queues_kept_by_next_call c (Poll (is_interrupted replied)) t k places
    by_heard (Whole (m.Call z)) =
        receives_queues c replied (heard_step (peer c).receiver (peer c).spool (Whole (m.Call z))
        (peer c).urgent rooms) t k places
    by_heard (Whole (m.Text b)) =
        receives_queues c replied (heard_step (peer c).receiver (peer c).spool (Whole (m.Text b))
        (peer c).urgent rooms) t k places
    by_heard (Whole m.Enq) =
        receives_queues c replied (heard_step (peer c).receiver (peer c).spool (Whole m.Enq)
        (peer c).urgent rooms) t k places
    by_heard (Whole (m.Reply r)) =
        receives_queues c replied (heard_step (peer c).receiver (peer c).spool (Whole (m.Reply r))
        (peer c).urgent rooms) t k places
    by_heard Failed =
        receives_queues c replied (heard_step (peer c).receiver (peer c).spool Failed
        (peer c).urgent rooms) t k places
    by_heard Noise =
        receives_queues c replied (heard_step (peer c).receiver (peer c).spool Noise (peer c).urgent
        rooms) t k places

-- the selection address that the task requires exists
pub selected_outbound_exists : (c : ControlValue) (s : ℕ) (enquired : Bool) → IsControl c → c.task
    ≡ Selecting s enquired → s < length (peer c).outbounds
selected_outbound_exists c s enquired is task =
    let suits : IsSelected (peer c) s =
    subst (λ (k : Task). SuitsTask k (peer c)) task is.orderly.suits in suits.there

pub sending_outbound_exists : (c : ControlValue) (s : ℕ) → IsControl c → c.task ≡ Sending s → s
    < length (peer c).outbounds
sending_outbound_exists c s is task =
    let suits : IsInBid (peer c) s =
    subst (λ (k : Task). SuitsTask k (peer c)) task is.orderly.suits in suits.there

pub outbound_queue : (c d : ControlValue) (h : Heard) (out : Option Message) (t k : ℕ) → IsControl c
    → Hears c h d out → OutboundHears c h d t k
outbound_queue c d h out t k is row =
    in_task c.task refl (ap (λ (o : ControlStep). (outbound_of o.control t k).queue) row.row)
  where
    listed : HasPlaces c
    listed = places c is.entries

    in_task : (task : Task) → c.task ≡ task → (outbound_of d t k).queue
        ≡ (outbound_of (task_step c task h (rooms_after c h d)).control t k).queue
        → OutboundHears c h d t k
    in_task AtRest e same = inl same
    in_task (Selecting s enquired) e same =
        inl (same ∙ selecting_queues c s (reply_in h) t k listed
        (selected_outbound_exists c s enquired is e))
    in_task (Sending s) e same =
        elim (acted_queues c s (reply_step (outbound_at (peer c) s).sender
        (outbound_at (peer c) s).queue (reply_in h)) (after_bid s (reply_in h)) t k listed
        (sending_outbound_exists c s is e)) [
          | inl still ↦ inl (same ∙ still)
          | inr now ↦
              inr (record {
                terminal = now.terminal;
                task = e ∙ ap (λ (n : ℕ). Sending n) (sym now.select);
                queue =
                    same ∙ now.left
                    ∙ ap (λ (n : ℕ). (reply_step (outbound_at (peer c) n).sender
                    (outbound_at (peer c) n).queue (reply_in h)).queue) (sym now.select);
              })
        ]
    in_task (Polling replied) e same =
        inl (same ∙ polling_queues c replied h (rooms_after c h d) t k listed)

-- a silence leaves all queues unchanged
selects_again_queues : (c : ControlValue) (s : ℕ) (enquired over : Bool) (t k : ℕ) → HasPlaces c →
    (outbound_of (if over then next_call_step c (Selection s) else answer_step
    (record c { failures = c.failures + 1 }) (repeated c s enquired)).control t k).queue
    ≡ (outbound_of c t k).queue
selects_again_queues c s enquired true t k listed = queues_kept_by_next_call c (Selection s) t k listed
selects_again_queues c s enquired false t k listed = refl

polls_again_queues : (c : ControlValue) (over : Bool) (t k : ℕ) → HasPlaces c
    → (outbound_of (if over then next_call_step c (Poll false) else poll_call_step c c.place
    (c.failures + 1)).control t k).queue ≡ (outbound_of c t k).queue
polls_again_queues c true t k listed = queues_kept_by_next_call c (Poll false) t k listed
polls_again_queues c false t k listed =
    polls_queues c c.place (c.failures + 1) t k (current_within_peers c listed)

pub outbound_silent_queue : (c d : ControlValue) (out : Option Message) (t k : ℕ) → IsControl c
    → ActsOnSilence c d out → (outbound_of d t k).queue ≡ (outbound_of c t k).queue
outbound_silent_queue c d out t k is row =
    ap (λ (o : ControlStep). (outbound_of o.control t k).queue) row ∙ in_task c.task refl
  where
    listed : HasPlaces c
    listed = places c is.entries

    in_task : (task : Task) → c.task ≡ task → (outbound_of (silence_in c task).control t k).queue
        ≡ (outbound_of c t k).queue
    in_task AtRest e = queues_kept_by_next_call c Start t k listed
    in_task (Selecting s enquired) e =
        selects_again_queues c s enquired (nat_lt c.setup.tries (c.failures + 1)) t k listed
    in_task (Sending s) e =
        queues_kept_by_step c s (silence_step (outbound_at (peer c) s).sender
        (outbound_at (peer c) s).queue) (Selection s) t k listed (sending_outbound_exists c s is e)
        (silence_queue (outbound_at (peer c) s).sender (outbound_at (peer c) s).queue)
    in_task (Polling Nothing) e =
        polls_again_queues c (nat_lt c.setup.tries (c.failures + 1)) t k listed
    in_task (Polling Uninterrupted) e = queues_kept_by_next_call c (Poll false) t k listed
    in_task (Polling Interrupted) e = queues_kept_by_next_call c (Poll true) t k listed
