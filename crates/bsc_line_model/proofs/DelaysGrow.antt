-- The counts of refusals of room never fall while transmissions are heard.
use Rattle.std.proofs.Common.{◌≡◌, inl, inr, ℕ, ◌+◌, ◌^◌, ◌-◌, ◌<◌, ◌≤◌, true, false, Bool, List}
use Rattle.std.proofs.Common.{length, nat_eq, nat_lt, Option, None, Some, slice_set, refl, sym, ◌∙◌}
use Rattle.std.proofs.Common.{ap, subst, arith, if◌then◌else◌, get_or-set_other, get_or-set_same}
use Rattle.std.proofs.lemmas.List.{length-set}
use Rattle.bsc_frame.specs.declared.message.Message.{Message}
use Rattle.bsc_frame.specs.declared.message.Message.TheVariants as m
use Rattle.bsc_frame.specs.declared.message.Heard.{Heard}
use Rattle.bsc_frame.specs.declared.message.Heard.TheVariants.{Whole, Failed, Noise}
use Rattle.bsc_frame.specs.Texts.{TextValue}
use Rattle.bsc_spool.specs.Queue.{waiting}
use Rattle.bsc_spool.specs.Spool.{SpoolValue, with_delay, room_asked}
use Rattle.bsc_bid.specs.Act.{Act}
use Rattle.bsc_bid.specs.Act as a
use Rattle.bsc_frame.specs.declared.reply.Reply.{Reply}
use Rattle.bsc_frame.specs.declared.reply.Reply.TheVariants.{Ack0, Nak, Wack}
use Rattle.bsc_frame.specs.Replies.{reply_in}
use Rattle.bsc_bid.specs.Receiver.{ReceiverValue, ReceiverStep, Rooms, heard_step, text_step}
use Rattle.bsc_bid.specs.Receiver.{stored_text, taken_urgently, replied, is_interrupt, is_wack}
use Rattle.bsc_bid.specs.Receiver.{new_receiver}
use Rattle.bsc_bid.specs.Sender.{SenderStep, begin_step, reply_step, is_in_doubt}
use Rattle.bsc_bid.proofs.Choice.{either_branch}
use Rattle.bsc_tributary.specs.declared.called.Called.{Called}
use Rattle.bsc_tributary.specs.declared.called.Called.TheVariants.{Polling, Selection, Other}
use Rattle.bsc_tributary.specs.declared.mode.Mode.{Mode}
use Rattle.bsc_tributary.specs.declared.mode.Mode.TheVariants as mode
use Rattle.bsc_tributary.specs.Called.{called_as}
use Rattle.bsc_tributary.specs.Tributary.{TributaryValue, TributaryStep, Hears, hear_step}
use Rattle.bsc_tributary.specs.Tributary.{call_step, mode_step, act_step, answer_step, without_line}
use Rattle.bsc_tributary.specs.Tributary.{rooms_after, spool_at, empty_spool}
use Rattle.bsc_control.specs.declared.task.Task.{Task}
use Rattle.bsc_control.specs.declared.task.Task.TheVariants as k
use Rattle.bsc_control.specs.declared.task.Replied.{Replied}
use Rattle.bsc_bid.specs.declared.way.Way.{Way}
use Rattle.bsc_bid.specs.declared.way.Way.TheVariants.{FromTerminal, ToTerminal}
use Rattle.bsc_control.specs.Peer.{PeerValue, OutboundValue, no_peer, outbound_at, with_outbound}
use Rattle.bsc_control.specs.Peer.{outbound_after}
use Rattle.bsc_control.specs.Control.{ControlValue, ControlStep, peer_at, peer, current}
use Rattle.bsc_control.specs.Control.{terminal_of_entry, with_peer, with_current}
use Rattle.bsc_control.specs.Control.{answer_step as control_answers}
use Rattle.bsc_control.specs.CallOrder.{After, Selection, Poll, next_call}
use Rattle.bsc_control.specs.Table.{Hears as ControlHears, task_step, selecting_step, polling_step}
use Rattle.bsc_control.specs.Table.{receive_step, bid_step, act_step as control_acts}
use Rattle.bsc_control.specs.Table.{next_call_step}
use Rattle.bsc_control.specs.Table.{way_call_step, after_bid, is_interrupted}
use Rattle.bsc_control.specs.Table.{rooms_after as rooms_up}
use Rattle.bsc_control.proofs.Calls.{by_next_call}
use Rattle.bsc_line_model.proofs.Stations.{same_or_not}

-- a count within 64 bits does not fall, and stays within them
abbrev pub Grows : ℕ → ℕ → Type 0
Grows d e = d ≤ 2 ^ 64 - 1 → (d ≤ e) × (e ≤ 2 ^ 64 - 1)

pub grows_by_nothing : (d : ℕ) → Grows d d
grows_by_nothing d within = (omega arith, within)

pub grows_in_turn : (a b c : ℕ) → Grows a b → Grows b c → Grows a c
grows_in_turn a b c x y within =
    let first : (a ≤ b) × (b ≤ 2 ^ 64 - 1) = x within in
    let second : (b ≤ c) × (c ≤ 2 ^ 64 - 1) = y first.1 in
    let low : a ≤ b = first.0 in
    let high : b ≤ c = second.0 in
    (omega (arith, low, high), second.1)

grows_with_delay : (d : ℕ) → Grows d (with_delay d)
grows_with_delay d within = (omega (arith, within), omega (arith, within))

asked_grows : (s : SpoolValue) (b : Bool) → Grows s.delays (room_asked s b).delays
asked_grows s true = grows_by_nothing s.delays
asked_grows s false = grows_with_delay s.delays

-- a receiver hears a transmission
abbrev ReceiverGrows : ℕ → ReceiverStep → Type 0
ReceiverGrows d out = Grows d out.spool.delays

taken_grows : (r : ReceiverValue) (s : SpoolValue) (t : TextValue) (rooms : Rooms)
    → ReceiverGrows s.delays (stored_text r s t rooms)
taken_grows r s t rooms = asked_grows s rooms.after

text_grows : (r : ReceiverValue) (s : SpoolValue) (t : TextValue) (urgent : Bool) (rooms : Rooms)
    → ReceiverGrows s.delays (text_step r s t urgent rooms)
text_grows r s t urgent rooms =
    let plain : ReceiverStep = stored_text r s t rooms in
    let urgently : ReceiverStep = taken_urgently r s t rooms in
    let refused : ReceiverStep = replied r.alternation (room_asked s false) Nak in
    either_branch (ReceiverGrows s.delays) rooms.first
    (if urgent then (if is_interrupt r.last then plain else urgently) else plain) refused
    (either_branch (ReceiverGrows s.delays) urgent (if is_interrupt r.last then plain else urgently) plain
    (either_branch (ReceiverGrows s.delays) (is_interrupt r.last) plain urgently (taken_grows r s t rooms)
    (grows_by_nothing s.delays)) (taken_grows r s t rooms))
    (asked_grows s false)

enq_grows : (r : ReceiverValue) (s : SpoolValue) (rooms : Rooms) (wack : Bool) (said : Reply)
    → ReceiverGrows s.delays (if wack then replied r.alternation (room_asked s rooms.first) said
    else replied r.alternation s r.last)
enq_grows r s rooms true said = asked_grows s rooms.first
enq_grows r s rooms false said = grows_by_nothing s.delays

heard_grows : (r : ReceiverValue) (s : SpoolValue) (h : Heard) (urgent : Bool) (rooms : Rooms)
    → ReceiverGrows s.delays (heard_step r s h urgent rooms)
heard_grows r s (Whole (m.Text t)) urgent rooms = text_grows r s t urgent rooms
heard_grows r s (Whole m.Enq) urgent rooms = enq_grows r s rooms (is_wack r.last) _
heard_grows r s (Whole m.Eot) urgent rooms = grows_by_nothing s.delays
heard_grows r s (Whole (m.Call x)) urgent rooms = grows_by_nothing s.delays
heard_grows r s (Whole (m.Reply reply)) urgent rooms = grows_by_nothing s.delays
heard_grows r s Failed urgent rooms = grows_by_nothing s.delays
heard_grows r s Noise urgent rooms = grows_by_nothing s.delays

-- the spools of a terminal
abbrev SpoolsGrow : List SpoolValue → List SpoolValue → Type 0
SpoolsGrow old new = (s : ℕ) → s < length old
    → Grows (spool_at old s).delays (spool_at new s).delays

abbrev TerminalGrows : List SpoolValue → TributaryStep → Type 0
TerminalGrows old out = SpoolsGrow old out.tributary.spools

spools_grow_by_nothing : (old : List SpoolValue) → SpoolsGrow old old
spools_grow_by_nothing old s less = grows_by_nothing (spool_at old s).delays

spool_set : (old : List SpoolValue) (e : ℕ) (z : SpoolValue)
    → Grows (spool_at old e).delays z.delays → SpoolsGrow old (slice_set old e z)
spool_set old e z grows s less =
    elim (same_or_not s e) [
      | inl same ↦
          (let there : e < length old = subst (λ (n : ℕ). n < length old) same less in
          subst (λ (n : ℕ). Grows (spool_at old n).delays (spool_at (slice_set old e z) n).delays)
          (sym same)
          (subst (λ (y : SpoolValue). Grows (spool_at old e).delays y.delays)
          (sym (get_or-set_same old e z empty_spool there)) grows))
      | inr differ ↦ subst (λ (y : SpoolValue). Grows (spool_at old s).delays y.delays)
          (sym (get_or-set_other old e s z empty_spool differ)) (grows_by_nothing (spool_at old s).delays)
    ]

call_grows : (x : TributaryValue) (c : Called) (rooms : Rooms)
    → TerminalGrows x.spools (call_step x c rooms)
call_grows x Polling rooms =
    let d : TributaryValue = record (without_line x) { urgent = false } in
    let same : SpoolsGrow x.spools x.spools = spools_grow_by_nothing x.spools in
    let none : TributaryStep = answer_step d m.Eot in
    let some : TributaryStep = act_step d (begin_step d.sender d.queue) in
    either_branch (TerminalGrows x.spools) (is_in_doubt d.sender.phase) none
    (if nat_eq (length (waiting d.queue)) 0 then none else some) same
    (either_branch (TerminalGrows x.spools) (nat_eq (length (waiting d.queue)) 0) none some same same)
call_grows x (Selection s) rooms =
    let d : TributaryValue = without_line x in
    let z : SpoolValue = room_asked (spool_at x.spools s) rooms.first in
    either_branch (TerminalGrows x.spools) x.ready _ _
    (spool_set x.spools s z (asked_grows (spool_at x.spools s) rooms.first))
    (spools_grow_by_nothing x.spools)
call_grows x Other rooms = spools_grow_by_nothing x.spools

mode_grows : (x : TributaryValue) (n : Mode) (h : Heard) (rooms : Rooms)
    → TerminalGrows x.spools (mode_step x n h rooms)
mode_grows x mode.Control h rooms = spools_grow_by_nothing x.spools
mode_grows x (mode.Receiving s) h rooms =
    let out : ReceiverStep = heard_step x.receiver (spool_at x.spools s) h x.urgent rooms in
    spool_set x.spools s out.spool (heard_grows x.receiver (spool_at x.spools s) h x.urgent rooms)
mode_grows x mode.Sending h rooms = spools_grow_by_nothing x.spools

hear_grows : (x : TributaryValue) (h : Heard) (rooms : Rooms)
    → TerminalGrows x.spools (hear_step x h rooms)
hear_grows x (Whole m.Eot) rooms = spools_grow_by_nothing x.spools
hear_grows x (Whole (m.Call address)) rooms = call_grows x (called_as x.terminal address) rooms
hear_grows x (Whole (m.Text t)) rooms = mode_grows x x.mode (Whole (m.Text t)) rooms
hear_grows x (Whole m.Enq) rooms = mode_grows x x.mode (Whole m.Enq) rooms
hear_grows x (Whole (m.Reply r)) rooms = mode_grows x x.mode (Whole (m.Reply r)) rooms
hear_grows x Failed rooms = mode_grows x x.mode Failed rooms
hear_grows x Noise rooms = mode_grows x x.mode Noise rooms

pub terminal_grows : (x : TributaryValue) (h : Heard) (u : TributaryValue) (out : Option Message)
    → Hears x h u out → SpoolsGrow x.spools u.spools
terminal_grows x h u out hears =
    subst (λ (o : TributaryStep). TerminalGrows x.spools o) (sym hears.row)
    (hear_grows x h (rooms_after h u))

-- the spools that the control station has for the terminals
pub record ControlGrows (old new : ControlValue) : Type 0 where
  pub count : length new.peers ≡ length old.peers
  pub spools : (t : ℕ) → t < length old.peers
      → Grows (peer_at old t).spool.delays (peer_at new t).spool.delays

pub control_same_grows : (c : ControlValue) → ControlGrows c c
control_same_grows c =
    record { count = refl; spools = λ t less. grows_by_nothing (peer_at c t).spool.delays }

peers_set : (c d : ControlValue) (e : ℕ) (p : PeerValue) → d.peers ≡ slice_set c.peers e p
    → Grows (peer_at c e).spool.delays p.spool.delays → ControlGrows c d
peers_set c d e p is grows =
    record {
      count = ap (λ (ps : List PeerValue). length ps) is ∙ length-set c.peers e p;
      spools = λ t less.
          subst (λ (ps : List PeerValue). Grows (peer_at c t).spool.delays
          (peer_at (record c { peers = ps }) t).spool.delays) (sym is)
          (elim (same_or_not t e) [
            | inl same ↦
                (let there : e < length c.peers = subst (λ (n : ℕ). n < length c.peers) same less in
                subst (λ (n : ℕ). Grows (peer_at c n).spool.delays
                (peer_at (with_peer c e p) n).spool.delays) (sym same)
                (subst (λ (q : PeerValue). Grows (peer_at c e).spool.delays q.spool.delays)
                (sym (get_or-set_same c.peers e p no_peer there)) grows))
            | inr differ ↦ subst (λ (q : PeerValue). Grows (peer_at c t).spool.delays
                q.spool.delays) (sym (get_or-set_other c.peers e t p no_peer differ))
                (grows_by_nothing (peer_at c t).spool.delays)
          ]);
    }

control_then_grows : (a b c : ControlValue) → ControlGrows a b → ControlGrows b c → ControlGrows a c
control_then_grows a b c x y =
    record {
      count = y.count ∙ x.count;
      spools = λ t less.
          let on : t < length b.peers = omega (arith, less, x.count) in
          grows_in_turn (peer_at a t).spool.delays (peer_at b t).spool.delays
          (peer_at c t).spool.delays (x.spools t less) (y.spools t on);
    }

calls_by_grow : (c : ControlValue) (place : ℕ) (way : Way)
    → ControlGrows c (way_call_step c place way).control
calls_by_grow c place FromTerminal =
    let t : ℕ = terminal_of_entry c place in
    peers_set c (way_call_step c place FromTerminal).control t
    (record (peer_at c t) { receiver = new_receiver true }) refl
    (grows_by_nothing (peer_at c t).spool.delays)
calls_by_grow c place (ToTerminal s) =
    let t : ℕ = terminal_of_entry c place in
    peers_set c (way_call_step c place (ToTerminal s)).control t
    (record (peer_at c t) { urgent = false }) refl (grows_by_nothing (peer_at c t).spool.delays)

next_call_grows : (c : ControlValue) (after : After) → ControlGrows c (next_call_step c after).control
next_call_grows c after =
    by_next_call (λ (step : ControlStep). ControlGrows c step.control) c after
    (record { count = refl; spools = λ t less. grows_by_nothing (peer_at c t).spool.delays })
    (calls_by_grow c (next_call c after).place (next_call c after).way)

performs_grow : (c : ControlValue) (s : ℕ) (act : Act) (after : After)
    → ControlGrows c (control_acts c s act after).control
performs_grow c s (a.Send text) after =
    record { count = refl; spools = λ t less. grows_by_nothing (peer_at c t).spool.delays }
performs_grow c s a.Enq after =
    record { count = refl; spools = λ t less. grows_by_nothing (peer_at c t).spool.delays }
performs_grow c s a.Over after = next_call_grows c after
performs_grow c s a.Quiet after = control_same_grows c

acted_grows : (c : ControlValue) (s : ℕ) (step : SenderStep) (after : After)
    → ControlGrows c (bid_step c s step after).control
acted_grows c s step after =
    let o : OutboundValue = outbound_after step in
    let d : ControlValue = with_current c (with_outbound (peer c) s o) in
    control_then_grows c d (control_acts d s step.act after).control
    (peers_set c d (current c) (with_outbound (peer c) s o) refl (grows_by_nothing (peer c).spool.delays))
    (performs_grow d s step.act after)

selecting_grows : (c : ControlValue) (s : ℕ) (r : Option Reply)
    → ControlGrows c (selecting_step c s r).control
selecting_grows c s None = control_same_grows c
selecting_grows c s (Some Ack0) =
    acted_grows c s (begin_step (outbound_at (peer c) s).sender (outbound_at (peer c) s).queue)
    (Selection s)
selecting_grows c s (Some Nak) = next_call_grows c (Selection s)
selecting_grows c s (Some Wack) =
    either_branch (λ (x : ControlStep). ControlGrows c x.control) (nat_lt c.setup.waits (c.wacks + 1))
    (next_call_step c (Selection s)) (control_answers
    (record c { task = k.Selecting s true; failures = 0; wacks = c.wacks + 1 }) m.Enq)
    (next_call_grows c (Selection s)) (record {
      count = refl;
      spools =
          λ t less. grows_by_nothing (peer_at c t).spool.delays;
    })
selecting_grows c s (Some _) = control_same_grows c

receives_grow : (c : ControlValue) (replied : Replied) (h : Heard) (rooms : Rooms)
    → ControlGrows c (receive_step c replied
    (heard_step (peer c).receiver (peer c).spool h (peer c).urgent rooms)).control
receives_grow c replied h rooms =
    let out : ReceiverStep = heard_step (peer c).receiver (peer c).spool h (peer c).urgent rooms in
    peers_set c (receive_step c replied out).control (current c) _ refl
    (heard_grows (peer c).receiver (peer c).spool h (peer c).urgent rooms)

polling_grows : (c : ControlValue) (replied : Replied) (h : Heard) (rooms : Rooms)
    → ControlGrows c (polling_step c replied h rooms).control
polling_grows c replied (Whole m.Eot) rooms = next_call_grows c (Poll (is_interrupted replied))
polling_grows c replied (Whole (m.Call x)) rooms = receives_grow c replied (Whole (m.Call x)) rooms
polling_grows c replied (Whole (m.Text t)) rooms = receives_grow c replied (Whole (m.Text t)) rooms
polling_grows c replied (Whole m.Enq) rooms = receives_grow c replied (Whole m.Enq) rooms
polling_grows c replied (Whole (m.Reply r)) rooms = receives_grow c replied (Whole (m.Reply r)) rooms
polling_grows c replied Failed rooms = receives_grow c replied Failed rooms
polling_grows c replied Noise rooms = receives_grow c replied Noise rooms

task_grows : (c : ControlValue) (task : Task) (h : Heard) (rooms : Rooms)
    → ControlGrows c (task_step c task h rooms).control
task_grows c k.AtRest h rooms = control_same_grows c
task_grows c (k.Selecting s enquired) h rooms = selecting_grows c s (reply_in h)
task_grows c (k.Sending s) h rooms =
    acted_grows c s (reply_step (outbound_at (peer c) s).sender (outbound_at (peer c) s).queue
    (reply_in h)) (after_bid s (reply_in h))
task_grows c (k.Polling replied) h rooms = polling_grows c replied h rooms

pub control_grows : (c : ControlValue) (h : Heard) (d : ControlValue) (sent : Option Message)
    → ControlHears c h d sent → ControlGrows c d
control_grows c h d sent hears =
    subst (λ (o : ControlStep). ControlGrows c o.control) (sym hears.row)
    (task_grows c c.task h (rooms_up c h d))
