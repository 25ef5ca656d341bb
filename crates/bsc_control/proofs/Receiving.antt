-- What a receiver leaves at the present terminal is what the table says.
use Rattle.std.proofs.Common.{◌≡◌, ℕ, ◌<◌, true, length, Option, sym, ap, ◌∙◌, subst, refl}
use Rattle.std.proofs.lemmas.List.{get_or-set_same}
use Rattle.std.specs.Prelude.{slice_set, option_map}
use Rattle.bsc_frame.specs.declared.message.Message.{Message}
use Rattle.bsc_frame.specs.declared.message.Message.TheVariants as m
use Rattle.bsc_frame.specs.declared.message.Heard.{Heard}
use Rattle.bsc_frame.specs.declared.message.Heard.TheVariants.{Whole, Failed, Noise}
use Rattle.bsc_frame.specs.declared.reply.Reply.{Reply}
use Rattle.bsc_bid.specs.Receiver.{ReceiverStep, Rooms, heard_step, rooms_left}
use Rattle.bsc_control.specs.declared.task.Replied.{Replied}
use Rattle.bsc_control.specs.declared.task.Task.TheVariants.{Polling}
use Rattle.bsc_control.specs.Control.{ControlValue, current, peer, peer_at}
use Rattle.bsc_control.specs.Peer.{PeerValue, PeerReceives, no_peer}
use Rattle.bsc_control.specs.Table.{IsReceived, polling_step, receive_step, rooms_after}
use Rattle.bsc_control.specs.Table.{replied_after}
use Rattle.bsc_control.proofs.Reached.{IsPeerReached}

-- whatever the receiver hears, it makes the receiver's step
receiver_step_on_any_heard : (c : ControlValue) (h : Heard) (replied : Replied) (rooms : Rooms)
    → IsReceived (Polling replied) h → polling_step c replied h rooms ≡ receive_step c replied
    (heard_step (peer c).receiver (peer c).spool h (peer c).urgent rooms)
receiver_step_on_any_heard c (Whole m.Eot) replied rooms received = absurd received
receiver_step_on_any_heard c Noise replied rooms received = refl
receiver_step_on_any_heard c Failed replied rooms received = refl
receiver_step_on_any_heard c (Whole (m.Call x)) replied rooms received = refl
receiver_step_on_any_heard c (Whole m.Enq) replied rooms received = refl
receiver_step_on_any_heard c (Whole (m.Reply r)) replied rooms received = refl
receiver_step_on_any_heard c (Whole (m.Text x)) replied rooms received = refl

-- the station d with this peer, which replied
abbrev pub with_reply : ControlValue → ℕ → PeerValue → Replied → ControlValue
with_reply d t new replied =
    record d { task = Polling replied; peers = slice_set d.peers t new }

-- the attempts to get room are read from the peer after the step
rooms_read : (c d : ControlValue) (t : ℕ) (old new : PeerValue) (h : Heard) (replied : Replied)
    → IsPeerReached c d t old → t ≡ current c
    → rooms_after c h (with_reply d t new replied) ≡ rooms_left h new.receiver.last new.spool
rooms_read c d t old new h replied reached present =
    let within : t < length d.peers =
    subst (λ (x : ControlValue). t < length x.peers) (sym reached.station) reached.within in
    let is : peer_at (with_reply d t new replied) (current c) ≡ new =
    ap (peer_at (with_reply d t new replied)) (sym present)
    ∙ get_or-set_same d.peers t new no_peer within in
    ap (λ (p : PeerValue). rooms_left h p.receiver.last p.spool) is

pub received_row : (c d : ControlValue) (t : ℕ) (old new : PeerValue) (h : Heard)
    (before after : Replied) (reply : Option Reply) (sent : Option Message)
    → IsPeerReached c d t old → t ≡ current c → PeerReceives old h new reply → after
    ≡ replied_after before reply → sent ≡ option_map m.Reply reply
    → IsReceived (Polling before) h
    → record { control = with_reply d t new after; sent = sent }
    ≡ polling_step c before h (rooms_after c h (with_reply d t new after))
received_row c d t old new h before after reply sent reached present step replied sent_is received =
    let out : ReceiverStep =
    record { receiver = new.receiver; spool = new.spool; reply = reply } in
    let own : old ≡ peer c = reached.peer ∙ ap (peer_at c) present in
    let left : record { control = with_reply d t new after; sent = sent }
    ≡ receive_step c before out =
    cc (reached.station, present, own, step.becomes, replied, sent_is) in
    let rooms = rooms_read c d t old new h after reached present in
    left
    ∙ ap (receive_step c before) (step.receives.row
    ∙ ap (λ (p : PeerValue). heard_step p.receiver p.spool h p.urgent
    (rooms_left h new.receiver.last new.spool)) own
    ∙ ap (heard_step (peer c).receiver (peer c).spool h (peer c).urgent) (sym rooms))
    ∙ sym (receiver_step_on_any_heard c h before (rooms_after c h (with_reply d t new after)) received)

pub received_room : (c d : ControlValue) (t : ℕ) (old new : PeerValue) (h : Heard)
    (after : Replied) (reply : Option Reply) → IsPeerReached c d t old → t ≡ current c
    → PeerReceives old h new reply → (peer c).spool.room ≡ true
    → (rooms_after c h (with_reply d t new after)).first ≡ true
received_room c d t old new h after reply reached present step room =
    let own : old ≡ peer c = reached.peer ∙ ap (peer_at c) present in
    ap (λ (r : Rooms). r.first) (rooms_read c d t old new h after reached present)
    ∙ step.receives.room (ap (λ (p : PeerValue). p.spool.room) own ∙ room)
