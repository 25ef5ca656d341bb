-- What the control station does with the replies of a selected terminal if all are heard: ACK0
-- begins the bid, each acknowledgement is followed by the next block, and that of the last block by
-- the next call.
use Rattle.std.proofs.Common.{◌≡◌, ℕ, zero, suc, ◌+◌, ◌<◌, true, false, Bool, List, length, Option}
use Rattle.std.proofs.Common.{Some, refl, sym, ◌∙◌, ap, subst, arith, get_or-set_same}
use Rattle.std.proofs.lemmas.List.{length-set}
use Rattle.bsc_frame.specs.declared.message.Message.{Message}
use Rattle.bsc_frame.specs.declared.message.Message.TheVariants as m
use Rattle.bsc_frame.specs.declared.reply.Reply.TheVariants.{Ack0}
use Rattle.bsc_frame.specs.declared.message.Heard.{Heard}
use Rattle.bsc_frame.specs.declared.message.Heard.TheVariants.{Whole}
use Rattle.bsc_frame.specs.declared.text.End.{End}
use Rattle.bsc_frame.specs.declared.text.End.TheVariants.{Etb, Etx}
use Rattle.bsc_spool.specs.declared.queue.Next.{Next}
use Rattle.bsc_spool.specs.Queue.{QueueValue, IsQueue, with_known, next_block}
use Rattle.bsc_bid.specs.declared.alternation.Alternation.{Alternation}
use Rattle.bsc_bid.specs.declared.alternation.Alternation.TheVariants.{Even, Odd}
use Rattle.bsc_bid.specs.declared.phase.SentBlock.{SentBlock}
use Rattle.bsc_bid.specs.declared.phase.Phase.TheVariants.{Idle, Unanswered}
use Rattle.bsc_bid.specs.Receiver.{new_receiver}
use Rattle.bsc_frame.specs.Replies.{reply_in}
use Rattle.bsc_bid.specs.Answer.{ack, other}
use Rattle.bsc_bid.specs.Sender.{SenderValue, SenderStep, text_of, sent_next, begin_step}
use Rattle.bsc_bid.specs.Sender.{reply_step, accepted, over, with_counts}
use Rattle.bsc_bid.specs.Terminal.{TerminalValue}
use Rattle.bsc_control.specs.declared.task.Task.{Task}
use Rattle.bsc_control.specs.declared.task.Task.TheVariants.{Selecting, Sending}
use Rattle.bsc_bid.specs.declared.way.Way.{Way}
use Rattle.bsc_bid.specs.declared.way.Way.TheVariants.{FromTerminal, ToTerminal}
use Rattle.bsc_control.specs.Peer.{PeerValue, OutboundValue, no_peer, no_outbound, outbound_at}
use Rattle.bsc_control.specs.Peer.{with_outbound, outbound_after}
use Rattle.bsc_control.specs.Control.{ControlValue, ControlStep, peer_at, peer, current}
use Rattle.bsc_control.specs.Control.{terminal_of_entry}
use Rattle.bsc_control.specs.CallOrder.{After, Selection, way_from, passed_over}
use Rattle.bsc_control.specs.Kept.{IsTaskOf}
use Rattle.bsc_control.specs.Table.{Hears, task_step, bid_step, make_call_step, after_bid}
use Rattle.bsc_control.specs.Table.{select_address, rooms_after, after_step, call_past_step}
use Rattle.bsc_control.proofs.Calls.{HasPlaces, current_within_peers}
use Rattle.bsc_control.proofs.Passing.{passes_none}
use Rattle.bsc_line_model.specs.Rounds.{block_count}
use Rattle.bsc_line_model.proofs.BlockCounts.{CutLaws, HasFirstBlock, IsEnd, first_block_of_queue}
use Rattle.bsc_line_model.proofs.Staying.{ControlStays, control_then, call_stays, sender_stays}

-- the address for a way
abbrev pub address_at : TerminalValue → Way → List ℕ
address_at x FromTerminal = x.poll
address_at x (ToTerminal s) = select_address x s

-- the control station has made this call, to a terminal that is polled
pub record HasCalled (c : ControlValue) (sent : Option Message) (place : ℕ) (way : Way) : Type 0
  where
    pub place_is : c.place ≡ place
    pub task : IsTaskOf way c.task
    pub call : sent ≡ Some (m.Call (address_at (peer c).terminal way))
    pub polled : (peer c).polled ≡ true

pub call_is : (c : ControlValue) (place : ℕ) (way : Way) → terminal_of_entry c place
    < length c.peers → (peer_at c (terminal_of_entry c place)).polled ≡ true →
    HasCalled (make_call_step c (record { place = place; way = way })).control
    (make_call_step c (record { place = place; way = way })).sent place way
call_is c place FromTerminal there polled =
    let t : ℕ = terminal_of_entry c place in
    record {
      place_is = refl;
      task = refl;
      call =
          ap (λ (q : PeerValue). Some (m.Call q.terminal.poll))
          (sym (get_or-set_same c.peers t (record (peer_at c t) { receiver = new_receiver true })
          no_peer there));
      polled =
          ap (λ (q : PeerValue). q.polled)
          (get_or-set_same c.peers t (record (peer_at c t) { receiver = new_receiver true })
          no_peer there) ∙ polled;
    }
call_is c place (ToTerminal s) there polled =
    let t : ℕ = terminal_of_entry c place in
    record {
      place_is = refl;
      task = refl;
      call =
          ap (λ (q : PeerValue). Some (m.Call (select_address q.terminal s)))
          (sym (get_or-set_same c.peers t (record (peer_at c t) { urgent = false }) no_peer
          there));
      polled =
          ap (λ (q : PeerValue). q.polled)
          (get_or-set_same c.peers t (record (peer_at c t) { urgent = false }) no_peer there)
          ∙ polled;
    }

-- a call leaves the sending sides of its terminal unchanged
pub call_lists : (c : ControlValue) (place : ℕ) (way : Way) → terminal_of_entry c place
    < length c.peers →
    (peer (make_call_step c (record { place = place; way = way })).control).outbounds
    ≡ (peer_at c (terminal_of_entry c place)).outbounds
call_lists c place FromTerminal there =
    let t : ℕ = terminal_of_entry c place in
    ap (λ (q : PeerValue). q.outbounds)
    (get_or-set_same c.peers t (record (peer_at c t) { receiver = new_receiver true }) no_peer
    there)
call_lists c place (ToTerminal s) there =
    let t : ℕ = terminal_of_entry c place in
    ap (λ (q : PeerValue). q.outbounds)
    (get_or-set_same c.peers t (record (peer_at c t) { urgent = false }) no_peer there)

-- block b of n + 1 is unanswered at selection address s
pub record IsInBlock (c : ControlValue) (s n : ℕ) (b : SentBlock) : Type 0 where
  pub task : c.task ≡ Sending s
  pub phase : (outbound_at (peer c) s).sender.phase ≡ Unanswered b
  pub rest : block_count (with_known (outbound_at (peer c) s).queue b.count) ≡ n
  pub end : IsEnd b.end n

-- and its text was just sent, to a terminal that is polled
pub record SendsDown (c : ControlValue) (sent : Option Message) (place s n : ℕ) : Type 0 where
  pub place_is : c.place ≡ place
  pub polled : (peer c).polled ≡ true
  pub block : SentBlock
  pub in_block : IsInBlock c s n block
  pub text : sent ≡ Some (m.Text (text_of (outbound_at (peer c) s).queue block))

stepped_outbound : (c : ControlValue) (s : ℕ) (step : SenderStep) → current c < length c.peers → s
    < length (peer c).outbounds → outbound_at (peer (after_step c s step)) s ≡ outbound_after step
stepped_outbound c s step there select =
    ap (λ (q : PeerValue). outbound_at q s)
    (get_or-set_same c.peers (current c) (with_outbound (peer c) s (outbound_after step))
    no_peer there)
    ∙ get_or-set_same (peer c).outbounds s (outbound_after step) no_outbound select

-- a step of the sender changes no terminal that is polled
polled_after_step : (c : ControlValue) (s : ℕ) (step : SenderStep) → current c < length c.peers
    → (peer c).polled ≡ true → (peer (after_step c s step)).polled ≡ true
polled_after_step c s step there polled =
    ap (λ (q : PeerValue). q.polled)
    (get_or-set_same c.peers (current c) (with_outbound (peer c) s (outbound_after step))
    no_peer there) ∙ polled

-- a block is sent
pub sends_block : (laws : CutLaws) (c d : ControlValue) (sent : Option Message) (s n : ℕ)
    (x : SenderValue) (q : QueueValue) (alternation : Alternation) (after : After) → current c
    < length c.peers → s < length (peer c).outbounds → (peer c).polled ≡ true → IsQueue q
    → block_count q ≡ suc n →
    record { control = d; sent = sent }
    ≡ bid_step c s (sent_next x q alternation (next_block q)) after
    → SendsDown d sent c.place s n × ControlStays (current c) (ToTerminal s) c d
sends_block laws c d sent s n x q alternation after there select polled is count row =
    let h : HasFirstBlock q n = first_block_of_queue laws q n is count in
    let b : SentBlock =
    record { count = h.next.count; end = h.next.end; alternation = alternation } in
    let step : SenderStep = sent_next x q alternation (Some h.next) in
    let exact : record { control = d; sent = sent } ≡ bid_step c s step after = row
    ∙ ap (λ (o : Option Next). bid_step c s (sent_next x q alternation o) after) h.is in
    let o : outbound_at (peer (after_step c s step)) s ≡ outbound_after step =
    stepped_outbound c s step there select in
    subst (λ (k : ControlStep). SendsDown k.control k.sent c.place s n
    × ControlStays (current c) (ToTerminal s) c k.control) (sym exact) (
      record {
        place_is = refl;
        polled = polled_after_step c s step there polled;
        block = b;
        in_block = record {
          task = refl;
          phase = ap (λ (z : OutboundValue). z.sender.phase) o;
          rest = ap (λ (z : OutboundValue). block_count (with_known z.queue h.next.count)) o
              ∙ h.rest;
          end = h.end;
        };
        text = ap (λ (z : OutboundValue). Some (m.Text (text_of z.queue b))) (sym o);
      },
      sender_stays c s (outbound_after step) (bid_step c s step after).control there refl refl,
    )

-- ACK0 begins the bid
pub begins_bid_down : (laws : CutLaws) (c d : ControlValue) (sent : Option Message) (s n : ℕ)
    (enquired : Bool) → current c < length c.peers → s < length (peer c).outbounds
    → (peer c).polled ≡ true → c.task ≡ Selecting s enquired →
    IsQueue (outbound_at (peer c) s).queue → block_count (outbound_at (peer c) s).queue ≡ suc n
    → Hears c (Whole (m.Reply Ack0)) d sent → SendsDown d sent c.place s n
    × ControlStays (current c) (ToTerminal s) c d
begins_bid_down laws c d sent s n enquired there select polled task is count h =
    let o : OutboundValue = outbound_at (peer c) s in
    let row : record { control = d; sent = sent }
    ≡ bid_step c s (begin_step o.sender o.queue) (Selection s) = h.row
    ∙ ap (λ (k : Task). task_step c k (Whole (m.Reply Ack0)) (rooms_after c (Whole (m.Reply Ack0)) d)) task in
    sends_block laws c d sent s n o.sender o.queue Odd (Selection s) there select polled is count
    row

-- the expected acknowledgement is heard
pub ack_step : (x : SenderValue) (q : QueueValue) (b : SentBlock) (alternation : Alternation)
    → b.alternation ≡ alternation → x.phase ≡ Unanswered b
    → reply_step x q (reply_in (Whole (m.Reply (ack alternation))))
    ≡ accepted x (with_known q b.count) b.end alternation
ack_step x q b Even p e = rw (e, p) refl
ack_step x q b Odd p e = rw (e, p) refl

selection_after_ack : (s : ℕ) (alternation : Alternation)
    → after_bid s (reply_in (Whole (m.Reply (ack alternation)))) ≡ Selection s
selection_after_ack s Even = refl
selection_after_ack s Odd = refl

-- the bid to selection address s is over, no record is left and there is no doubt, and the next
-- call is made
pub record EndsDown (c : ControlValue) (sent : Option Message) (place s : ℕ) : Type 0 where
  pub called : HasCalled c sent place (way_from (peer c) (s + 1))
  pub idle : (outbound_at (peer c) s).sender.phase ≡ Idle
  pub rest : block_count (outbound_at (peer c) s).queue ≡ 0

-- what follows the acknowledgement of a block if n blocks are left
abbrev pub GoesOnDown : ControlValue → Option Message → ℕ → ℕ → ℕ → Type 0
GoesOnDown c sent place s zero = EndsDown c sent place s
GoesOnDown c sent place s (suc n) = SendsDown c sent place s n

-- the last block: the next call
ends_bid : (c d : ControlValue) (sent : Option Message) (s : ℕ) (x : SenderValue) (q : QueueValue)
    → current c < length c.peers → s < length (peer c).outbounds → HasPlaces c
    → (peer c).polled ≡ true → block_count q ≡ 0 →
    record { control = d; sent = sent } ≡ bid_step c s (over x q Idle) (Selection s)
    → EndsDown d sent c.place s × ControlStays (current c) (ToTerminal s) c d
ends_bid c d sent s x q there select entries polled none row =
    let step : SenderStep = over x q Idle in
    let k : ControlValue = after_step c s step in
    let o : outbound_at (peer k) s ≡ outbound_after step = stepped_outbound c s step there select in
    let way : Way = way_from (peer k) (s + 1) in
    let named : terminal_of_entry k c.place < length k.peers =
    subst (λ (z : ℕ). current c < z)
    (sym (length-set c.peers (current c) (with_outbound (peer c) s (outbound_after step))))
    there in
    let r : ControlStep = make_call_step k (record { place = c.place; way = way }) in
    let still : (peer k).polled ≡ true = polled_after_step c s step there polled in
    let passed : passed_over k c.place ≡ Some 0 = passes_none k c.place entries.place still in
    let made : record { control = d; sent = sent } ≡ r =
    row ∙ ap (call_past_step k (record { place = c.place; way = way })) passed in
    let lists : (peer r.control).outbounds ≡ (peer k).outbounds = call_lists k c.place way named in
    let now : outbound_at (peer r.control) s ≡ outbound_after step =
    ap (λ (os : List OutboundValue). outbound_at (record (peer k) { outbounds = os }) s) lists
    ∙ o in
    let way_now : way_from (peer k) (s + 1) ≡ way_from (peer r.control) (s + 1) =
    ap (λ (os : List OutboundValue). way_from (record (peer k) { outbounds = os }) (s + 1))
    (sym lists) in
    subst (λ (z : ControlStep). EndsDown z.control z.sent c.place s
    × ControlStays (current c) (ToTerminal s) c z.control) (sym made) (
      record {
        called =
            subst (λ (w : Way). HasCalled r.control r.sent c.place w) way_now
            (call_is k c.place way named still);
        idle = ap (λ (z : OutboundValue). z.sender.phase) now;
        rest = ap (λ (z : OutboundValue). block_count z.queue) now ∙ none;
      },
      control_then (current c) (ToTerminal s) c k r.control
          (sender_stays c s (outbound_after step) k there refl refl)
          (call_stays (current c) (ToTerminal s) k c.place way named),
    )

-- a block is acknowledged
pub block_known_after_ack : (laws : CutLaws) (c d : ControlValue) (sent : Option Message) (s n : ℕ) (b : SentBlock)
    → HasPlaces c → s < length (peer c).outbounds → (peer c).polled ≡ true → IsInBlock c s n b
    → IsQueue (with_known (outbound_at (peer c) s).queue b.count) →
    Hears c (Whole (m.Reply (ack b.alternation))) d sent → GoesOnDown d sent c.place s n
    × ControlStays (current c) (ToTerminal s) c d
block_known_after_ack laws c d sent s n b entries select polled i is h =
    let o : OutboundValue = outbound_at (peer c) s in
    let w : Heard = Whole (m.Reply (ack b.alternation)) in
    let q : QueueValue = with_known o.queue b.count in
    let row : record { control = d; sent = sent }
    ≡ bid_step c s (accepted o.sender q b.end b.alternation) (Selection s) =
    h.row ∙ ap (λ (k : Task). task_step c k w (rooms_after c w d)) i.task
    ∙ ap (λ (z : SenderStep). bid_step c s z (after_bid s (reply_in w)))
    (ack_step o.sender o.queue b b.alternation refl i.phase)
    ∙ ap (λ (z : After). bid_step c s (accepted o.sender q b.end b.alternation) z)
    (selection_after_ack s b.alternation) in
    by_end b.end row n i.rest i.end
  where
    there : current c < length c.peers
    there = current_within_peers c entries

    by_end : (end : End) → record { control = d; sent = sent }
        ≡ bid_step c s (accepted (outbound_at (peer c) s).sender
        (with_known (outbound_at (peer c) s).queue b.count) end b.alternation) (Selection s) →
        (k : ℕ) → block_count (with_known (outbound_at (peer c) s).queue b.count) ≡ k → IsEnd end k
        → GoesOnDown d sent c.place s k × ControlStays (current c) (ToTerminal s) c d
    by_end Etx row zero rest e =
        ends_bid c d sent s (with_counts (outbound_at (peer c) s).sender 0 0)
        (with_known (outbound_at (peer c) s).queue b.count) there select entries polled rest row
    by_end Etx row (suc k) rest e = absurd (omega (arith, e))
    by_end Etb row zero rest e = absurd (omega (arith, e.1))
    by_end Etb row (suc k) rest e =
        sends_block laws c d sent s k (outbound_at (peer c) s).sender
        (with_known (outbound_at (peer c) s).queue b.count) (other b.alternation) (Selection s)
        there select polled is rest row
