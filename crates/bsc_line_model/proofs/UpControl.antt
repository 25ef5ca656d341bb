-- What the control station does in a poll if all is heard and no room is refused: each block is
-- acknowledged, and after EOT the next entry is called.
use Rattle.std.proofs.Common.{◌≡◌, ℕ, ◌^◌, ◌-◌, ◌<◌, false, true, Bool, List, length, Option}
use Rattle.std.proofs.Common.{None, Some, option_map, refl, sym, ◌∙◌, ap, subst, arith}
use Rattle.std.proofs.Common.{if◌then◌else◌, get_or-set_same}
use Rattle.bsc_frame.specs.declared.message.Message.{Message}
use Rattle.bsc_frame.specs.declared.message.Message.TheVariants as m
use Rattle.bsc_frame.specs.declared.message.Heard.{Heard}
use Rattle.bsc_frame.specs.declared.message.Heard.TheVariants.{Whole}
use Rattle.bsc_frame.specs.Texts.{TextValue}
use Rattle.bsc_bid.specs.declared.alternation.Alternation.{Alternation}
use Rattle.bsc_bid.specs.declared.alternation.Alternation.TheVariants.{Even, Odd}
use Rattle.bsc_frame.specs.declared.reply.Reply.{Reply}
use Rattle.bsc_bid.specs.Answer.{ack, other}
use Rattle.bsc_bid.specs.Receiver.{ReceiverStep, Rooms, text_step, sends_interrupt}
use Rattle.bsc_control.specs.declared.task.Replied.{Replied}
use Rattle.bsc_control.specs.declared.task.Replied.TheVariants.{Nothing, Uninterrupted, Interrupted}
use Rattle.bsc_control.specs.declared.task.Task.{Task}
use Rattle.bsc_control.specs.declared.task.Task.TheVariants.{Polling}
use Rattle.bsc_bid.specs.declared.way.Way.{Way}
use Rattle.bsc_bid.specs.declared.way.Way.TheVariants.{FromTerminal}
use Rattle.bsc_control.specs.Peer.{PeerValue, OutboundValue, no_peer}
use Rattle.bsc_control.specs.Control.{ControlValue, ControlStep, peer_at, peer, current}
use Rattle.bsc_control.specs.Control.{terminal_of_entry}
use Rattle.bsc_control.specs.CallOrder.{Poll, way_from, next_place, passed_over, place_further}
use Rattle.bsc_control.specs.CallOrder.{place_past, polled_place}
use Rattle.bsc_control.specs.Table.{Hears, task_step, receive_step, make_call_step}
use Rattle.bsc_control.specs.Table.{next_call_step, replied_after, is_interrupted, rooms_after}
use Rattle.bsc_control.proofs.Calls.{HasPlaces, next_place_within}
use Rattle.bsc_control.proofs.Passing.{first_call_past, further_within, passed_within}
use Rattle.bsc_control.proofs.Passing.{polled_further, some_polled}
use Rattle.bsc_line_model.proofs.Staying.{ControlStays, peer_written, call_stays}
use Rattle.bsc_line_model.proofs.DownControl.{HasCalled, call_is, call_lists}
use Rattle.bsc_line_model.proofs.DownTerminals.{flag_stays_down, other_of_other, taken_exact}

-- a poll that was not interrupted is in progress, of a terminal that is still polled
pub record IsPolled (c : ControlValue) (place : ℕ) : Type 0 where
  pub place_is : c.place ≡ place
  pub polled : (peer c).polled ≡ true
  pub replied : Replied
  pub task : c.task ≡ Polling replied
  pub uninterrupted : is_interrupted replied ≡ false

-- an acknowledgement is no interrupt
no_interrupt_after_ack : (r : Replied) (p : Alternation) → is_interrupted r ≡ false
    → is_interrupted (replied_after r (Some (ack p))) ≡ false
no_interrupt_after_ack Nothing Even e = refl
no_interrupt_after_ack Nothing Odd e = refl
no_interrupt_after_ack Uninterrupted Even e = refl
no_interrupt_after_ack Uninterrupted Odd e = refl
no_interrupt_after_ack Interrupted p e = absurd (cc)

-- a block is taken
pub takes_up : (c d : ControlValue) (sent : Option Message) (t : TextValue)
    (alternation : Alternation) (place : ℕ) → current c < length c.peers → IsPolled c place
    → (peer c).urgent ≡ false → (peer c).receiver.alternation ≡ other alternation →
    (peer_at d (current c)).spool.delays ≡ (peer c).spool.delays → (peer c).spool.delays < 2 ^ 64
    - 1 → Hears c (Whole (m.Text t)) d sent → (sent ≡ Some (m.Reply (ack alternation)))
    × IsPolled d place × ControlStays (current c) FromTerminal c d
takes_up c d sent t alternation place there i not_urgent counted same less h =
    let e : ℕ = current c in
    let p : PeerValue = peer c in
    let w : Heard = Whole (m.Text t) in
    let rooms : Rooms = rooms_after c w d in
    let r : ReceiverStep = text_step p.receiver p.spool t false rooms in
    let q : PeerValue =
    record p {
      receiver = r.receiver;
      spool = r.spool;
      urgent =
          if sends_interrupt r.reply then false else p.urgent;
    } in
    let row : record { control = d; sent = sent } ≡ receive_step c i.replied r =
    h.row ∙ ap (λ (k : Task). task_step c k w rooms) i.task
    ∙ ap (λ (b : Bool). receive_step c i.replied (text_step p.receiver p.spool t b rooms))
    not_urgent in
    let now : peer_at d e ≡ q = ap (λ (o : ControlStep). peer_at o.control e) row
    ∙ get_or-set_same c.peers e q no_peer there in
    let delays : r.spool.delays ≡ p.spool.delays = ap (λ (z : PeerValue). z.spool.delays) (sym now)
    ∙ same in
    let parity_is : other p.receiver.alternation ≡ alternation = ap other counted
    ∙ other_of_other alternation in
    let reply : r.reply ≡ Some (ack alternation) =
    taken_exact p.receiver p.spool t rooms.first rooms.after delays less
    ∙ ap (λ (z : Alternation). Some (ack z)) parity_is in (
      ap (λ (o : ControlStep). o.sent) row
          ∙ ap (λ (z : Option Reply). option_map m.Reply z) reply,
      record {
        place_is = ap (λ (o : ControlStep). o.control.place) row ∙ i.place_is;
        polled =
            ap (λ (o : ControlStep). (peer o.control).polled) row
            ∙ ap (λ (z : PeerValue). z.polled) (get_or-set_same c.peers e q no_peer there)
            ∙ i.polled;
        replied = replied_after i.replied (Some (ack alternation));
        task = ap (λ (o : ControlStep). o.control.task) row
            ∙ ap (λ (z : Option Reply). Polling (replied_after i.replied z)) reply;
        uninterrupted = no_interrupt_after_ack i.replied alternation i.uninterrupted;
      },
      peer_written e FromTerminal c d e q there
          (record {
            terminal = refl;
            polled = refl;
            urgent = λ k. flag_stays_down (sends_interrupt r.reply) p.urgent k;
            count =
                refl;
            down = λ s k. refl;
            up = λ k. absurd (k refl refl);
          })
          (ap (λ (o : ControlStep). o.control.peers) row)
          (ap (λ (o : ControlStep). o.control.poll_list) row),
    )

-- the next entry is called, by the lists as they are
pub record CallsNext (c : ControlValue) (sent : Option Message) (place : ℕ) : Type 0 where
  pub called : HasCalled c sent place (way_from (peer c) 0)

-- the place of the next entry whose terminal is polled
abbrev pub next_polled_place : ControlValue → ℕ
next_polled_place c = polled_place c (next_place c)

-- EOT ends the poll
pub polled_out : (c d : ControlValue) (sent : Option Message) (place : ℕ) → HasPlaces c
    → IsPolled c place → Hears c (Whole m.Eot) d sent
    → CallsNext d sent (next_polled_place c) × ControlStays (current c) FromTerminal c d
polled_out c d sent place entries i h = by_passed (passed_over c (next_place c)) refl
  where
    within : next_place c < length c.poll_list
    within = next_place_within c entries.place

    next_row : record { control = d; sent = sent } ≡ next_call_step c (Poll false)
    next_row =
        h.row ∙ ap (λ (k : Task). task_step c k (Whole m.Eot) (rooms_after c (Whole m.Eot) d)) i.task
        ∙ ap (λ (b : Bool). next_call_step c (Poll b)) i.uninterrupted

    by_passed : (passed : Option ℕ) → passed_over c (next_place c) ≡ passed
        → CallsNext d sent (next_polled_place c) × ControlStays (current c) FromTerminal c d
    by_passed None none =
        absurd (some_polled c (next_place c) c.place within entries.place i.polled none)
    by_passed (Some more) some =
        let place : ℕ = next_polled_place c in
        let t : ℕ = terminal_of_entry c place in
        let is_place : place_further (length c.poll_list) (next_place c) more ≡ place =
        sym (ap (place_past (length c.poll_list) (next_place c)) some) in
        let inside : place < length c.poll_list =
        subst (λ (k : ℕ). k < length c.poll_list) is_place
        (further_within (length c.poll_list) (next_place c) more within
        (passed_within c (next_place c) more (omega (arith, within)) some)) in
        let there : t < length c.peers = entries.entries place 0 inside in
        let polled : (peer_at c t).polled ≡ true =
        subst (λ (k : ℕ). (peer_at c (terminal_of_entry c k)).polled ≡ true) is_place
        (polled_further c (next_place c) more within some) in
        let way : Way = way_from (peer_at c t) 0 in
        let r : ControlStep = make_call_step c (record { place = place; way = way }) in
        let row : record { control = d; sent = sent } ≡ r =
        next_row ∙ first_call_past c (next_place c) more within some in
        let lists : (peer r.control).outbounds ≡ (peer_at c t).outbounds =
        call_lists c place way there in
        let way_now : way ≡ way_from (peer r.control) 0 =
        ap (λ (os : List OutboundValue). way_from (record (peer_at c t) { outbounds = os }) 0)
        (sym lists) in
        subst (λ (z : ControlStep). CallsNext z.control z.sent place
        × ControlStays (current c) FromTerminal c z.control) (sym row) (
          record {
            called =
                subst (λ (w : Way). HasCalled r.control r.sent place w) way_now
                (call_is c place way there polled);
          },
          call_stays (current c) FromTerminal c place way there,
        )
