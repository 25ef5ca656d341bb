-- What a terminal does if it is selected or sent a block, all is heard and no room is refused.
use Rattle.std.proofs.Common.{◌≡◌, ◌≢◌, ℕ, ◌^◌, ◌-◌, ◌<◌, true, false, Bool, IsTrue, List, length}
use Rattle.std.proofs.Common.{Option, None, Some, slice_set, option_map, refl, sym, ◌∙◌, ap, subst}
use Rattle.std.proofs.Common.{arith, if◌then◌else◌, get_or-set_other, get_or-set_same}
use Rattle.bsc_frame.specs.declared.message.Message.{Message}
use Rattle.bsc_frame.specs.declared.message.Message.TheVariants as m
use Rattle.bsc_frame.specs.declared.reply.Reply.TheVariants.{Ack0, Nak}
use Rattle.bsc_frame.specs.declared.message.Heard.TheVariants.{Whole}
use Rattle.bsc_frame.specs.Texts.{TextValue}
use Rattle.bsc_spool.specs.Spool.{SpoolValue, room_asked, with_delay}
use Rattle.bsc_bid.specs.declared.alternation.Alternation.{Alternation}
use Rattle.bsc_bid.specs.declared.alternation.Alternation.TheVariants.{Even, Odd}
use Rattle.bsc_frame.specs.declared.reply.Reply.{Reply}
use Rattle.bsc_bid.specs.Ready.{IsAtRest}
use Rattle.bsc_bid.specs.Answer.{ack, other}
use Rattle.bsc_bid.specs.Receiver.{ReceiverValue, ReceiverStep, Rooms, text_step, sends_interrupt}
use Rattle.bsc_bid.specs.Receiver.{new_receiver, first_reply}
use Rattle.bsc_tributary.specs.declared.called.Called.{Called}
use Rattle.bsc_tributary.specs.declared.called.Called.TheVariants.{Selection, Other}
use Rattle.bsc_tributary.specs.declared.mode.Mode.{Mode}
use Rattle.bsc_tributary.specs.declared.mode.Mode.TheVariants.{Receiving}
use Rattle.bsc_tributary.specs.Called.{called_as}
use Rattle.bsc_tributary.specs.Tributary.{TributaryValue, TributaryStep, Hears, mode_step}
use Rattle.bsc_tributary.specs.Tributary.{receive_step, call_step, selection_step, rooms_after}
use Rattle.bsc_tributary.specs.Tributary.{without_line, quiet_step, spool_at, empty_spool}
use Rattle.bsc_bid.specs.declared.way.Way.TheVariants.{ToTerminal}
use Rattle.bsc_bid.specs.declared.way.Way.{Way}
use Rattle.bsc_line_model.proofs.Staying.{TerminalStays}
use Rattle.bsc_bid.proofs.Resting.{cut_at_rest}

-- a flag that is down stays down
pub flag_stays_down : (b u : Bool) → u ≡ false → (if b then false else u) ≡ false
flag_stays_down true u e = refl
flag_stays_down false u e = e

pub other_of_other : (p : Alternation) → other (other p) ≡ p
other_of_other Even = refl
other_of_other Odd = refl

-- a text for which there is room is taken and acknowledged
pub taken_exact : (r : ReceiverValue) (s : SpoolValue) (t : TextValue) (first after : Bool)
    → (text_step r s t false (record { first = first; after = after })).spool.delays ≡ s.delays
    → s.delays < 2 ^ 64 - 1 →
    (text_step r s t false (record { first = first; after = after })).reply
    ≡ Some (ack (other r.alternation))
taken_exact r s t true true e less = refl
taken_exact r s t true false e less = absurd (omega (arith, e))
taken_exact r s t false after e less = absurd (omega (arith, e))

-- a step of a receiver changes its own spool only
receives_stays : (e : ℕ) (x : TributaryValue) (s : ℕ) (r : ReceiverStep)
    → TerminalStays e (ToTerminal s) e x (receive_step x s r).tributary
receives_stays e x s r =
    record {
      ready = refl;
      urgent = λ k. flag_stays_down (sends_interrupt r.reply) x.urgent k;
      down = λ k k_else.
          let differ : k ≢ s = λ same. k_else refl (ap (λ (n : ℕ). ToTerminal n) same) in
          ap (λ (z : SpoolValue). z.records)
          (get_or-set_other x.spools s k r.spool empty_spool differ);
      queue = λ k. refl;
      phase = λ k. refl;
    }

-- a block is taken
pub takes_block : (e : ℕ) (x u : TributaryValue) (out : Option Message) (s : ℕ) (t : TextValue)
    (alternation : Alternation) → x.mode ≡ Receiving s → s < length x.spools → x.urgent ≡ false
    → x.receiver.alternation ≡ other alternation →
    (spool_at u.spools s).delays ≡ (spool_at x.spools s).delays → (spool_at x.spools s).delays
    < 2 ^ 64 - 1 → Hears x (Whole (m.Text t)) u out
    → (out ≡ Some (m.Reply (ack alternation))) × TerminalStays e (ToTerminal s) e x u
takes_block e x u out s t alternation mode there not_urgent counted same less h =
    let spool : SpoolValue = spool_at x.spools s in
    let rooms : Rooms = rooms_after (Whole (m.Text t)) u in
    let r : ReceiverStep = text_step x.receiver spool t false rooms in
    let row : record { tributary = u; sent = out } ≡ receive_step x s r =
    h.row ∙ ap (λ (n : Mode). mode_step x n (Whole (m.Text t)) rooms) mode
    ∙ ap (λ (b : Bool). receive_step x s (text_step x.receiver spool t b rooms)) not_urgent in
    let stored : spool_at u.spools s ≡ r.spool =
    ap (λ (o : TributaryStep). spool_at o.tributary.spools s) row
    ∙ get_or-set_same x.spools s r.spool empty_spool there in
    let delays : r.spool.delays ≡ spool.delays = ap (λ (z : SpoolValue). z.delays) (sym stored)
    ∙ same in
    let reply : r.reply ≡ Some (ack (other x.receiver.alternation)) =
    taken_exact x.receiver spool t rooms.first rooms.after delays less in
    let parity_is : other x.receiver.alternation ≡ alternation = ap other counted
    ∙ other_of_other alternation in
    let said : out ≡ Some (m.Reply (ack alternation)) =
    ap (λ (o : TributaryStep). o.sent) row
    ∙ ap (λ (z : Option Reply). option_map m.Reply z) reply
    ∙ ap (λ (p : Alternation). Some (m.Reply (ack p))) parity_is in (
      said,
      subst (λ (o : TributaryStep). TerminalStays e (ToTerminal s) e x o.tributary) (sym row)
          (receives_stays e x s r),
    )

-- the call of another terminal's address
pub terminal_hears_other_call : (e : ℕ) (way : Way) (t : ℕ) (x u : TributaryValue) (out : Option Message)
    (a : List ℕ) → IsAtRest x.sender.phase → called_as x.terminal a ≡ Other
    → Hears x (Whole (m.Call a)) u out → (out ≡ None) × TerminalStays e way t x u
terminal_hears_other_call e way t x u out a rest is h =
    let row : record { tributary = u; sent = out } ≡ quiet_step (without_line x) = h.row
    ∙ ap (λ (k : Called). call_step x k (rooms_after (Whole (m.Call a)) u)) is in (
      ap (λ (o : TributaryStep). o.sent) row,
      subst (λ (o : TributaryStep). TerminalStays e way t x o.tributary) (sym row)
          (record {
            ready = refl;
            urgent = λ k. k;
            down = λ s k. refl;
            queue = λ k. refl;
            phase =
                λ k. cut_at_rest x.sender.phase rest;
          }),
    )

-- the call of the terminal's selection address s
selected_exact : (e : ℕ) (x u : TributaryValue) (out : Option Message) (s : ℕ) (room : Bool) → s
    < length x.spools → IsTrue x.ready → IsAtRest x.sender.phase →
    (spool_at u.spools s).delays ≡ (spool_at x.spools s).delays → (spool_at x.spools s).delays
    < 2 ^ 64 - 1 → record { tributary = u; sent = out } ≡ selection_step x s room
    → (out ≡ Some (m.Reply Ack0)) × TerminalStays e (ToTerminal s) e x u
selected_exact e x u out s room there ready rest same less row = by_room room exact
  where
    selected : Bool → TributaryStep
    selected b =
        record {
          tributary =
              record (without_line x) {
                mode = Receiving s;
                receiver = new_receiver b;
                spools =
                    slice_set x.spools s (room_asked (spool_at x.spools s) b);
              };
          sent =
              Some (m.Reply (first_reply b));
        }

    refused : TributaryStep
    refused = record { tributary = without_line x; sent = Some (m.Reply Nak) }

    exact : record { tributary = u; sent = out } ≡ selected room
    exact = row ∙ ap (λ (b : Bool). if b then selected room else refused) ready

    spool_is : (b : Bool) → record { tributary = u; sent = out } ≡ selected b → spool_at u.spools s
        ≡ room_asked (spool_at x.spools s) b
    spool_is b is = ap (λ (o : TributaryStep). spool_at o.tributary.spools s) is
        ∙ get_or-set_same x.spools s (room_asked (spool_at x.spools s) b) empty_spool there

    by_room : (b : Bool) → record { tributary = u; sent = out } ≡ selected b → (out ≡ Some (m.Reply Ack0))
        × TerminalStays e (ToTerminal s) e x u
    by_room true is = (
      ap (λ (o : TributaryStep). o.sent) is,
      subst (λ (o : TributaryStep). TerminalStays e (ToTerminal s) e x o.tributary) (sym is)
          (record {
            ready = refl;
            urgent = λ k. k;
            down = λ k k_else.
                let differ : k ≢ s =
                λ same_number. k_else refl (ap (λ (n : ℕ). ToTerminal n) same_number) in
                ap (λ (z : SpoolValue). z.records)
                (get_or-set_other x.spools s k (room_asked (spool_at x.spools s) true)
                empty_spool differ);
            queue = λ k. refl;
            phase = λ k. cut_at_rest x.sender.phase rest;
          }),
    )
    by_room false is =
        let counted : with_delay (spool_at x.spools s).delays ≡ (spool_at x.spools s).delays =
        ap (λ (z : SpoolValue). z.delays) (sym (spool_is false is)) ∙ same in
        absurd (omega (arith, counted))

pub hears_selection : (e : ℕ) (x u : TributaryValue) (out : Option Message) (s : ℕ) (a : List ℕ) → s
    < length x.spools → IsTrue x.ready → IsAtRest x.sender.phase → called_as x.terminal a
    ≡ Selection s →
    (spool_at u.spools s).delays ≡ (spool_at x.spools s).delays → (spool_at x.spools s).delays
    < 2 ^ 64 - 1 → Hears x (Whole (m.Call a)) u out → (out ≡ Some (m.Reply Ack0))
    × TerminalStays e (ToTerminal s) e x u
hears_selection e x u out s a there ready rest is same less h =
    selected_exact e x u out s (rooms_after (Whole (m.Call a)) u).first there ready rest same less
    (h.row ∙ ap (λ (k : Called). call_step x k (rooms_after (Whole (m.Call a)) u)) is)
