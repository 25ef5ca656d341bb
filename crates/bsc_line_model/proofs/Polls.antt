-- A poll in which all is heard: after the call, two transmissions for each block, and EOT, all
-- records that waited are delivered and known, and the first call of the next entry is pending.
use Rattle.std.proofs.Common.{◌≡◌, ◌≢◌, ◌⊎◌, inl, inr, ℕ, zero, suc, ◌+◌, ◌*◌, ◌^◌, ◌-◌, ◌<◌}
use Rattle.std.proofs.Common.{false, true, List, length, Option, None, Some, Result, refl}
use Rattle.std.proofs.Common.{sym, ◌∙◌, ap, subst, arith}
use Rattle.bsc_frame.specs.declared.message.Message.{Message}
use Rattle.bsc_frame.specs.declared.message.Message.TheVariants as msg
use Rattle.bsc_frame.specs.declared.message.Heard.TheVariants.{Whole}
use Rattle.bsc_frame.specs.Texts.{TextValue}
use Rattle.bsc_bid.specs.declared.alternation.Alternation.{Alternation}
use Rattle.bsc_bid.specs.declared.phase.SentBlock.{SentBlock}
use Rattle.bsc_bid.specs.declared.phase.Phase.{Phase}
use Rattle.bsc_bid.specs.declared.phase.Phase.TheVariants.{Unanswered}
use Rattle.bsc_bid.specs.Ready.{IsAtRest, IsReady}
use Rattle.bsc_bid.specs.Answer.{ack, other}
use Rattle.bsc_bid.specs.Sender.{text_of, is_in_doubt}
use Rattle.bsc_bid.specs.Agreement.{Flight, Outward, Agree}
use Rattle.bsc_bid.specs.Terminal.{TerminalValue}
use Rattle.bsc_tributary.specs.declared.called.Called.TheVariants.{Polling}
use Rattle.bsc_tributary.specs.declared.mode.Mode.{Mode}
use Rattle.bsc_tributary.specs.Called.{called_as}
use Rattle.bsc_tributary.specs.Tributary.{TributaryValue}
use Rattle.bsc_control.specs.declared.task.Replied.{Replied}
use Rattle.bsc_control.specs.declared.task.Replied.TheVariants.{Nothing}
use Rattle.bsc_control.specs.declared.task.Task.{Task}
use Rattle.bsc_control.specs.declared.task.Task.TheVariants as k
use Rattle.bsc_bid.specs.declared.way.Way.TheVariants.{FromTerminal}
use Rattle.bsc_bid.specs.Addresses.{IsAddressOf}
use Rattle.bsc_control.specs.Peer.{PeerValue}
use Rattle.bsc_control.specs.Control.{ControlValue, peer_at, peer, current, terminals}
use Rattle.bsc_control.specs.CallOrder.{way_from, place_after, polled_place}
use Rattle.bsc_bid.specs.declared.speaker.Speaker.TheVariants as sp
use Rattle.bsc_line_model.specs.declared.transmission.Transmission.{Transmission}
use Rattle.bsc_line_model.specs.declared.error.Stopped.{Stopped}
use Rattle.bsc_line_model.specs.Transmission.{sent_by}
use Rattle.bsc_line_model.specs.Line.{LineValue, terminal_in, terminal_at}
use Rattle.bsc_line_model.specs.Carries.{IsCarriedUp, IsCarriedDown}
use Rattle.bsc_line_model.specs.Kept.{IsTuned, AreTuned}
use Rattle.bsc_line_model.specs.Terminals.{answer_of}
use Rattle.bsc_line_model.specs.Together.{HasNoBid, InTask, IsPolling, IsPolledWith, IsInBidUp}
use Rattle.bsc_line_model.specs.Together.{FliesUp}
use Rattle.bsc_line_model.specs.Rounds.{block_count, SameDelays}
use Rattle.bsc_control.proofs.Calls.{current_within_peers}
use Rattle.bsc_control.proofs.Passing.{polled_place_alike}
use Rattle.bsc_line_model.proofs.Stations.{same_or_not, terminal_in_directory, at_rest_in}
use Rattle.bsc_line_model.proofs.Stations.{current_terminal_there}
use Rattle.bsc_line_model.proofs.SendingDown.{others_in_control, first_answer_is}
use Rattle.bsc_line_model.proofs.Staying.{Stays, ControlStays, TerminalStays, control_same}
use Rattle.bsc_line_model.proofs.Staying.{terminals_same, stays_then}
use Rattle.bsc_line_model.proofs.DownControl.{HasCalled}
use Rattle.bsc_line_model.proofs.DownTerminals.{terminal_hears_other_call}
use Rattle.bsc_line_model.proofs.DownSteps.{Answers, answers_nothing}
use Rattle.bsc_line_model.proofs.DownSteps.{call_names_no_other_terminal}
use Rattle.bsc_line_model.proofs.UpTerminals.{IsInBlockUp, SendsUp, EndsUp, GoesOnUp, ack_no_call}
use Rattle.bsc_line_model.proofs.UpTerminals.{hears_ack, hears_poll}
use Rattle.bsc_line_model.proofs.UpControl.{IsPolled, CallsNext, takes_up, next_polled_place}
use Rattle.bsc_line_model.proofs.UpControl.{polled_out}
use Rattle.bsc_line_model.proofs.Walking.{IsGood, good_places, Walks, Stepped, one_step}
use Rattle.bsc_line_model.proofs.Selections.{VisitLaws, Comes, Calls, known_queue}
use Rattle.bsc_line_model.proofs.Selections.{current_of_same_place}
use Rattle.bsc_bid.proofs.Answering.{no_reply}

-- the poll of terminal e is in progress, with n blocks to send, and the terminal's message is
-- pending
pub record IsInPoll (l : LineValue) (e place n : ℕ) : Type 0 where
  pub out : Option Message
  pub pending : l.pending ≡ sent_by (sp.Terminal e) out
  pub goes_on : GoesOnUp (terminal_at l e) out n
  pub polled : IsPolled l.control place

-- the others are silent while terminal e acts
others_quiet_while_one_acts : (e : ℕ) (v : Message) (old new : LineValue) (place n : ℕ) → e < length old.terminals
    → IsCarriedDown v (λ t. Whole v) old new → IsPolled old.control place →
    ((t : ℕ) → t < length old.terminals → t ≢ e
    → Answers e FromTerminal t (terminal_at old t) (terminal_at new t)
    (answer_of old.terminals (λ z. Whole v) new.terminals t) None) →
    GoesOnUp (terminal_at new e) (answer_of old.terminals (λ z. Whole v) new.terminals e) n
    × TerminalStays e FromTerminal e (terminal_at old e) (terminal_at new e)
    → IsInPoll new e place n × Stays e FromTerminal old new
others_quiet_while_one_acts e v old new place n there h polled others this = (
  record {
    out = answer_of old.terminals (λ z. Whole v) new.terminals e;
    pending =
        h.pending ∙ first_answer_is old.terminals (λ z. Whole v) new.terminals e
        (length old.terminals)
        there (λ t less differ. (others t less differ).says);
    goes_on = this.0;
    polled = subst (λ (c : ControlValue). IsPolled c place) (sym h.control) polled;
  },
  record {
    control = control_same e FromTerminal old.control new.control h.control;
    terminals = record {
      count = h.terminals.count;
      terminals = λ t less.
          elim (same_or_not t e) [
            | inl same ↦ subst (λ (n : ℕ). TerminalStays e FromTerminal n (terminal_at old n)
                (terminal_at new n)) (sym same) this.1
            | inr differ ↦ (others t less differ).stays
          ];
    };
  },
)

-- while a polling address is called, no terminal sends
pub no_bids_at_poll : (l : LineValue) (a : List ℕ) (replied : Replied) → IsGood l → l.control.task
    ≡ k.Polling replied → l.pending ≡ Some (record { speaker = sp.Control; message = msg.Call a })
    → (t : ℕ) → t < length l.terminals → HasNoBid (peer_at l.control t) (terminal_at l t)
no_bids_at_poll l a replied g task is t less =
    elim (same_or_not t (current l.control)) [
      | inl same ↦ subst (λ (n : ℕ). HasNoBid (peer_at l.control n) (terminal_at l n)) (sym same)
          (here polling.present)
      | inr differ ↦ polling.others t less differ
    ]
  where
    polling : IsPolling l.pending l.control l.terminals replied
    polling = subst (λ (z : Task). InTask z l.pending l.control l.terminals) task g.together

    here : ((HasNoBid (peer l.control) (terminal_in l.terminals (current l.control))
        × IsPolledWith l.pending replied (peer l.control) (current l.control) l.terminals)
        ⊎ IsInBidUp l.pending (peer l.control) (current l.control)
        (terminal_in l.terminals (current l.control)))
        → HasNoBid (peer l.control) (terminal_at l (current l.control))
    here (inl q) = q.0
    here (inr b) =
        (let flies : FliesUp (Some (record { speaker = sp.Control; message = msg.Call a }))
        (current l.control) b.flight =
        subst (λ (o : Option Transmission). FliesUp o (current l.control) b.flight) is
        b.flies in
        absurd (no_reply (msg.Call a) flies.0 refl flies.1))

-- the polling address is called: the first block, or EOT
poll_call_is_answered : (laws : VisitLaws) (l new : LineValue) (n : ℕ) → IsGood l → l.control.task
    ≡ k.Polling Nothing → (peer l.control).polled ≡ true
    → is_in_doubt (terminal_at l (current l.control)).sender.phase ≡ false
    → block_count (terminal_at l (current l.control)).queue ≡ n →
    let a : List ℕ = (peer l.control).terminal.poll in
    (l.pending ≡ Some (record { speaker = sp.Control; message = msg.Call a })
    → IsCarriedDown (msg.Call a) (λ z. Whole (msg.Call a)) l new
    → IsInPoll new (current l.control) l.control.place n
    × Stays (current l.control) FromTerminal l new)
poll_call_is_answered laws l new n g task polled sure count is h =
    let c : ControlValue = l.control in
    let e : ℕ = current c in
    let x : TributaryValue = terminal_at l e in
    let a : List ℕ = (peer c).terminal.poll in
    let there : e < length l.terminals =
    current_terminal_there l.control l.terminals g.line.stations in
    let own : a ≡ x.terminal.poll =
    ap (λ (z : TerminalValue). z.poll) (sym (g.line.stations.members e there).addresses) in
    let its : IsAddressOf (terminals c) e FromTerminal a =
    record {
      terminal = x.terminal;
      there =
          terminal_in_directory c l.terminals e g.line.stations there;
      its_own =
          ap (λ (z : List ℕ). Some z) (sym own);
    } in
    let rests : (t : ℕ) → t < length l.terminals → IsAtRest (terminal_at l t).sender.phase =
    λ t less. at_rest_in (terminal_at l t).mode (terminal_at l t).sender.phase
    (length (terminal_at l t).spools) (no_bids_at_poll l a Nothing g task is t less).mode
    (g.line.stations.members t less).tributary.bid in
    let named : called_as x.terminal a ≡ Polling = (laws.names.polling x.terminal a).1 own in
    others_quiet_while_one_acts e (msg.Call a) l new c.place n there h
    (record {
      place_is = refl;
      polled = polled;
      replied = Nothing;
      task = task;
      uninterrupted = refl;
    })
    (λ t less differ.
    let quiet : (answer_of l.terminals (λ y. Whole (msg.Call a)) new.terminals t ≡ None)
    × TerminalStays e FromTerminal t (terminal_at l t) (terminal_at new t) =
    terminal_hears_other_call e FromTerminal t (terminal_at l t) (terminal_at new t)
    (answer_of l.terminals (λ y. Whole (msg.Call a)) new.terminals t) a (rests t less)
    (call_names_no_other_terminal laws.names l new e FromTerminal a t g h its less differ)
    (h.terminals.each t less) in
    record { says = quiet.0; stays = quiet.1 })
    (hears_poll laws.cuts e x (terminal_at new e)
    (answer_of l.terminals (λ z. Whole (msg.Call a)) new.terminals e) n a
    (g.line.stations.members e there).tributary.ready.queue (rests e there) sure named count
    (h.terminals.each e there))

-- the records of the pending text have not arrived yet
not_landed_up : (pending : Option Transmission) (p : PeerValue) (e : ℕ) (x : TributaryValue)
    (b : SentBlock) (t : TextValue) → pending
    ≡ Some (record { speaker = sp.Terminal e; message = msg.Text t }) → x.sender.phase
    ≡ Unanswered b → IsInBidUp pending p e x → p.receiver.alternation ≡ other b.alternation
not_landed_up pending p e x b t is phase h =
    let flies : FliesUp (Some (record { speaker = sp.Terminal e; message = msg.Text t })) e
    h.flight = subst (λ (o : Option Transmission). FliesUp o e h.flight) is h.flies in
    let agree : Agree (Unanswered b) x.queue p.receiver.alternation p.receiver.last p.spool.records
    (Outward (msg.Text t)) =
    subst (λ (f : Flight). Agree (Unanswered b) x.queue p.receiver.alternation p.receiver.last
    p.spool.records f) flies.1
    (subst (λ (z : Phase). Agree z x.queue p.receiver.alternation p.receiver.last p.spool.records
    h.flight) phase h.bid.agree) in
    elim agree [
      | inl n ↦ n.counted
      | inr n ↦ absurd n.flight
    ]

-- a text from the terminal is acknowledged
record TakenUp (l new : LineValue) (place : ℕ) (alternation : Alternation) : Type 0 where
  pending : new.pending
      ≡ Some (record { speaker = sp.Control; message = msg.Reply (ack alternation) })
  polled : IsPolled new.control place
  terminals : new.terminals ≡ l.terminals
  stays : ControlStays (current l.control) FromTerminal l.control new.control

text_up_is_acknowledged : (l new : LineValue) (place n : ℕ) (b : SentBlock) → IsGood l → IsPolled l.control place
    → IsInBlockUp (terminal_at l (current l.control)) n b → (peer l.control).urgent ≡ false
    → SameDelays l new →
    let t : TextValue = text_of (terminal_at l (current l.control)).queue b in
    (l.pending ≡ Some (record { speaker = sp.Terminal (current l.control); message = msg.Text t })
    → IsCarriedUp (msg.Text t) (Whole (msg.Text t)) l new → TakenUp l new place b.alternation)
text_up_is_acknowledged l new place n b g polled i visit_ready delays is h =
    let c : ControlValue = l.control in
    let e : ℕ = current c in
    let x : TributaryValue = terminal_at l e in
    let t : TextValue = text_of x.queue b in
    let polling : IsPolling l.pending c l.terminals polled.replied =
    subst (λ (z : Task). InTask z l.pending c l.terminals) polled.task g.together in
    let counted : (peer c).receiver.alternation ≡ other b.alternation =
    elim polling.present [
      | inl q ↦ absurd (q.0.mode i.mode)
      | inr d ↦ not_landed_up l.pending (peer c) e x b t is i.phase d
    ] in
    let room : ((peer_at new.control e).spool.delays ≡ (peer c).spool.delays)
    × ((peer c).spool.delays < 2 ^ 64 - 1) =
    delays.control e (current_terminal_there l.control l.terminals g.line.stations) in
    let y : (h.sent ≡ Some (msg.Reply (ack b.alternation))) × IsPolled new.control place
    × ControlStays e FromTerminal c new.control =
    takes_up c new.control h.sent t b.alternation place (current_within_peers c (good_places l g))
    polled visit_ready counted
    room.0 room.1 h.control in
    record {
      pending = h.pending ∙ ap (λ (o : Option Message). sent_by sp.Control o) y.0;
      polled =
          y.1;
      terminals = h.terminals;
      stays = y.2;
    }

-- the terminal hears its acknowledgement: the next block, or EOT
next_block_after_ack_up : (laws : VisitLaws) (l new : LineValue) (place n : ℕ) (b : SentBlock) → IsGood l
    → IsPolled l.control place → IsInBlockUp (terminal_at l (current l.control)) n b →
    IsCarriedDown (msg.Reply (ack b.alternation)) (λ z. Whole (msg.Reply (ack b.alternation))) l
    new → IsInPoll new (current l.control) place n
    × Stays (current l.control) FromTerminal l new
next_block_after_ack_up laws l new place n b g polled i h =
    let c : ControlValue = l.control in
    let e : ℕ = current c in
    let x : TributaryValue = terminal_at l e in
    let w : Message = msg.Reply (ack b.alternation) in
    let there : e < length l.terminals =
    current_terminal_there l.control l.terminals g.line.stations in
    let tuned : AreTuned l.addressed l.terminals = g.line.tuned g.trusted in
    let addressed : l.addressed ≡ Some (e, FromTerminal) =
    subst (λ (z : Mode). IsTuned l.addressed e z) i.mode (tuned e there) in
    let ready : IsReady x.sender x.queue = (g.line.stations.members e there).tributary.ready in
    others_quiet_while_one_acts e w l new place n there h polled
    (λ z less differ.
    answers_nothing e FromTerminal z (terminal_at l z) (terminal_at new z)
    (answer_of l.terminals (λ y. Whole w) new.terminals z) (Whole w)
    (others_in_control l.addressed e z FromTerminal (terminal_at l z).mode addressed differ
    (tuned z less)) (ack_no_call b.alternation) (h.terminals.each z less))
    (hears_ack laws.cuts e x (terminal_at new e)
    (answer_of l.terminals (λ z. Whole w) new.terminals e) n b i
    (known_queue x.queue x.sender.phase b ready.queue i.phase ready.counts)
    (h.terminals.each e there))

-- the records on the channel from terminal e are delivered, all other channels are unchanged, and
-- the first call of the next entry that is polled, by the lists as they are, is pending
pub record IsPollDone (e place : ℕ) (old new : LineValue) : Type 0 where
  pub good : IsGood new
  pub calls : Calls new (polled_place old.control (place_after old.control.poll_list place))
      (way_from (peer new.control) 0)
  pub sure : is_in_doubt (terminal_at new e).sender.phase ≡ false
  pub delivered : block_count (terminal_at new e).queue ≡ 0
  pub stays : Stays e FromTerminal old new

-- EOT: the next entry
next_entry_after_eot : (l new : LineValue) (place : ℕ) (out : Option Message) → IsGood l → IsGood new
    → IsPolled l.control place → EndsUp (terminal_at l (current l.control)) out
    → IsCarriedUp msg.Eot (Whole msg.Eot) l new → IsPollDone (current l.control) place l new
next_entry_after_eot l new place out g good polled ends h =
    let c : ControlValue = l.control in
    let e : ℕ = current c in
    let y : CallsNext new.control h.sent (next_polled_place c)
    × ControlStays e FromTerminal c new.control =
    polled_out c new.control h.sent place (good_places l g) polled h.control in
    let after : EndsUp (terminal_at new e) out =
    subst (λ (ts : List TributaryValue). EndsUp (terminal_in ts e) out) (sym h.terminals)
    ends in
    record {
      good = good;
      calls = record {
        sent = h.sent;
        pending = h.pending;
        called =
            subst (λ (p : ℕ). HasCalled new.control h.sent p (way_from (peer new.control) 0))
            (ap (λ (p : ℕ). polled_place c (place_after c.poll_list p)) polled.place_is)
            y.0.called;
      };
      sure = after.idle;
      delivered = after.rest;
      stays =
          record {
            control = y.1;
            terminals =
                terminals_same e FromTerminal l.terminals new.terminals h.terminals;
          };
    }

-- what one exchange leaves
record IsPollOn (e place n : ℕ) (old new : LineValue) : Type 0 where
  good : IsGood new
  in_poll : IsInPoll new e place n
  stays : Stays e FromTerminal old new

exchange_of_one_block_up : (laws : VisitLaws) (at more : ℕ) (l new : LineValue) (r : Result (Unit {0}) Stopped)
    (place n : ℕ) → IsGood l → IsInPoll l (current l.control) place (suc n)
    → (peer l.control).urgent ≡ false → Walks at (suc (suc more)) l r new →
    Comes (IsPollOn (current l.control) place n l) more r new
exchange_of_one_block_up laws at more l new r place n g h visit_ready w =
    let c : ControlValue = l.control in
    let e : ℕ = current c in
    let sends : SendsUp (terminal_at l e) h.out n = h.goes_on in
    let b : SentBlock = sends.block in
    let t : TextValue = text_of (terminal_at l e).queue b in
    let is : l.pending ≡ Some (record { speaker = sp.Terminal e; message = msg.Text t }) = h.pending
    ∙ ap (λ (z : Option Message). sent_by (sp.Terminal e) z) sends.text in
    let one : Stepped (record { speaker = sp.Terminal e; message = msg.Text t }) l
    (λ mid. Walks (at + 1) (suc more) mid r new) =
    one_step at (suc more) (suc (suc more))
    (record { speaker = sp.Terminal e; message = msg.Text t }) l new r is refl w in
    let taken : TakenUp l one.mid place b.alternation =
    text_up_is_acknowledged l one.mid place n b g h.polled sends.in_block visit_ready one.delays is one.carried in
    let two : Stepped (record { speaker = sp.Control; message = msg.Reply (ack b.alternation) })
    one.mid (λ mid. Walks (at + 1 + 1) more mid r new) =
    one_step (at + 1) more (suc more) (record {
      speaker = sp.Control;
      message =
          msg.Reply (ack b.alternation);
    }) one.mid new r taken.pending refl one.rest in
    let cur : current one.mid.control ≡ e =
    current_of_same_place c one.mid.control taken.stays.poll_list
    (taken.polled.place_is ∙ sym h.polled.place_is) in
    let there : IsInBlockUp (terminal_in one.mid.terminals e) n b =
    subst (λ (ts : List TributaryValue). IsInBlockUp (terminal_in ts e) n b)
    (sym taken.terminals) sends.in_block in
    let here : IsInBlockUp (terminal_at one.mid (current one.mid.control)) n b =
    subst (λ (z : ℕ). IsInBlockUp (terminal_at one.mid z) n b) (sym cur) there in
    let y : IsInPoll two.mid e place n × Stays e FromTerminal one.mid two.mid =
    subst (λ (z : ℕ). IsInPoll two.mid z place n × Stays z FromTerminal one.mid two.mid) cur
    (next_block_after_ack_up laws one.mid two.mid place n b one.good taken.polled here two.carried) in
    let first : Stays e FromTerminal l one.mid =
    record {
      control = taken.stays;
      terminals =
          terminals_same e FromTerminal l.terminals one.mid.terminals taken.terminals;
    } in
    record {
      at = at + 1 + 1;
      line = two.mid;
      holds =
          record {
            good = two.good;
            in_poll = y.0;
            stays =
                stays_then e FromTerminal l one.mid two.mid first y.1;
          };
      rest = two.rest;
    }

exchange_up_at : (laws : VisitLaws) (at more e : ℕ) (l new : LineValue)
    (r : Result (Unit {0}) Stopped) (place n : ℕ) → IsGood l → current l.control ≡ e
    → IsInPoll l e place (suc n) → (peer_at l.control e).urgent ≡ false
    → Walks at (suc (suc more)) l r new →
    Comes (IsPollOn e place n l) more r new
exchange_up_at laws at more e l new r place n g here h visit_ready w =
    subst (λ (z : ℕ). Comes (IsPollOn z place n l) more r new) here
    (exchange_of_one_block_up laws at more l new r place n g
    (subst (λ (z : ℕ). IsInPoll l z place (suc n)) (sym here) h)
    (subst (λ (z : ℕ). (peer_at l.control z).urgent ≡ false) (sym here) visit_ready) w)

-- a channel that moved before, too
poll_since : (e place : ℕ) (a b c : LineValue) → Stays e FromTerminal a b → IsPollDone e place b c
    → IsPollDone e place a c
poll_since e place a b c x y =
    record {
      good = y.good;
      calls =
          subst (λ (p : ℕ). Calls c p (way_from (peer c.control) 0))
          (ap (λ (list : List ℕ). polled_place b.control (place_after list place))
          x.control.poll_list
          ∙ polled_place_alike a.control b.control x.control.poll_list
          (λ t. (x.control.peers t).polled) (place_after a.control.poll_list place)) y.calls;
      sure = y.sure;
      delivered = y.delivered;
      stays = stays_then e FromTerminal a b c x y.stays;
    }

-- n blocks, two transmissions for each, and EOT
pub poll_delivers_all_blocks : (laws : VisitLaws) (n at more count e place : ℕ) (l new : LineValue)
    (r : Result (Unit {0}) Stopped) → IsGood l → current l.control ≡ e → IsInPoll l e place n
    → (peer_at l.control e).urgent ≡ false → count ≡ 2 * n + 1 + more → Walks at count l r new →
    Comes (IsPollDone e place l) more r new
poll_delivers_all_blocks laws zero at more count e place l new r g here h visit_ready number w =
    let left : count ≡ suc more = omega (arith, number) in
    let ends : EndsUp (terminal_at l e) h.out = h.goes_on in
    let is : l.pending ≡ Some (record { speaker = sp.Terminal e; message = msg.Eot }) = h.pending
    ∙ ap (λ (z : Option Message). sent_by (sp.Terminal e) z) ends.eot in
    let one : Stepped (record { speaker = sp.Terminal e; message = msg.Eot }) l
    (λ mid. Walks (at + 1) more mid r new) =
    one_step at more count (record { speaker = sp.Terminal e; message = msg.Eot }) l new r is
    left w in
    let done : IsPollDone (current l.control) place l one.mid =
    next_entry_after_eot l one.mid place h.out g one.good h.polled
    (subst (λ (z : ℕ). EndsUp (terminal_at l z) h.out) (sym here) ends) one.carried in
    record {
      at = at + 1;
      line = one.mid;
      holds =
          subst (λ (z : ℕ). IsPollDone z place l one.mid) here done;
      rest = one.rest;
    }
poll_delivers_all_blocks laws (suc n) at more count e place l new r g here h visit_ready number w =
    let left : count ≡ suc (suc (2 * n + 1 + more)) = omega (arith, number) in
    let x : Comes (IsPollOn e place n l) (2 * n + 1 + more) r new =
    exchange_up_at laws at (2 * n + 1 + more) e l new r place n g here h visit_ready
    (subst (λ (j : ℕ). Walks at j l r new) left w) in
    let y : IsPollOn e place n l x.line = x.holds in
    let cur : current x.line.control ≡ e =
    current_of_same_place l.control x.line.control y.stays.control.poll_list
    (y.in_poll.polled.place_is ∙ sym h.polled.place_is) ∙ here in
    let z : Comes (IsPollDone e place x.line) more r new =
    poll_delivers_all_blocks laws n x.at more (2 * n + 1 + more) e place x.line new r y.good cur y.in_poll
    ((y.stays.control.peers e).urgent visit_ready) refl x.rest in
    record {
      at = z.at;
      line = z.line;
      holds = poll_since e place l x.line z.line y.stays z.holds;
      rest = z.rest;
    }

-- a poll with n blocks
pub poll_delivers_blocks : (laws : VisitLaws) (n at more count : ℕ) (l new : LineValue)
    (r : Result (Unit {0}) Stopped) → IsGood l → Calls l l.control.place FromTerminal
    → is_in_doubt (terminal_at l (current l.control)).sender.phase ≡ false → (peer l.control).urgent
    ≡ false →
    block_count (terminal_at l (current l.control)).queue ≡ n → count ≡ 2 + 2 * n + more
    → Walks at count l r new
    → Comes (IsPollDone (current l.control) l.control.place l) more r new
poll_delivers_blocks laws n at more count l new r g h sure visit_ready number is w =
    let c : ControlValue = l.control in
    let e : ℕ = current c in
    let a : List ℕ = (peer c).terminal.poll in
    let left : count ≡ suc (2 * n + 1 + more) = omega (arith, is) in
    let calls : l.pending ≡ Some (record { speaker = sp.Control; message = msg.Call a }) = h.pending
    ∙ ap (λ (z : Option Message). sent_by sp.Control z) h.called.call in
    let one : Stepped (record { speaker = sp.Control; message = msg.Call a }) l
    (λ mid. Walks (at + 1) (2 * n + 1 + more) mid r new) =
    one_step at (2 * n + 1 + more) count (record { speaker = sp.Control; message = msg.Call a }) l
    new r calls left w in
    let y : IsInPoll one.mid e c.place n × Stays e FromTerminal l one.mid =
    poll_call_is_answered laws l one.mid n g h.called.task h.called.polled sure number calls
    one.carried in
    let cur : current one.mid.control ≡ e =
    current_of_same_place c one.mid.control y.1.control.poll_list y.0.polled.place_is in
    let z : Comes (IsPollDone e c.place one.mid) more r new =
    poll_delivers_all_blocks laws n (at + 1) more (2 * n + 1 + more) e c.place one.mid new r one.good cur y.0
    ((y.1.control.peers e).urgent visit_ready) refl one.rest in
    record {
      at = z.at;
      line = z.line;
      holds = poll_since e c.place l one.mid z.line y.1 z.holds;
      rest = z.rest;
    }
