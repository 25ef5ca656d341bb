-- A selection in which all is heard: after the call, its answer, and two transmissions for each
-- block, all records that waited are delivered and known, and the next call is pending.
use Rattle.std.proofs.Common.{◌≡◌, ℕ, zero, suc, ◌+◌, ◌*◌, ◌≤◌, ◌<◌, false, IsTrue, List, length}
use Rattle.std.proofs.Common.{Option, Some, Result, refl, sym, ◌∙◌, ap, subst, arith}
use Rattle.std.proofs.lemmas.List.{length-drop}
use Rattle.std.proofs.lemmas.List.Elements.{All-get_or}
use Rattle.bsc_frame.specs.declared.message.Message.{Message}
use Rattle.bsc_frame.specs.declared.message.Message.TheVariants as msg
use Rattle.bsc_frame.specs.declared.reply.Reply.TheVariants.{Ack0}
use Rattle.bsc_frame.specs.declared.message.Heard.TheVariants.{Whole}
use Rattle.bsc_frame.specs.declared.text.End.{End}
use Rattle.bsc_frame.specs.declared.text.End.TheVariants.{Etb, Etx}
use Rattle.bsc_frame.specs.Texts.{TextValue}
use Rattle.bsc_spool.specs.Queue.{QueueValue, IsQueue, with_known, waiting}
use Rattle.bsc_bid.specs.declared.phase.SentBlock.{SentBlock}
use Rattle.bsc_bid.specs.declared.phase.Phase.{Phase}
use Rattle.bsc_bid.specs.declared.phase.Phase.TheVariants.{Idle, Unanswered}
use Rattle.bsc_bid.specs.Ready.{AreWaiting, CountsOn}
use Rattle.bsc_bid.specs.Answer.{ack}
use Rattle.bsc_bid.specs.Sender.{text_of}
use Rattle.bsc_bid.specs.declared.way.Way.{Way}
use Rattle.bsc_bid.specs.declared.way.Way.TheVariants.{ToTerminal}
use Rattle.bsc_control.specs.Peer.{OutboundValue, IsPeer, IsOutbound, no_peer, no_outbound}
use Rattle.bsc_control.specs.Peer.{outbound_at}
use Rattle.bsc_control.specs.Control.{ControlValue, peer, current}
use Rattle.bsc_control.specs.CallOrder.{way_from}
use Rattle.bsc_control.specs.Table.{Hears, select_address}
use Rattle.bsc_bid.specs.declared.speaker.Speaker.TheVariants as sp
use Rattle.bsc_line_model.specs.declared.error.Stopped.{Stopped}
use Rattle.bsc_line_model.specs.Transmission.{sent_by}
use Rattle.bsc_line_model.specs.Line.{LineValue, terminal_at, terminal_in}
use Rattle.bsc_line_model.specs.declared.transmission.Transmission.{Transmission}
use Rattle.bsc_line_model.specs.Together.{IsSelecting, IsSending, InTask}
use Rattle.bsc_line_model.proofs.UnheardBids.{bid_of_answering_terminal}
use Rattle.bsc_tributary.specs.declared.mode.Mode.TheVariants.{Receiving}
use Rattle.bsc_tributary.specs.Tributary.{TributaryValue}
use Rattle.bsc_control.specs.declared.task.Task.{Task}
use Rattle.bsc_control.specs.declared.task.Task.TheVariants.{Selecting, Sending}
use Rattle.bsc_line_model.specs.Carries.{IsCarriedUp}
use Rattle.bsc_line_model.specs.Rounds.{block_count}
use Rattle.bsc_control.proofs.Calls.{current_within_peers}
use Rattle.bsc_line_model.proofs.Stations.{current_terminal_there}
use Rattle.bsc_line_model.proofs.Tuning.{NamesOwn}
use Rattle.bsc_line_model.proofs.BlockCounts.{CutLaws}
use Rattle.bsc_line_model.proofs.Staying.{Stays, ControlStays, terminals_same, terminals_then}
use Rattle.bsc_line_model.proofs.Staying.{stays_then}
use Rattle.bsc_line_model.proofs.DownControl.{HasCalled, SendsDown, EndsDown, GoesOnDown}
use Rattle.bsc_line_model.proofs.DownControl.{begins_bid_down, block_known_after_ack}
use Rattle.bsc_line_model.proofs.DownSteps.{OneAnswers, TakesBlocks, text_down_is_acknowledged}
use Rattle.bsc_line_model.proofs.DownSteps.{selection_call_is_answered}
use Rattle.bsc_line_model.proofs.OutboundSteps.{selected_outbound_exists, sending_outbound_exists}
use Rattle.bsc_line_model.proofs.Walking.{IsGood, good_places, Walks, Stepped, one_step}

-- the laws on which a visit rests
pub record VisitLaws : Type 0 where
  pub cuts : CutLaws
  pub names : NamesOwn

-- the walk has reached a line of which P holds, with n transmissions left
pub record Comes (P : LineValue → Type 0) (n : ℕ) (r : Result (Unit {0}) Stopped)
    (new : LineValue) : Type 0 where
  pub at : ℕ
  pub line : LineValue
  pub holds : P line
  pub rest : Walks at n line r new

-- this call is pending
pub record Calls (l : LineValue) (place : ℕ) (way : Way) : Type 0 where
  pub sent : Option Message
  pub pending : l.pending ≡ sent_by sp.Control sent
  pub called : HasCalled l.control sent place way

-- the records on the channel to selection address s of terminal e are delivered, all other channels
-- are unchanged, and the next call of the entry is pending
pub record IsSelectionDone (e place s : ℕ) (old new : LineValue) : Type 0 where
  pub good : IsGood new
  pub calls : Calls new place (way_from (peer new.control) (s + 1))
  pub idle : (outbound_at (peer new.control) s).sender.phase ≡ Idle
  pub delivered : block_count (outbound_at (peer new.control) s).queue ≡ 0
  pub stays : Stays e (ToTerminal s) old new

-- the queue once a block is known
known_block_within_queue : (b : SentBlock) (n k : ℕ) (end : End) → AreWaiting k end n → k ≤ n
known_block_within_queue b n k Etb h = omega (arith, h)
known_block_within_queue b n k Etx h = h

pub known_queue : (q : QueueValue) (phase : Phase) (b : SentBlock) → IsQueue q → phase
    ≡ Unanswered b → CountsOn phase (length (waiting q)) → IsQueue (with_known q b.count)
known_queue q phase b is e counts =
    let on : AreWaiting b.count b.end (length (waiting q)) =
    subst (λ (z : Phase). CountsOn z (length (waiting q))) e counts in
    let within : b.count ≤ length (waiting q) = known_block_within_queue b (length (waiting q)) b.count b.end on in
    record {
      format = is.format;
      known =
          omega (arith, within, is.known, length-drop q.known q.offered);
      short = is.short;
    }

-- the queue of a selection address has the records that its sender counts on
outbound_ready : (l : LineValue) (s : ℕ) → IsGood l → s < length (peer l.control).outbounds
    → IsOutbound (outbound_at (peer l.control) s)
outbound_ready l s g select =
    let is : IsPeer (peer l.control) =
    All-get_or IsPeer l.control.peers (current l.control) no_peer
    (current_within_peers l.control (good_places l g))
    g.line.stations.control.entries.peers in
    All-get_or IsOutbound (peer l.control).outbounds s no_outbound select is.ready

pub current_of_same_place : (c d : ControlValue) → d.poll_list ≡ c.poll_list → d.place ≡ c.place → current d
    ≡ current c
current_of_same_place c d list place = ap (λ (ps : List ℕ). current (record d { poll_list = ps })) list
    ∙ ap (λ (n : ℕ). current (record c { place = n })) place

-- what one exchange leaves: the terminal took a block, and the control station learnt of it
pub record Exchanged (e place s n : ℕ) (old new : LineValue) : Type 0 where
  pub good : IsGood new
  pub sent : Option Message
  pub pending : new.pending ≡ sent_by sp.Control sent
  pub goes_on : GoesOnDown new.control sent place s n
  pub mode : (terminal_at new e).mode ≡ Receiving s
  pub stays : Stays e (ToTerminal s) old new

-- a text of a bid to a selection address is pending
pub record SendsBlocks (l : LineValue) (place s n : ℕ) : Type 0 where
  pub sent : Option Message
  pub pending : l.pending ≡ sent_by sp.Control sent
  pub sends : SendsDown l.control sent place s n

-- how the stations fit together, by the task and what is pending
together_as : (c : ControlValue) (l : LineValue) (task : Task) (pending : Option Transmission)
    → IsGood l → l.control ≡ c → c.task ≡ task → l.pending ≡ pending
    → InTask task pending c l.terminals
together_as c l task pending g same is waits =
    subst (λ (o : Option Transmission). InTask task o c l.terminals) waits
    (subst (λ (z : Task). InTask z l.pending c l.terminals) is
    (subst (λ (d : ControlValue). InTask d.task l.pending d l.terminals) same g.together))

-- a terminal whose answer is pending receives: in a bid, and after it was selected
receives_while_answering : (c : ControlValue) (l : LineValue) (s from : ℕ) (w : Message)
    → IsGood l → l.control ≡ c → c.task ≡ Sending s
    → l.pending ≡ Some (record { speaker = sp.Terminal from; message = w })
    → (terminal_at l (current c)).mode ≡ Receiving s
receives_while_answering c l s from w g same task is =
    let sending : IsSending (Some (record { speaker = sp.Terminal from; message = w })) c
    l.terminals s =
    together_as c l (Sending s) _ g same task is in
    (bid_of_answering_terminal c l.terminals from w s sending).mode

receives_once_selected : (c : ControlValue) (l : LineValue) (s from : ℕ) → IsGood l
    → l.control ≡ c → c.task ≡ Selecting s false
    → l.pending ≡ Some (record { speaker = sp.Terminal from; message = msg.Reply Ack0 })
    → (terminal_at l (current c)).mode ≡ Receiving s
receives_once_selected c l s from g same task is =
    let selecting : IsSelecting
    (Some (record { speaker = sp.Terminal from; message = msg.Reply Ack0 })) c l.terminals s false =
    together_as c l (Selecting s false) _ g same task is in
    selecting.with_pending.1.0.mode

exchange_of_one_block : (laws : VisitLaws) (at m : ℕ) (l new : LineValue) (r : Result (Unit {0}) Stopped)
    (s n : ℕ) → IsGood l → SendsBlocks l l.control.place s n
    → TakesBlocks (terminal_at l (current l.control)) s → Walks at (suc (suc m)) l r new →
    Comes (Exchanged (current l.control) l.control.place s n l) m r new
exchange_of_one_block laws at m l new r s n g h visit_ready w =
    let c : ControlValue = l.control in
    let e : ℕ = current c in
    let b : SentBlock = h.sends.block in
    let o : OutboundValue = outbound_at (peer c) s in
    let t : TextValue = text_of o.queue b in
    let is : l.pending ≡ Some (record { speaker = sp.Control; message = msg.Text t }) = h.pending
    ∙ ap (λ (z : Option Message). sent_by sp.Control z) h.sends.text in
    let one : Stepped (record { speaker = sp.Control; message = msg.Text t }) l
    (λ mid. Walks (at + 1) (suc m) mid r new) =
    one_step at (suc m) (suc (suc m)) (record { speaker = sp.Control; message = msg.Text t }) l
    new r is refl w in
    let answered : OneAnswers e (ToTerminal s) (msg.Reply (ack b.alternation)) l one.mid =
    text_down_is_acknowledged l one.mid s n b g h.sends.in_block visit_ready one.delays is one.carried in
    let two : Stepped (record { speaker = sp.Terminal e; message = msg.Reply (ack b.alternation) })
    one.mid (λ mid. Walks (at + 1 + 1) m mid r new) =
    one_step (at + 1) m (suc m) (record {
      speaker = sp.Terminal e;
      message =
          msg.Reply (ack b.alternation);
    }) one.mid new r answered.pending refl one.rest in
    let up : IsCarriedUp (msg.Reply (ack b.alternation)) (Whole (msg.Reply (ack b.alternation)))
    one.mid two.mid = two.carried in
    let heard : Hears c (Whole (msg.Reply (ack b.alternation))) two.mid.control up.sent =
    subst (λ (d : ControlValue). Hears d (Whole (msg.Reply (ack b.alternation)))
    two.mid.control up.sent) answered.control up.control in
    let receives : (terminal_at one.mid e).mode ≡ Receiving s =
    receives_while_answering c one.mid s e (msg.Reply (ack b.alternation)) one.good answered.control
    h.sends.in_block.task answered.pending in
    let still_receives : (terminal_at two.mid e).mode ≡ Receiving s =
    subst (λ (ts : List TributaryValue). (terminal_in ts e).mode ≡ Receiving s) (sym up.terminals)
    receives in
    let select : s < length (peer c).outbounds =
    sending_outbound_exists c s g.line.stations.control h.sends.in_block.task in
    let ready : IsOutbound o = outbound_ready l s g select in
    let learnt : GoesOnDown two.mid.control up.sent c.place s n
    × ControlStays e (ToTerminal s) c two.mid.control =
    block_known_after_ack laws.cuts c two.mid.control up.sent s n b (good_places l g)
    select h.sends.polled h.sends.in_block
    (known_queue o.queue o.sender.phase b ready.queue h.sends.in_block.phase ready.counts)
    heard in
    record {
      at = at + 1 + 1;
      line = two.mid;
      holds = record {
        good = two.good;
        sent = up.sent;
        pending = up.pending;
        goes_on = learnt.0;
        mode = still_receives;
        stays =
            record {
              control = learnt.1;
              terminals =
                  terminals_then e (ToTerminal s) l.terminals one.mid.terminals two.mid.terminals
                  answered.terminals (terminals_same e (ToTerminal s) one.mid.terminals
                  two.mid.terminals up.terminals);
            };
      };
      rest = two.rest;
    }

exchange_of_block_at_entry : (laws : VisitLaws) (at m e place : ℕ) (l new : LineValue)
    (r : Result (Unit {0}) Stopped) (s n : ℕ) → IsGood l → current l.control ≡ e → l.control.place
    ≡ place → SendsBlocks l place s n → TakesBlocks (terminal_at l e) s
    → Walks at (suc (suc m)) l r new →
    Comes (Exchanged e place s n l) m r new
exchange_of_block_at_entry laws at m e place l new r s n g is here h visit_ready w =
    subst (λ (p : ℕ). Comes (Exchanged e p s n l) m r new) here
    (subst (λ (z : ℕ). Comes (Exchanged z l.control.place s n l) m r new) is
    (exchange_of_one_block laws at m l new r s n g (subst (λ (p : ℕ). SendsBlocks l p s n) (sym here) h)
    (subst (λ (z : ℕ). TakesBlocks (terminal_at l z) s) (sym is) visit_ready) w))

-- a channel that moved before, too
done_since : (e place s : ℕ) (a b c : LineValue) → Stays e (ToTerminal s) a b
    → IsSelectionDone e place s b c → IsSelectionDone e place s a c
done_since e place s a b c x y =
    record {
      good = y.good;
      calls = y.calls;
      idle = y.idle;
      delivered = y.delivered;
      stays =
          stays_then e (ToTerminal s) a b c x y.stays;
    }

-- n + 1 blocks, two transmissions for each
pub selection_delivers_all_blocks : (laws : VisitLaws) (n at m count e place : ℕ) (l new : LineValue)
    (r : Result (Unit {0}) Stopped) (s : ℕ) → IsGood l → current l.control ≡ e → l.control.place
    ≡ place → SendsBlocks l place s n → TakesBlocks (terminal_at l e) s → count ≡ 2 * (n + 1) + m
    → Walks at count l r new →
    Comes (IsSelectionDone e place s l) m r new
selection_delivers_all_blocks laws zero at m count e place l new r s g is here h visit_ready number w =
    let left : count ≡ suc (suc m) = omega (arith, number) in
    let x : Comes (Exchanged e place s 0 l) m r new =
    exchange_of_block_at_entry laws at m e place l new r s 0 g is here h visit_ready
    (subst (λ (j : ℕ). Walks at j l r new) left w) in
    let y : Exchanged e place s 0 l x.line = x.holds in
    let ends : EndsDown x.line.control y.sent place s = y.goes_on in
    record {
      at = x.at;
      line = x.line;
      holds = record {
        good = y.good;
        calls = record { sent = y.sent; pending = y.pending; called = ends.called };
        idle = ends.idle;
        delivered = ends.rest;
        stays = y.stays;
      };
      rest = x.rest;
    }
selection_delivers_all_blocks laws (suc n) at m count e place l new r s g is here h visit_ready number w =
    let left : count ≡ suc (suc (2 * (n + 1) + m)) = omega (arith, number) in
    let x : Comes (Exchanged e place s (suc n) l) (2 * (n + 1) + m) r new =
    exchange_of_block_at_entry laws at (2 * (n + 1) + m) e place l new r s (suc n) g is here h visit_ready
    (subst (λ (j : ℕ). Walks at j l r new) left w) in
    let y : Exchanged e place s (suc n) l x.line = x.holds in
    let sends : SendsDown x.line.control y.sent place s n = y.goes_on in
    let there : e < length l.terminals =
    subst (λ (z : ℕ). z < length l.terminals) is
    (current_terminal_there l.control l.terminals g.line.stations) in
    let z : Comes (IsSelectionDone e place s x.line) m r new =
    selection_delivers_all_blocks laws n x.at m (2 * (n + 1) + m) e place x.line new r s y.good
    (current_of_same_place l.control x.line.control y.stays.control.poll_list (sends.place_is ∙ sym here)
    ∙ is) sends.place_is
    (record { sent = y.sent; pending = y.pending; sends = sends })
    (record {
      mode = y.mode;
      not_urgent =
          (y.stays.terminals.terminals e there).urgent visit_ready.not_urgent;
    }) refl x.rest in
    record {
      at = z.at;
      line = z.line;
      holds = done_since e place s l x.line z.line y.stays z.holds;
      rest = z.rest;
    }

-- a selection with n + 1 blocks
pub selection_delivers_blocks : (laws : VisitLaws) (n at m count : ℕ) (l new : LineValue)
    (r : Result (Unit {0}) Stopped) (s : ℕ) → IsGood l → Calls l l.control.place (ToTerminal s)
    → IsTrue (terminal_at l (current l.control)).ready → (terminal_at l (current l.control)).urgent
    ≡ false →
    block_count (outbound_at (peer l.control) s).queue ≡ suc n → count ≡ 2 + 2 * suc n + m
    → Walks at count l r new
    → Comes (IsSelectionDone (current l.control) l.control.place s l) m r new
selection_delivers_blocks laws n at m count l new r s g h ready visit_ready number is w =
    let c : ControlValue = l.control in
    let e : ℕ = current c in
    let o : OutboundValue = outbound_at (peer c) s in
    let a : List ℕ = select_address (peer c).terminal s in
    let left : count ≡ suc (suc (2 * (n + 1) + m)) = omega (arith, is) in
    let calls : l.pending ≡ Some (record { speaker = sp.Control; message = msg.Call a }) = h.pending
    ∙ ap (λ (z : Option Message). sent_by sp.Control z) h.called.call in
    let select : s < length (peer c).outbounds =
    selected_outbound_exists c s false g.line.stations.control h.called.task in
    let one : Stepped (record { speaker = sp.Control; message = msg.Call a }) l
    (λ mid. Walks (at + 1) (suc (2 * (n + 1) + m)) mid r new) =
    one_step at (suc (2 * (n + 1) + m)) count
    (record { speaker = sp.Control; message = msg.Call a }) l new r calls left w in
    let answered : OneAnswers e (ToTerminal s) (msg.Reply Ack0) l one.mid =
    selection_call_is_answered laws.names l one.mid s g h.called.task select ready one.delays one.carried in
    let two : Stepped (record { speaker = sp.Terminal e; message = (msg.Reply Ack0) }) one.mid
    (λ mid. Walks (at + 1 + 1) (2 * (n + 1) + m) mid r new) =
    one_step (at + 1) (2 * (n + 1) + m) (suc (2 * (n + 1) + m))
    (record { speaker = sp.Terminal e; message = (msg.Reply Ack0) }) one.mid new r answered.pending refl
    one.rest in
    let up : IsCarriedUp (msg.Reply Ack0) (Whole (msg.Reply Ack0)) one.mid two.mid = two.carried in
    let heard : Hears c (Whole (msg.Reply Ack0)) two.mid.control up.sent =
    subst (λ (d : ControlValue). Hears d (Whole (msg.Reply Ack0)) two.mid.control up.sent)
    answered.control up.control in
    let begun : SendsDown two.mid.control up.sent c.place s n
    × ControlStays e (ToTerminal s) c two.mid.control =
    begins_bid_down laws.cuts c two.mid.control up.sent s n false
    (current_within_peers c (good_places l g)) select h.called.polled
    h.called.task (outbound_ready l s g select).queue number heard in
    let receives : (terminal_at two.mid e).mode ≡ Receiving s =
    subst (λ (ts : List TributaryValue). (terminal_in ts e).mode ≡ Receiving s) (sym up.terminals)
    (receives_once_selected c one.mid s e one.good answered.control h.called.task answered.pending)
    in
    let stays : Stays e (ToTerminal s) l two.mid =
    record {
      control = begun.1;
      terminals =
          terminals_then e (ToTerminal s) l.terminals one.mid.terminals two.mid.terminals
          answered.terminals (terminals_same e (ToTerminal s) one.mid.terminals two.mid.terminals
          up.terminals);
    } in
    let z : Comes (IsSelectionDone e c.place s two.mid) m r new =
    selection_delivers_all_blocks laws n (at + 1 + 1) m (2 * (n + 1) + m) e c.place two.mid new r s two.good
    (current_of_same_place c two.mid.control begun.1.poll_list begun.0.place_is) begun.0.place_is
    (record { sent = up.sent; pending = up.pending; sends = begun.0 })
    (record {
      mode = receives;
      not_urgent =
          (stays.terminals.terminals e
          (current_terminal_there l.control l.terminals g.line.stations)).urgent visit_ready;
    }) refl two.rest in
    record {
      at = z.at;
      line = z.line;
      holds =
          done_since e c.place s l two.mid z.line stays z.holds;
      rest = z.rest;
    }
