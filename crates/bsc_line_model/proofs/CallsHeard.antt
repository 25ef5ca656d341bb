-- All terminals hear the control station's call whole: the called one answers, and the others give
-- up the line.
use Rattle.std.proofs.Common.{◌≡◌, ◌≢◌, inl, inr, ◌↔◌, ℕ, ◌<◌, Bool, true, false, nat_eq, List}
use Rattle.std.proofs.Common.{length, Option, Some, slice_get, slice_set, refl, sym, ap, subst}
use Rattle.std.proofs.Common.{arith, get_or-set_other, get_or-set_same, if◌then◌else◌, ◌≤◌}
use Rattle.std.proofs.lemmas.Bool.{eqb-false}
use Rattle.std.proofs.lemmas.Option.{slice_get-get_or}
use Rattle.bsc_frame.specs.declared.message.Message.{Message}
use Rattle.bsc_frame.specs.declared.message.Message.TheVariants as m
use Rattle.bsc_frame.specs.declared.message.Heard.{Heard}
use Rattle.bsc_frame.specs.declared.message.Heard.TheVariants.{Whole}
use Rattle.bsc_spool.specs.Queue.{waiting}
use Rattle.bsc_spool.specs.Spool.{SpoolValue, room_asked}
use Rattle.bsc_bid.specs.Act as a
use Rattle.bsc_bid.specs.declared.phase.Phase.{Phase}
use Rattle.bsc_bid.specs.declared.phase.Phase.TheVariants.{Idle}
use Rattle.bsc_bid.specs.Ready.{IsAtRest, FitsAct}
use Rattle.bsc_bid.specs.Receiver.{ReceiverValue, new_receiver, first_reply}
use Rattle.bsc_bid.specs.declared.alternation.Alternation.TheVariants.{Even}
use Rattle.bsc_frame.specs.declared.reply.Reply.TheVariants.{Ack0, Nak}
use Rattle.bsc_bid.specs.Act.{Act}
use Rattle.bsc_bid.specs.Sender.{SenderStep, begin_step, cut_phase, is_in_doubt}
use Rattle.bsc_bid.specs.Terminal.{TerminalValue, HasDistinctAddresses}
use Rattle.bsc_bid.specs.Agreement.{IsResting, Continues, sent_flight}
use Rattle.bsc_bid.specs.EachStep.{SenderAgrees}
use Rattle.bsc_tributary.specs.declared.called.Called.{Called}
use Rattle.bsc_tributary.specs.declared.called.Called.TheVariants.{Polling as PollingCalled}
use Rattle.bsc_tributary.specs.declared.called.Called.TheVariants.{Selection, Other}
use Rattle.bsc_tributary.specs.declared.mode.Mode.TheVariants.{Control, Receiving}
use Rattle.bsc_tributary.specs.Called.{called_as}
use Rattle.bsc_tributary.specs.Tributary.{TributaryValue, TributaryStep, Hears, hear_step}
use Rattle.bsc_tributary.specs.Tributary.{call_step, act_step, answer_step, quiet_step}
use Rattle.bsc_tributary.specs.Tributary.{without_line, rooms_after, spool_at, empty_spool}
use Rattle.bsc_tributary.specs.Kept.{IsTributary}
use Rattle.bsc_control.specs.declared.task.Replied.TheVariants.{Nothing}
use Rattle.bsc_control.specs.declared.task.Task.{Task}
use Rattle.bsc_control.specs.declared.task.Task.TheVariants.{Selecting, Polling}
use Rattle.bsc_bid.specs.declared.way.Way.{Way}
use Rattle.bsc_bid.specs.declared.way.Way.TheVariants.{FromTerminal, ToTerminal}
use Rattle.bsc_bid.specs.Addresses.{IsAddressOf}
use Rattle.bsc_control.specs.Peer.{PeerValue, IsPeer, no_peer, outbound_at}
use Rattle.bsc_control.specs.Control.{ControlValue, terminals, peer_at, peer, current}
use Rattle.bsc_control.specs.Kept.{IsControl, IsSelected, SuitsTask}
use Rattle.bsc_control.specs.Table.{select_address}
use Rattle.bsc_bid.specs.declared.speaker.Speaker.TheVariants as sp
use Rattle.bsc_line_model.specs.Transmission.{sent_by}
use Rattle.bsc_line_model.specs.Line.{terminal_in}
use Rattle.bsc_line_model.specs.Terminals.{answer_of, EachHears, first_answer}
use Rattle.bsc_line_model.specs.Trust.{AllHear}
use Rattle.bsc_line_model.specs.Kept.{AreStations}
use Rattle.bsc_line_model.specs.Together.{HasNoBid, NoBids, NoOtherBids, AllInControlMode}
use Rattle.bsc_line_model.specs.Together.{selected, IsSelectedWith, IsSelecting, IsPolling}
use Rattle.bsc_line_model.specs.BidLaws.{BidLaws}
use Rattle.bsc_control.proofs.Calls.{places, current_within_peers}
use Rattle.bsc_line_model.proofs.Stations.{same_or_not, terminal_in_directory, at_rest_in}
use Rattle.bsc_line_model.proofs.Tuning.{NamesOwn, IsCalledBy}
use Rattle.bsc_line_model.proofs.SendingDown.{first_answer_is, one_terminal_of_address}
use Rattle.bsc_line_model.proofs.ActingUp.{HasActedUp, bid_up_after_act, present_terminal_after_act}
use Rattle.bsc_line_model.proofs.CallsMissed.{no_bid_without_line, GivesUp}
use Rattle.bsc_line_model.proofs.CallsMissed.{no_bid_back}
use Rattle.bsc_bid.proofs.Resting.{idle_at_rest, cut_at_rest}
use Rattle.bsc_line_model.proofs.UpTerminals.{poll_by}

-- all hear a call whole, and its address is that of terminal e for this way
pub record IsCallTo (c : ControlValue) (old : List TributaryValue) (hears : ℕ → Heard)
    (addressed : Option (ℕ × Way)) (e : ℕ) (way : Way) (address : List ℕ) : Type 0 where
  pub there : e < length old
  pub all : AllHear (length old) hears (m.Call address)
  pub exact : (u : ℕ) (w : Way) → (addressed ≡ Some (u, w)) ↔ IsAddressOf (terminals c) u w address
  pub its_own : IsAddressOf (terminals c) e way address

-- so the others are not called
pub not_called : (laws : NamesOwn) (addressed : Option (ℕ × Way)) (ts : List TerminalValue)
    (t e : ℕ) (way : Way) (x : TerminalValue) (address : List ℕ)
    → IsCalledBy addressed ts t x address → addressed ≡ Some (e, way) → t ≢ e → (called : Called)
    → called_as x address ≡ called → called_as x address ≡ Other
not_called laws addressed ts t e way x address b is differ Other k = k
not_called laws addressed ts t e way x address b is differ PollingCalled k =
    absurd
    (differ (one_terminal_of_address addressed t e FromTerminal way
    ((b.exact t FromTerminal).1 (record {
      terminal = x;
      there = b.there;
      its_own =
          ap (λ (z : List ℕ). Some z) (sym ((laws.polling x address).0 k));
    })) is))
not_called laws addressed ts t e way x address b is differ (Selection s) k =
    absurd
    (differ (one_terminal_of_address addressed t e (ToTerminal s) way
    ((b.exact t (ToTerminal s)).1 (record {
      terminal = x;
      there = b.there;
      its_own =
          (laws.selection x address s b.distinct).0 k;
    })) is))

-- what a terminal does when it hears a call whole
pub called_row : (x : TributaryValue) (h : Heard) (u : TributaryValue) (out : Option Message)
    (address : List ℕ) (called : Called) → h ≡ Whole (m.Call address) → called_as x.terminal address
    ≡ called → Hears x h u out →
    record { tributary = u; sent = out } ≡ call_step x called (rooms_after h u)
called_row x h u out address called heard is row =
    let first : record { tributary = u; sent = out }
    ≡ hear_step x (Whole (m.Call address)) (rooms_after h u) =
    subst (λ (z : Heard). record { tributary = u; sent = out } ≡ hear_step x z (rooms_after h u))
    heard row.row in
    subst (λ (k : Called). record { tributary = u; sent = out } ≡ call_step x k (rooms_after h u))
    is first

line_left_on_other_call : (x : TributaryValue) (h : Heard) (u : TributaryValue) (out : Option Message)
    (address : List ℕ) → h ≡ Whole (m.Call address) → called_as x.terminal address ≡ Other
    → Hears x h u out → GivesUp x u out
line_left_on_other_call x h u out address heard is row =
    let row : record { tributary = u; sent = out } ≡ quiet_step (without_line x) =
    called_row x h u out address Other heard is row in
    record {
      becomes = ap (λ (o : TributaryStep). o.tributary) row;
      silent =
          ap (λ (o : TributaryStep). o.sent) row;
    }

-- the other terminals when a call is heard whole
pub record OneCalled (c : ControlValue) (old : List TributaryValue) (hears : ℕ → Heard)
    (new : List TributaryValue) (e : ℕ) : Type 0 where
  pub others : (t : ℕ) → t < length old → t ≢ e
      → GivesUp (terminal_in old t) (terminal_in new t) (answer_of old hears new t)
  pub first : first_answer old hears new (length old)
      ≡ sent_by (sp.Terminal e) (answer_of old hears new e)
  pub modes : (terminal_in new e).mode ≡ Control → AllInControlMode new

pub only_called_terminal_hears : (laws : NamesOwn) (c : ControlValue) (old : List TributaryValue)
    (hears : ℕ → Heard) (new : List TributaryValue) (addressed : Option (ℕ × Way)) (e : ℕ)
    (way : Way) (address : List ℕ) → AreStations c old
    → IsCallTo c old hears addressed e way address → EachHears old hears new
    → OneCalled c old hears new e
only_called_terminal_hears laws c old hears new addressed e way address stations call each =
    let ups : (t : ℕ) → t < length old → t ≢ e
    → GivesUp (terminal_in old t) (terminal_in new t) (answer_of old hears new t) =
    λ t less differ.
    let x : TributaryValue = terminal_in old t in
    let distinct : HasDistinctAddresses x.terminal = (stations.members t less).tributary.distinct in
    line_left_on_other_call x (hears t) (terminal_in new t) (answer_of old hears new t) address (call.all t less)
    (not_called laws addressed (terminals c) t e way x.terminal address
    (record {
      exact = call.exact;
      there = terminal_in_directory c old t stations less;
      distinct =
          distinct;
    })
    ((call.exact e way).1 call.its_own) differ (called_as x.terminal address) refl)
    (each.each t less) in
    record {
      others = ups;
      first =
          first_answer_is old hears new e (length old) call.there
          (λ t less differ. (ups t less differ).silent);
      modes = λ here t less.
          let before : t < length old = omega (arith, each.count) in
          elim (same_or_not t e) [
            | inl same ↦ subst (λ (n : ℕ). (terminal_in new n).mode ≡ Control) (sym same) here
            | inr differ ↦ ap (λ (y : TributaryValue). y.mode) (ups t before differ).becomes
          ];
    }

-- no bid with the others is in progress
pub others_give_up : (c : ControlValue) (old : List TributaryValue) (hears : ℕ → Heard)
    (new : List TributaryValue) (e : ℕ) → AreStations c old → NoBids c old → length new
    ≡ length old → OneCalled c old hears new e → NoOtherBids c new e
others_give_up c old hears new e stations no_bids count one t less differ =
    let before : t < length old = omega (arith, count) in
    let up : GivesUp (terminal_in old t) (terminal_in new t) (answer_of old hears new t) =
    one.others t before differ in
    no_bid_back (peer_at c t) (terminal_in old t) (terminal_in new t) (answer_of old hears new t)
    (stations.members t before).tributary (no_bids t before)
    (record { becomes = inr up.becomes; silent = up.silent })

-- no bid is in progress if none is with the others and none with this one
pub no_bids_if_none_with_each : (c : ControlValue) (ts : List TributaryValue) (e : ℕ) → NoOtherBids c ts e
    → HasNoBid (peer_at c e) (terminal_in ts e) → NoBids c ts
no_bids_if_none_with_each c ts e others this t less =
    elim (same_or_not t e) [
      | inl same ↦ subst (λ (n : ℕ). HasNoBid (peer_at c n) (terminal_in ts n)) (sym same) this
      | inr differ ↦ others t less differ
    ]

-- an attempt to get room leaves the records
records_kept : (spools : List SpoolValue) (s k : ℕ) (room : Bool) → s < length spools
    → (spool_at (slice_set spools s (room_asked (spool_at spools s) room)) k).records
    ≡ (spool_at spools k).records
records_kept spools s k room there =
    elim (same_or_not k s) [
      | inl same ↦ rw (
        same,
        get_or-set_same spools s (room_asked (spool_at spools s) room)
            empty_spool there,
      ) refl
      | inr differ ↦ ap (λ (z : SpoolValue). z.records)
          (get_or-set_other spools s k (room_asked (spool_at spools s) room) empty_spool differ)
    ]

-- the answer to a selection, by the ready flag and whether there is room
abbrev selection_answer : TributaryValue → ℕ → Bool → Bool → TributaryStep
selection_answer x s room ready =
    let d : TributaryValue = without_line x in
    let spools : List SpoolValue = slice_set x.spools s (room_asked (spool_at x.spools s) room) in
    if ready
    then answer_step (record d {
      mode = Receiving s;
      receiver = new_receiver room;
      spools =
          spools;
    })
    (m.Reply (first_reply room))
    else answer_step d (m.Reply Nak)

-- a terminal that receives from now on, and rests
no_bid_of_new_receiver : (p : PeerValue) (x : TributaryValue) (s : ℕ) (room : Bool) → IsTributary x
    → HasNoBid p x → s < length x.spools →
    HasNoBid p (record (without_line x) {
      mode = Receiving s;
      receiver = new_receiver room;
      spools =
          slice_set x.spools s (room_asked (spool_at x.spools s) room);
    })
no_bid_of_new_receiver p x s room is q there =
    record {
      mode = λ sends. cc;
      up = (no_bid_without_line p x is q).up;
      down =
          λ k less. subst (λ (z : List (List ℕ)). IsResting (outbound_at p k).sender.phase
          (outbound_at p k).queue z) (sym (records_kept x.spools s k room there))
          (q.down k less);
    }

-- no bid with the selected terminal is in progress, and it answers as it may
abbrev AnswersSelection : PeerValue → ℕ → ℕ → TributaryStep → List TributaryValue → Type 0
AnswersSelection p e s step ts = (step.tributary.mode ≡ Control → AllInControlMode ts)
    → HasNoBid p step.tributary × IsSelectedWith (sent_by (sp.Terminal e) step.sent) false
    (selected p e s step.tributary ts)

selected_terminal : (p : PeerValue) (e s : ℕ) (x : TributaryValue) (ts : List TributaryValue)
    (room ready : Bool) → IsTributary x → HasNoBid p x → s < length x.spools
    → AnswersSelection p e s (selection_answer x s room ready) ts
selected_terminal p e s x ts true true is q there modes = (
  no_bid_of_new_receiver p x s true is q there,
  (refl, (record { mode = refl; even = refl; last = inl refl }, refl)),
)
selected_terminal p e s x ts false true is q there modes = (
  no_bid_of_new_receiver p x s false is q there,
  (refl, (record { mode = refl; even = refl; last = inr refl }, refl)),
)
selected_terminal p e s x ts true false is q there modes =
    (no_bid_without_line p x is q, (refl, modes refl))
selected_terminal p e s x ts false false is q there modes =
    (no_bid_without_line p x is q, (refl, modes refl))

-- a selection address of the present terminal
pub select_of_present_terminal : (c : ControlValue) (s : ℕ) → IsControl c → s < length (peer c).outbounds → s
    < length (peer c).terminal.selects
select_of_present_terminal c s is less =
    let of_peer : IsPeer (peer c) =
    is.entries.peers (current c) no_peer (current_within_peers c (places c is.entries)) in
    subst (λ (n : ℕ). s < n) of_peer.outbounds less

-- all hear the selection address of the present terminal: its terminal answers
pub selecting_heard : (laws : NamesOwn) (c : ControlValue) (old : List TributaryValue)
    (hears : ℕ → Heard) (new : List TributaryValue) (addressed : Option (ℕ × Way)) (s : ℕ)
    (enquired : Bool) → current c < length old → AreStations c old → c.task ≡ Selecting s enquired
    → NoBids c old →
    AllHear (length old) hears (m.Call (select_address (peer c).terminal s))
    → ((u : ℕ) (w : Way)
    → (addressed ≡ Some (u, w)) ↔ IsAddressOf (terminals c) u w
    (select_address (peer c).terminal s)) → EachHears old hears new →
    IsSelecting (first_answer old hears new (length old)) c new s false
selecting_heard laws c old hears new addressed s enquired there stations task no_bids all exact
    each =
    let e : ℕ = current c in
    let p : PeerValue = peer c in
    let x : TributaryValue = terminal_in old e in
    let u : TributaryValue = terminal_in new e in
    let address : List ℕ = select_address p.terminal s in
    let is : IsTributary x = (stations.members e there).tributary in
    let suits : IsSelected p s =
    subst (λ (t : Task). SuitsTask t p) task stations.control.orderly.suits in
    let select : s < length p.terminal.selects = select_of_present_terminal c s stations.control suits.there in
    let named : slice_get p.terminal.selects s ≡ Some address =
    slice_get-get_or p.terminal.selects s p.terminal.poll select in
    let same : x.terminal ≡ p.terminal = (stations.members e there).addresses in
    let named_there : slice_get x.terminal.selects s ≡ Some address =
    subst (λ (y : TerminalValue). slice_get y.selects s ≡ Some address) (sym same) named in
    let its_own : IsAddressOf (terminals c) e (ToTerminal s) address =
    record {
      terminal = x.terminal;
      there = terminal_in_directory c old e stations there;
      its_own =
          named_there;
    } in
    let one : OneCalled c old hears new e =
    only_called_terminal_hears laws c old hears new addressed e (ToTerminal s) address stations
    (record { there = there; all = all; exact = exact; its_own = its_own }) each in
    let called : called_as x.terminal address ≡ Selection s =
    (laws.selection x.terminal address s is.distinct).1 named_there in
    let row : record { tributary = u; sent = answer_of old hears new e }
    ≡ selection_answer x s (rooms_after (hears e) u).first x.ready =
    called_row x (hears e) u (answer_of old hears new e) address (Selection s) (all e there) called
    (each.each e there) in
    let into : s < length x.spools =
    subst (λ (n : ℕ). s < n) (sym is.spools)
    (subst (λ (y : TerminalValue). s < length y.selects) (sym same) select) in
    let answers : HasNoBid p u
    × IsSelectedWith (sent_by (sp.Terminal e) (answer_of old hears new e))
    false (selected p e s u new) =
    subst (λ (o : TributaryStep). AnswersSelection p e s o new) (sym row)
    (selected_terminal p e s x new (rooms_after (hears e) u).first x.ready is (no_bids e there)
    into) one.modes in
    record {
      no_bids =
          no_bids_if_none_with_each c new e (others_give_up c old hears new e stations no_bids each.count one)
          answers.0;
      with_pending = rw (one.first) answers.1;
      fresh = tt;
    }

rests_quiet : (act : Act) (old new : Phase) → FitsAct act old new → act ≡ a.Quiet → IsAtRest old
    → IsAtRest new
rests_quiet act old new fits is rest =
    subst IsAtRest (sym (subst (λ (z : Act). FitsAct z old new) is fits)) rest

-- the polled terminal begins a bid
begins_bid_up : (laws : BidLaws) (p : PeerValue) (e : ℕ) (d : TributaryValue) → p.receiver
    ≡ new_receiver true → HasNoBid p d → d.mode ≡ Control → d.sender.phase ≡ Idle → 1
    ≤ length (waiting d.queue) →
    let step : SenderStep = begin_step d.sender d.queue in
    HasActedUp p e (act_step d step).tributary (act_step d step).sent
begins_bid_up laws p e d new q mode idle some =
    let step : SenderStep = begin_step d.sender d.queue in
    let rest : IsResting Idle d.queue p.spool.records =
    subst (λ (k : Phase). IsResting k d.queue p.spool.records) idle q.up in
    let agrees : SenderAgrees d.queue Even Ack0 p.spool.records step =
    laws.begin d.sender d.queue p.spool.records rest some in
    bid_up_after_act laws p e d step step.act refl
    (record {
      down = q.down;
      continues =
          subst (λ (r : ReceiverValue). Continues step.sender.phase step.queue r.alternation r.last
          p.spool.records (sent_flight step.act)) (sym new) agrees.continues;
      ended = agrees.ended;
    })
    (λ is. inr (
      q.mode,
      rests_quiet step.act d.sender.phase step.sender.phase
          (laws.fits.begin d.sender d.queue) is (subst IsAtRest (sym idle) tt),
    ))

polled_terminal : (laws : BidLaws) (p : PeerValue) (e : ℕ) (x : TributaryValue) (doubt empty : Bool)
    → p.receiver ≡ new_receiver true → IsTributary x → HasNoBid p x
    → is_in_doubt (cut_phase x.sender.phase) ≡ doubt → nat_eq (length (waiting x.queue)) 0 ≡ empty →
    HasActedUp p e (poll_by x doubt empty).tributary (poll_by x doubt empty).sent
polled_terminal laws p e x true empty new is q d n = let w : HasNoBid p (without_line x) =
    no_bid_without_line p x is q in
    inl (record { mode = w.mode; up = w.up; down = w.down }, inr (refl, refl))
polled_terminal laws p e x false true new is q d n = let w : HasNoBid p (without_line x) =
    no_bid_without_line p x is q in
    inl (record { mode = w.mode; up = w.up; down = w.down }, inr (refl, refl))
polled_terminal laws p e x false false new is q d n =
    let w : HasNoBid p (without_line x) = no_bid_without_line p x is q in
    let differ : length (waiting x.queue) ≢ 0 = eqb-false (length (waiting x.queue)) 0 n in
    let rest : IsAtRest x.sender.phase =
    at_rest_in x.mode x.sender.phase (length x.spools) q.mode is.bid in
    let cut_rest : IsAtRest (cut_phase x.sender.phase) =
    subst IsAtRest (sym (cut_at_rest x.sender.phase rest)) rest in
    begins_bid_up laws p e (record (without_line x) { urgent = false }) new
    (record { mode = w.mode; up = w.up; down = w.down }) refl
    (idle_at_rest (cut_phase x.sender.phase) cut_rest d) (omega arith)

-- all hear the polling address of the present terminal: the terminal sends, or ends the poll
pub polling_heard : (names : NamesOwn) (laws : BidLaws) (c : ControlValue)
    (old : List TributaryValue) (hears : ℕ → Heard) (new : List TributaryValue)
    (addressed : Option (ℕ × Way)) → current c < length old → AreStations c old → c.task
    ≡ Polling Nothing → NoBids c old →
    AllHear (length old) hears (m.Call (peer c).terminal.poll)
    → ((u : ℕ) (w : Way)
    → (addressed ≡ Some (u, w)) ↔ IsAddressOf (terminals c) u w (peer c).terminal.poll)
    → EachHears old hears new →
    IsPolling (first_answer old hears new (length old)) c new Nothing
polling_heard names laws c old hears new addressed there stations task no_bids all exact each =
    let e : ℕ = current c in
    let p : PeerValue = peer c in
    let x : TributaryValue = terminal_in old e in
    let u : TributaryValue = terminal_in new e in
    let out : Option Message = answer_of old hears new e in
    let is : IsTributary x = (stations.members e there).tributary in
    let fresh : p.receiver ≡ new_receiver true =
    subst (λ (t : Task). SuitsTask t p) task stations.control.orderly.suits in
    let same : x.terminal ≡ p.terminal = (stations.members e there).addresses in
    let poll : p.terminal.poll ≡ x.terminal.poll = ap (λ (y : TerminalValue). y.poll) (sym same) in
    let its_own : IsAddressOf (terminals c) e FromTerminal p.terminal.poll =
    record {
      terminal = x.terminal;
      there = terminal_in_directory c old e stations there;
      its_own =
          ap (λ (z : List ℕ). Some z) (sym poll);
    } in
    let one : OneCalled c old hears new e =
    only_called_terminal_hears names c old hears new addressed e FromTerminal p.terminal.poll stations
    (record { there = there; all = all; exact = exact; its_own = its_own }) each in
    let row : record { tributary = u; sent = out }
    ≡ poll_by x (is_in_doubt (cut_phase x.sender.phase))
    (nat_eq (length (waiting x.queue)) 0) =
    called_row x (hears e) u out p.terminal.poll PollingCalled (all e there)
    ((names.polling x.terminal p.terminal.poll).1 poll) (each.each e there) in
    let acted : HasActedUp p e u out =
    subst (λ (o : TributaryStep). HasActedUp p e o.tributary o.sent) (sym row)
    (polled_terminal laws p e x (is_in_doubt (cut_phase x.sender.phase))
    (nat_eq (length (waiting x.queue)) 0) fresh is (no_bids e there) refl refl) in
    record {
      others = others_give_up c old hears new e stations no_bids each.count one;
      present = rw (one.first) (present_terminal_after_act p e u out Nothing new acted one.modes);
    }
