-- What a terminal does on a call of one of its own addresses: the steps of the code together are
-- the rows of the table.
use Rattle.std.proofs.Common.{◌≡◌, ◌∙◌, ◌<◌, ℕ, sym, ap, subst, refl, Bool, true, false, List}
use Rattle.std.proofs.Common.{length, nat_eq, not, slice_set, Option, if◌then◌else◌, arith}
use Rattle.std.proofs.lemmas.Bool.{not-false, not-true}
use Rattle.std.proofs.lemmas.List.{get_or-set_same, length-set}
use Rattle.bsc_frame.specs.declared.message.Message.{Message}
use Rattle.bsc_frame.specs.declared.message.Message.TheVariants as m
use Rattle.bsc_frame.specs.declared.reply.Reply.TheVariants.{Nak}
use Rattle.bsc_spool.specs.Queue.{waiting, next_block}
use Rattle.bsc_spool.specs.Spool.{SpoolValue, room_asked}
use Rattle.bsc_bid.specs.declared.alternation.Alternation.TheVariants.{Odd}
use Rattle.bsc_bid.specs.declared.phase.Phase.TheVariants.{Idle}
use Rattle.bsc_frame.specs.declared.reply.Reply.{Reply}
use Rattle.bsc_bid.specs.Ready.{IsReady, IsAtRest}
use Rattle.bsc_bid.specs.Receiver.{ReceiverValue, new_receiver, first_reply}
use Rattle.bsc_bid.specs.Sender.{SenderStep, begin_step, is_in_doubt}
use Rattle.bsc_bid.proofs.Restarting.{is_at_rest_cut_phase}
use Rattle.bsc_tributary.specs.declared.mode.Mode.{Mode}
use Rattle.bsc_tributary.specs.declared.mode.Mode.TheVariants.{Receiving}
use Rattle.bsc_tributary.specs.Tributary.{TributaryValue, TributaryStep, spool_at, empty_spool}
use Rattle.bsc_tributary.specs.Tributary.{answer_step, without_line, mode_after, message_of_act}
use Rattle.bsc_tributary.specs.Tributary.{act_step, poll_step, selection_step}
use Rattle.bsc_tributary.specs.Kept.{IsTributary}
use Rattle.bsc_tributary.proofs.Acts.{FollowsFrom, follows_sent_next}
use Rattle.bsc_tributary.proofs.Stays.{stays_act_step, stays_flags}
use Rattle.bsc_bid.proofs.Resting.{idle_at_rest}

-- the answer to a poll of a terminal from which the line was taken
abbrev poll_from : TributaryValue → TributaryStep
poll_from d =
    if is_in_doubt d.sender.phase then answer_step d m.Eot
    else if nat_eq (length (waiting d.queue)) 0 then answer_step d m.Eot
    else act_step d (begin_step d.sender d.queue)

poll_from_poll_step : (t old : TributaryValue) → t ≡ without_line old →
    poll_from (record t { urgent = false }) ≡ poll_step old
poll_from_poll_step t old e = ap (λ (v : TributaryValue). poll_from (record v { urgent = false })) e

-- EOT, because the terminal is in doubt
pub poll_step_in_doubt : (t old : TributaryValue) → t ≡ without_line old
    → is_in_doubt t.sender.phase ≡ true →
    answer_step (record t { urgent = false }) m.Eot ≡ poll_step old
poll_step_in_doubt t old e doubt =
    let here : answer_step (record t { urgent = false }) m.Eot ≡ poll_from
    (record t { urgent = false }) = rw doubt refl in
    here ∙ poll_from_poll_step t old e

-- EOT, because no record waits
pub poll_step_empty : (t old : TributaryValue) → t ≡ without_line old → is_in_doubt t.sender.phase
    ≡ false →
    not (nat_eq (length (waiting t.queue)) 0) ≡ false →
    answer_step (record t { urgent = false }) m.Eot ≡ poll_step old
poll_step_empty t old e sure none =
    let empty : nat_eq (length (waiting t.queue)) 0 ≡ true =
    not-false (nat_eq (length (waiting t.queue)) 0) none in
    let here : answer_step (record t { urgent = false }) m.Eot
    ≡ poll_from (record t { urgent = false }) = rw
    (sure, empty) refl in
    here ∙ poll_from_poll_step t old e

-- the first block
pub poll_step_begins : (t old : TributaryValue) (step : SenderStep) (mode : Mode)
    (sent : Option Message) →
    t ≡ without_line old → is_in_doubt t.sender.phase ≡ false
    → not (nat_eq (length (waiting t.queue)) 0) ≡ true →
    step ≡ begin_step t.sender t.queue → mode ≡ mode_after step.act t.mode → sent
    ≡ message_of_act step.act →
    record {
      tributary =
          record t { urgent = false; mode = mode; sender = step.sender; queue = step.queue };
      sent =
          sent;
    } ≡ poll_step old
poll_step_begins t old step mode sent e sure some row mode_is sent_is =
    let wait : nat_eq (length (waiting t.queue)) 0 ≡ false =
    not-true (nat_eq (length (waiting t.queue)) 0) some in
    let u : TributaryValue = record t { urgent = false } in
    let done : record {
      tributary =
          record u { mode = mode; sender = step.sender; queue = step.queue };
      sent = sent;
    }
    ≡ act_step u step = rw (mode_is, sent_is) refl in
    let here : act_step u (begin_step t.sender t.queue) ≡ poll_from u = rw (sure, wait) refl in
    done ∙ ap (act_step u) row ∙ here ∙ poll_from_poll_step t old e

pub without_line_idle : (t old : TributaryValue) → t ≡ without_line old → is_in_doubt t.sender.phase
    ≡ false →
    t.sender.phase ≡ Idle
without_line_idle t old e sure =
    idle_at_rest t.sender.phase (subst (λ (v : TributaryValue). IsAtRest v.sender.phase) (sym e)
    (is_at_rest_cut_phase old.sender.phase)) sure

pub stays_begun : (t : TributaryValue) (step : SenderStep) (mode : Mode) → IsTributary t →
    step ≡ begin_step t.sender t.queue → mode ≡ mode_after step.act t.mode
    → IsReady step.sender step.queue →
    IsTributary (record t { urgent = false; mode = mode; sender = step.sender; queue = step.queue })
stays_begun t step mode is row mode_is ready =
    stays_act_step (record t { urgent = false }) mode t.mode step
    (stays_flags t t.ready false t.receiver is) mode_is
    (subst (FollowsFrom t.mode (length t.spools) t.sender t.queue) (sym row)
    (follows_sent_next t.mode (length t.spools) t.sender t.queue Odd (next_block t.queue))) ready

-- the answer to a selection of a terminal from which the line was taken
abbrev selection_from : TributaryValue → ℕ → Bool → TributaryStep
selection_from d s room =
    if d.ready
    then answer_step
    (record d {
      mode = Receiving s;
      receiver = new_receiver room;
      spools = slice_set d.spools s
          (room_asked (spool_at d.spools s) room);
    }) (m.Reply (first_reply room))
    else answer_step d (m.Reply Nak)

pub selection_step_ready : (t old : TributaryValue) (s : ℕ) (room : Bool) (receiver : ReceiverValue)
    (spools : List SpoolValue) (reply : Reply) (message : Message) → t ≡ without_line old → t.ready
    ≡ true →
    s < length t.spools →
    spools ≡ slice_set t.spools s (room_asked (spool_at t.spools s) room) → receiver
    ≡ new_receiver room →
    reply ≡ first_reply room → message ≡ m.Reply reply →
    answer_step (record t { mode = Receiving s; receiver = receiver; spools = spools }) message
    ≡ selection_step old s
    (spool_at spools s).room
selection_step_ready t old s room receiver spools reply message e ready within spools_is receiver_is
    reply_is message_is =
    let there : spool_at (slice_set t.spools s (room_asked (spool_at t.spools s) room)) s
    ≡ room_asked
    (spool_at t.spools s) room = get_or-set_same t.spools s
    (room_asked (spool_at t.spools s) room) empty_spool within in
    let same : (spool_at spools s).room ≡ room =
    ap (λ (xs : List SpoolValue). (spool_at xs s).room) spools_is
    ∙ ap (λ (x : SpoolValue). x.room) there in
    let here : answer_step (record t { mode = Receiving s; receiver = receiver; spools = spools })
    message ≡
    selection_from t s room = rw (spools_is, receiver_is, message_is, reply_is, ready) refl in
    here ∙ ap (λ (v : TributaryValue). selection_from v s room) e
    ∙ ap (selection_step old s) (sym same)

pub selection_step_room : (t old : TributaryValue) (s : ℕ) (room : Bool) (spools : List SpoolValue)
    →
    t ≡ without_line old → s < length t.spools → spools ≡ slice_set t.spools s (room_asked
    (spool_at t.spools s) room) →
    ((spool_at t.spools s).room ≡ true → room ≡ true) → (spool_at old.spools s).room ≡ true →
    (spool_at spools s).room ≡ true
selection_step_room t old s room spools e within spools_is there had =
    let now : spool_at (slice_set t.spools s (room_asked (spool_at t.spools s) room)) s ≡ room_asked
    (spool_at t.spools s) room = get_or-set_same t.spools s
    (room_asked (spool_at t.spools s) room) empty_spool within in
    ap (λ (xs : List SpoolValue). (spool_at xs s).room) spools_is
    ∙ ap (λ (x : SpoolValue). x.room) now
    ∙ there (ap (λ (v : TributaryValue). (spool_at v.spools s).room) e ∙ had)

pub stays_selection_step : (t old : TributaryValue) (s : ℕ) (receiver : ReceiverValue)
    (spools : List SpoolValue)
    (spool : SpoolValue) → IsTributary t → t ≡ without_line old → s < length t.spools →
    spools ≡ slice_set t.spools s spool →
    IsTributary (record t { mode = Receiving s; receiver = receiver; spools = spools })
stays_selection_step t old s receiver spools spool is e within spools_is =
    let same : length spools ≡ length t.spools = ap (λ (xs : List SpoolValue). length xs) spools_is
    ∙ length-set t.spools s spool in
    record {
      distinct = is.distinct;
      terminal = is.terminal;
      spools = same ∙ is.spools;
      format = is.format;
      ready = is.ready;
      bid = (
        subst (λ (v : TributaryValue). IsAtRest v.sender.phase) (sym e)
            (is_at_rest_cut_phase old.sender.phase),
        omega (arith, same),
      );
    }

-- the spools of a terminal are those of its selection addresses
pub within_spools : (t old : TributaryValue) (s : ℕ) → IsTributary t → t ≡ without_line old →
    s < length old.terminal.selects → s < length t.spools
within_spools t old s is e within =
    let addresses : length t.terminal.selects ≡ length old.terminal.selects = ap
    (λ (v : TributaryValue). length v.terminal.selects) e in
    omega (arith, addresses, is.spools)
