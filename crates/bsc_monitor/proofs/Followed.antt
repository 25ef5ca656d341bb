-- The visits are followed by the control station's own task and place: row by row of its table.
use Rattle.std.proofs.Common.{◌≡◌, ◌≢◌, ℕ, ◌+◌, Bool, true, false, nat_eq, nat_lt, ◌&&◌, List, Option}
use Rattle.std.proofs.Common.{None, Some, option_map, is_some, refl, sym, ◌∙◌, ap, subst, arith}
use Rattle.std.proofs.Common.{if◌then◌else◌}
use Rattle.std.proofs.lemmas.Bool.Decides.{nat_tests}
use Rattle.bsc_frame.specs.declared.message.Message.{Message}
use Rattle.bsc_frame.specs.declared.message.Message.TheVariants as m
use Rattle.bsc_frame.specs.declared.message.Heard.{Heard}
use Rattle.bsc_frame.specs.declared.message.Heard.TheVariants.{Whole, Failed, Noise}
use Rattle.bsc_frame.specs.declared.reply.Reply.{Reply}
use Rattle.bsc_frame.specs.declared.reply.Reply.TheVariants.{Ack0, Ack1, Nak, Wack, Rvi}
use Rattle.bsc_frame.specs.Replies.{reply_in}
use Rattle.bsc_bid.specs.declared.outcome.Outcome.{Outcome}
use Rattle.bsc_bid.specs.declared.outcome.Outcome.TheVariants as o
use Rattle.bsc_bid.specs.Act.{message_for, outcome_of}
use Rattle.bsc_bid.specs.Receiver.{ReceiverStep, Rooms, heard_step}
use Rattle.bsc_bid.specs.Sender.{SenderStep, begin_step, reply_step, silence_step}
use Rattle.bsc_bid.proofs.Choice.{either_branch}
use Rattle.bsc_bid.specs.declared.way.Way.{Way}
use Rattle.bsc_bid.specs.declared.way.Way.TheVariants.{FromTerminal, ToTerminal}
use Rattle.bsc_bid.specs.Setup.{SetupValue}
use Rattle.bsc_bid.specs.Terminal.{TerminalValue}
use Rattle.bsc_control.specs.declared.task.Replied.{Replied}
use Rattle.bsc_control.specs.declared.task.Replied.TheVariants.{Nothing, Uninterrupted, Interrupted}
use Rattle.bsc_control.specs.declared.task.Task.{Task}
use Rattle.bsc_control.specs.declared.task.Task.TheVariants.{AtRest, Selecting, Sending, Polling}
use Rattle.bsc_control.specs.CallOrder.{After, Call, Start, Selection, Poll, call_past}
use Rattle.bsc_control.specs.CallOrder.{due_call, passed_over}
use Rattle.bsc_control.specs.Control.{ControlValue, ControlStep, peer, quiet_step, answer_step}
use Rattle.bsc_control.specs.Kept.{IsNewControl, IsHearing, IsSilence}
use Rattle.bsc_control.specs.Peer.{outbound_at}
use Rattle.bsc_control.specs.Table.{replied_after, is_interrupted, poll_call_step, way_call_step}
use Rattle.bsc_control.specs.Table.{call_past_step, next_call_step, performed, after_step, bid_step, after_bid}
use Rattle.bsc_control.specs.Table.{selecting_step, receive_step, polling_step, task_step, repeated}
use Rattle.bsc_control.specs.Table.{silence_in, rooms_after}
use Rattle.bsc_control.proofs.Steps.{reply_is_no_call}
use Rattle.bsc_monitor.specs.Visits.{is_begun, calls_anew, polled_in, polled_by, ended_by}
use Rattle.bsc_monitor.specs.Visits.{FollowsStep, polled_still}

-- a call of the call order is sent, and repeats none
way_call_is_sent : (c : ControlValue) (place : ℕ) (way : Way)
    → (address : List ℕ) × ((way_call_step c place way).sent ≡ Some (m.Call address))
way_call_is_sent c place FromTerminal = (_, refl)
way_call_is_sent c place (ToTerminal s) = (_, refl)

way_call_calls_anew : (c : ControlValue) (place : ℕ) (way : Way)
    → calls_anew (way_call_step c place way).control ≡ true
way_call_calls_anew c place FromTerminal = refl
way_call_calls_anew c place (ToTerminal s) = refl

way_call_ends_poll : (polled : Option ℕ) (c : ControlValue) (place : ℕ) (way : Way)
    → ended_by polled (way_call_step c place way) ≡ polled
way_call_ends_poll polled c place FromTerminal = refl
way_call_ends_poll polled c place (ToTerminal s) = refl

-- a call that is due and passes over entries, or the station comes to rest
call_past_quiet : (c : ControlValue) (call : Call) (over : Option ℕ)
    → (call_past_step c call over).sent ≡ None
    → polled_by (call_past_step c call over).control ≡ None
call_past_quiet c call None none = refl
call_past_quiet c call (Some more) none =
    let on = call_past c call (Some more) in
    let h = (way_call_is_sent c on.place on.way).1 in absurd (cc)

call_past_calls_anew : (c : ControlValue) (call : Call) (over : Option ℕ)
    → (call_past_step c call over).sent ≢ None
    → calls_anew (call_past_step c call over).control ≡ true
call_past_calls_anew c call None made = absurd (made refl)
call_past_calls_anew c call (Some more) made =
    let on = call_past c call (Some more) in way_call_calls_anew c on.place on.way

call_past_is_no_reply : (c : ControlValue) (call : Call) (over : Option ℕ) (reply : Option Reply)
    → option_map m.Reply reply ≡ (call_past_step c call over).sent
    → option_map m.Reply reply ≢ None → ⊥
call_past_is_no_reply c call None reply is made = made is
call_past_is_no_reply c call (Some more) reply is made =
    let on = call_past c call (Some more) in
    let sent = way_call_is_sent c on.place on.way in
    reply_is_no_call reply sent.0 (is ∙ sent.1)

-- the next call is made after a poll
follows_call_after_poll : (c : ControlValue) (replied : Replied) → c.task ≡ Polling replied
    → (call : Call) (over : Option ℕ)
    → call_past_step c call over ≡ next_call_step c (Poll (is_interrupted replied))
    → FollowsStep c (call_past_step c call over)
follows_call_after_poll c replied e call None row =
    record {
      quiet = λ none. refl;
      ended = λ entry. (λ is. absurd (cc), λ on. absurd (on.made refl));
    }
follows_call_after_poll c replied e call (Some more) row =
    let on = call_past c call (Some more) in
    let made = way_call_is_sent c on.place on.way in
    let polled : polled_by c ≡ Some c.place = ap (λ (t : Task). polled_in t c.place) e in
    let ended : ended_by (polled_by c) (call_past_step c call (Some more)) ≡ Some c.place =
    way_call_ends_poll (polled_by c) c on.place on.way ∙ polled in
    record {
      quiet = λ none. absurd (let h = made.1 in cc);
      ended = λ entry. (
        λ is.
            record {
              replied = replied;
              polling = e;
              place = cc;
              row = row;
              made = λ none. let h = made.1 in cc;
            },
        λ goes. let there = goes.place in ended ∙ ap (λ (n : ℕ). Some n) (sym there),
      );
    }

follows_next_call_after_poll : (c : ControlValue) (replied : Replied) → c.task ≡ Polling replied
    → FollowsStep c (next_call_step c (Poll (is_interrupted replied)))
follows_next_call_after_poll c replied e =
    let due = due_call c (Poll (is_interrupted replied)) in
    follows_call_after_poll c replied e due (passed_over c due.place) refl

-- no visit ends, and the station does not go on
follows_while_no_visit_ends : (c : ControlValue) (step : ControlStep)
    → (step.sent ≡ None → polled_by step.control ≡ polled_still step.control.task (polled_by c))
    → ((entry : ℕ) → ended_by (polled_by c) step ≡ Some entry → ⊥)
    → ((replied : Replied) → c.task ≡ Polling replied
    → step ≡ next_call_step c (Poll (is_interrupted replied)) → step.sent ≢ None → ⊥)
    → FollowsStep c step
follows_while_no_visit_ends c step quiet ends goes =
    record {
      quiet = quiet;
      ended = λ entry. (
        λ is. absurd (ends entry is),
        λ on. absurd (goes on.replied on.polling on.row on.made),
      );
    }

still_none : (task : Task) → polled_still task None ≡ None
still_none AtRest = refl
still_none (Selecting s enquired) = refl
still_none (Sending s) = refl
still_none (Polling replied) = refl

no_end_of_any_test : (a b : Bool) (entry : ℕ) → (if a then (if b then None else None) else None) ≡ Some entry
    → ⊥
no_end_of_any_test true true entry is = cc
no_end_of_any_test true false entry is = cc
no_end_of_any_test false b entry is = cc

-- no entry is polled before the step
follows_unpolled : (c : ControlValue) (step : ControlStep) → polled_by c ≡ None
    → ((replied : Replied) → c.task ≡ Polling replied → ⊥)
    → (step.sent ≡ None → polled_by step.control ≡ None) → FollowsStep c step
follows_unpolled c step unpolled other quiet =
    follows_while_no_visit_ends c step
    (λ none.
    quiet none
    ∙ sym (ap (λ (p : Option ℕ). polled_still step.control.task p) unpolled
    ∙ still_none step.control.task))
    (λ entry is. no_end_of_any_test (is_some step.sent) (calls_anew step.control) entry
    (subst (λ (p : Option ℕ). ended_by p step ≡ Some entry) unpolled is))
    (λ replied e row made. other replied e)

-- a step of the sender, and the act that it leads to
performs_quiet : (c : ControlValue) (s : ℕ) (outcome : Outcome) (message : Option Message)
    (after : After) → polled_by c ≡ None → (performed c s outcome message after).sent ≡ None
    → polled_by (performed c s outcome message after).control ≡ None
performs_quiet c s o.Sends message after unpolled none = refl
performs_quiet c s o.Over message after unpolled none =
    call_past_quiet c (due_call c after) (passed_over c (due_call c after).place) none
performs_quiet c s o.Quiet message after unpolled none = unpolled

follows_bid : (c : ControlValue) (task : Task) (s : ℕ) (step : SenderStep) (after : After)
    → c.task ≡ task → polled_in task c.place ≡ None
    → ((replied : Replied) → task ≡ Polling replied → ⊥) → FollowsStep c (bid_step c s step after)
follows_bid c task s step after e unpolled other =
    let is : polled_by c ≡ None = ap (λ (t : Task). polled_in t c.place) e ∙ unpolled in
    follows_unpolled c (bid_step c s step after) is (λ replied f. other replied (sym e ∙ f))
    (performs_quiet (after_step c s step) s (outcome_of step.act) (message_for step.act) after is)

follows_call : (c : ControlValue) (task : Task) (after : After) → c.task ≡ task
    → polled_in task c.place ≡ None → ((replied : Replied) → task ≡ Polling replied → ⊥)
    → FollowsStep c (next_call_step c after)
follows_call c task after e unpolled other =
    let is : polled_by c ≡ None = ap (λ (t : Task). polled_in t c.place) e ∙ unpolled in
    follows_unpolled c (next_call_step c after) is (λ replied f. other replied (sym e ∙ f))
    (call_past_quiet c (due_call c after) (passed_over c (due_call c after).place))

-- something else is sent, or nothing, and the task stays one without a poll
follows_outside_of_polls : (c : ControlValue) (task : Task) (step : ControlStep) → c.task ≡ task
    → polled_in task c.place ≡ None → ((replied : Replied) → task ≡ Polling replied → ⊥)
    → polled_by step.control ≡ None → FollowsStep c step
follows_outside_of_polls c task step e unpolled other after =
    follows_unpolled c step (ap (λ (t : Task). polled_in t c.place) e ∙ unpolled)
    (λ replied f. other replied (sym e ∙ f)) (λ none. after)

-- a selection is answered
follows_selecting : (c : ControlValue) (s : ℕ) (enquired : Bool) (r : Option Reply) → c.task
    ≡ Selecting s enquired → FollowsStep c (selecting_step c s r)
follows_selecting c s enquired (Some Ack0) e =
    follows_bid c (Selecting s enquired) s
    (begin_step (outbound_at (peer c) s).sender (outbound_at (peer c) s).queue) (Selection s) e refl
    (λ replied f. cc)
follows_selecting c s enquired (Some Nak) e =
    follows_call c (Selecting s enquired) (Selection s) e refl (λ replied f. cc)
follows_selecting c s enquired (Some Wack) e =
    either_branch (FollowsStep c) (nat_lt c.setup.waits (c.wacks + 1)) (next_call_step c (Selection s))
    (answer_step (record c { task = Selecting s true; failures = 0; wacks = c.wacks + 1 }) m.Enq)
    (follows_call c (Selecting s enquired) (Selection s) e refl (λ replied f. cc))
    (follows_outside_of_polls c (Selecting s enquired) _ e refl (λ replied f. cc) refl)
follows_selecting c s enquired (Some Ack1) e =
    follows_outside_of_polls c (Selecting s enquired) (quiet_step c) e refl (λ replied f. cc)
    (ap (λ (t : Task). polled_in t c.place) e)
follows_selecting c s enquired (Some Rvi) e =
    follows_outside_of_polls c (Selecting s enquired) (quiet_step c) e refl (λ replied f. cc)
    (ap (λ (t : Task). polled_in t c.place) e)
follows_selecting c s enquired None e =
    follows_outside_of_polls c (Selecting s enquired) (quiet_step c) e refl (λ replied f. cc)
    (ap (λ (t : Task). polled_in t c.place) e)

-- after a reply a poll is not as its call begins it
replied_not_begun : (replied : Replied) (r : Reply) → is_begun (Polling (replied_after replied (Some r)))
    ≡ false
replied_not_begun Nothing Ack0 = refl
replied_not_begun Nothing Ack1 = refl
replied_not_begun Nothing Nak = refl
replied_not_begun Nothing Wack = refl
replied_not_begun Nothing Rvi = refl
replied_not_begun Uninterrupted Ack0 = refl
replied_not_begun Uninterrupted Ack1 = refl
replied_not_begun Uninterrupted Nak = refl
replied_not_begun Uninterrupted Wack = refl
replied_not_begun Uninterrupted Rvi = refl
replied_not_begun Interrupted Ack0 = refl
replied_not_begun Interrupted Ack1 = refl
replied_not_begun Interrupted Nak = refl
replied_not_begun Interrupted Wack = refl
replied_not_begun Interrupted Rvi = refl

reply_ends_none : (replied : Replied) (r : Option Reply) (first : Bool) (polled : Option ℕ) (entry : ℕ)
    → (if is_some (option_map m.Reply r)
    then (if is_begun (Polling (replied_after replied r)) && first then polled else None)
    else None) ≡ Some entry → ⊥
reply_ends_none replied None first polled entry is = cc
reply_ends_none replied (Some r) first polled entry is =
    let no : (if false && first then polled else None) ≡ Some entry =
    subst (λ (b : Bool). (if b && first then polled else None) ≡ Some entry)
    (replied_not_begun replied r) is in
    cc

-- the receiver replies, or keeps silent
follows_receiving : (c : ControlValue) (replied : Replied) (step : ReceiverStep) → c.task
    ≡ Polling replied → FollowsStep c (receive_step c replied step)
follows_receiving c replied step e =
    follows_while_no_visit_ends c (receive_step c replied step)
    (λ none. sym (ap (λ (t : Task). polled_in t c.place) e))
    (λ entry is. reply_ends_none replied step.reply (nat_eq c.failures 0) (polled_by c) entry is)
    (λ other f row made.
    let due = due_call c (Poll (is_interrupted other)) in
    call_past_is_no_reply c due (passed_over c due.place) step.reply
    (ap (λ (x : ControlStep). x.sent) row) made)

follows_heard : (c : ControlValue) (h : Heard) (replied : Replied) (rooms : Rooms) → c.task
    ≡ Polling replied → FollowsStep c (receive_step c replied
    (heard_step (peer c).receiver (peer c).spool h (peer c).urgent rooms))
follows_heard c h replied rooms e =
    follows_receiving c replied
    (heard_step (peer c).receiver (peer c).spool h (peer c).urgent rooms) e

-- a poll is answered
follows_polling : (c : ControlValue) (replied : Replied) (h : Heard) (rooms : Rooms) → c.task
    ≡ Polling replied → FollowsStep c (polling_step c replied h rooms)
follows_polling c replied (Whole m.Eot) rooms e = follows_next_call_after_poll c replied e
follows_polling c replied Noise rooms e = follows_heard c Noise replied rooms e
follows_polling c replied Failed rooms e = follows_heard c Failed replied rooms e
follows_polling c replied (Whole (m.Call x)) rooms e =
    follows_heard c (Whole (m.Call x)) replied rooms e
follows_polling c replied (Whole m.Enq) rooms e = follows_heard c (Whole m.Enq) replied rooms e
follows_polling c replied (Whole (m.Reply r)) rooms e =
    follows_heard c (Whole (m.Reply r)) replied rooms e
follows_polling c replied (Whole (m.Text x)) rooms e =
    follows_heard c (Whole (m.Text x)) replied rooms e

follows_task : (c : ControlValue) (task : Task) (h : Heard) (rooms : Rooms) → c.task ≡ task
    → FollowsStep c (task_step c task h rooms)
follows_task c AtRest h rooms e =
    follows_outside_of_polls c AtRest (quiet_step c) e refl (λ replied f. cc)
    (ap (λ (t : Task). polled_in t c.place) e)
follows_task c (Selecting s enquired) h rooms e = follows_selecting c s enquired (reply_in h) e
follows_task c (Sending s) h rooms e =
    follows_bid c (Sending s) s
    (reply_step (outbound_at (peer c) s).sender (outbound_at (peer c) s).queue (reply_in h))
    (after_bid s (reply_in h)) e refl (λ replied f. cc)
follows_task c (Polling replied) h rooms e = follows_polling c replied h rooms e

one_more_failure : (n : ℕ) → nat_eq (n + 1) 0 ≡ false
one_more_failure n = grind (arith, nat_tests)

-- the poll is called again
follows_repeat : (c : ControlValue) → c.task ≡ Polling Nothing
    → FollowsStep c (poll_call_step c c.place (c.failures + 1))
follows_repeat c e =
    let failed : nat_eq (c.failures + 1) 0 ≡ false = one_more_failure c.failures in
    follows_while_no_visit_ends c (poll_call_step c c.place (c.failures + 1))
    (λ none. sym (ap (λ (t : Task). polled_in t c.place) e))
    (λ entry is.
    let no : None ≡ Some entry =
    subst (λ (b : Bool). (if b then polled_by c else None) ≡ Some entry) failed is in
    cc)
    (λ replied f row made.
    let due = due_call c (Poll (is_interrupted replied)) in
    let anew =
    call_past_calls_anew c due (passed_over c due.place)
    (subst (λ (x : ControlStep). x.sent ≢ None) row made) in
    let same = ap (λ (x : ControlStep). calls_anew x.control) row in
    cc)

follows_silence_in : (c : ControlValue) (task : Task) → c.task ≡ task
    → FollowsStep c (silence_in c task)
follows_silence_in c AtRest e = follows_call c AtRest Start e refl (λ replied f. cc)
follows_silence_in c (Selecting s enquired) e =
    either_branch (FollowsStep c) (nat_lt c.setup.tries (c.failures + 1)) (next_call_step c (Selection s))
    (answer_step (record c { failures = c.failures + 1 }) (repeated c s enquired))
    (follows_call c (Selecting s enquired) (Selection s) e refl (λ replied f. cc))
    (follows_outside_of_polls c (Selecting s enquired) _ e refl (λ replied f. cc)
    (ap (λ (t : Task). polled_in t c.place) e))
follows_silence_in c (Sending s) e =
    follows_bid c (Sending s) s
    (silence_step (outbound_at (peer c) s).sender (outbound_at (peer c) s).queue) (Selection s) e
    refl (λ replied f. cc)
follows_silence_in c (Polling Nothing) e =
    either_branch (FollowsStep c) (nat_lt c.setup.tries (c.failures + 1)) (next_call_step c (Poll false))
    (poll_call_step c c.place (c.failures + 1)) (follows_next_call_after_poll c Nothing e) (follows_repeat c e)
follows_silence_in c (Polling Uninterrupted) e = follows_next_call_after_poll c Uninterrupted e
follows_silence_in c (Polling Interrupted) e = follows_next_call_after_poll c Interrupted e

-- a new control station polls no entry
pub follows_new : (setup : SetupValue) (terminals : List TerminalValue) (poll_list : List ℕ)
    (c : ControlValue) → IsNewControl setup terminals poll_list c → polled_by c ≡ None
follows_new setup terminals poll_list c new = ap (λ (t : Task). polled_in t c.place) new.task

-- what is heard, and a silence, by the table
pub follows_hearing : (old : ControlValue) (h : Heard) (new : ControlValue) (sent : Option Message)
    → IsHearing old h new sent → FollowsStep old (record { control = new; sent = sent })
follows_hearing old h new sent hearing =
    subst (FollowsStep old) (sym hearing.row.row)
    (follows_task old old.task h (rooms_after old h new) refl)

pub follows_silence : (old new : ControlValue) (sent : Option Message) → IsSilence old new sent
    → FollowsStep old (record { control = new; sent = sent })
follows_silence old new sent silence =
    subst (FollowsStep old) (sym silence.row) (follows_silence_in old old.task refl)
