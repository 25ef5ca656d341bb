-- What a transmission changes of a terminal, row by row of the table.
use Rattle.std.proofs.Common.{◌≡◌, ◌≢◌, ◌∙◌, ◌⊎◌, inl, inr, ◌<◌, ℕ, sym, ap, subst, refl, Bool}
use Rattle.std.proofs.Common.{true, false, List, ◌++◌, length, nat_eq, slice_set, Option, None}
use Rattle.std.proofs.Common.{arith}
use Rattle.std.proofs.lemmas.Bool.Decides.{nat_tests}
use Rattle.std.proofs.lemmas.List.{get_or-set_same, get_or-set_other, length-set}
use Rattle.bsc_frame.specs.declared.message.Message.{Message}
use Rattle.bsc_frame.specs.declared.message.Message.TheVariants as m
use Rattle.bsc_frame.specs.declared.message.Heard.{Heard}
use Rattle.bsc_frame.specs.declared.message.Heard.TheVariants.{Whole, Failed, Noise}
use Rattle.bsc_block.specs.Blocks.{records_in}
use Rattle.bsc_spool.specs.Queue.{waiting, next_block}
use Rattle.bsc_spool.specs.Spool.{SpoolValue, room_asked}
use Rattle.bsc_bid.specs.declared.alternation.Alternation.TheVariants.{Odd}
use Rattle.bsc_frame.specs.Replies.{reply_in}
use Rattle.bsc_bid.specs.Receiver.{ReceiverStep, Rooms, heard_step}
use Rattle.bsc_bid.specs.Ready.{IsReady}
use Rattle.bsc_bid.specs.Sender.{SenderValue, SenderStep, with_phase, cut_phase, begin_step}
use Rattle.bsc_bid.specs.Sender.{reply_step, silence_step, is_in_doubt}
use Rattle.bsc_bid.proofs.Choice.{either_branch}
use Rattle.bsc_bid.proofs.ReceiverSteps.{Grows, grows_heard_step}
use Rattle.bsc_tributary.specs.declared.called.Called.{Called}
use Rattle.bsc_tributary.specs.declared.called.Called.TheVariants.{Polling, Selection, Other}
use Rattle.bsc_tributary.specs.declared.mode.Mode.{Mode}
use Rattle.bsc_tributary.specs.declared.mode.Mode.TheVariants.{Control, Receiving, Sending}
use Rattle.bsc_tributary.specs.Called.{called_as}
use Rattle.bsc_tributary.specs.Tributary.{TributaryValue, TributaryStep, spool_at, empty_spool}
use Rattle.bsc_tributary.specs.Tributary.{quiet_step, answer_step, without_line, mode_after}
use Rattle.bsc_tributary.specs.Tributary.{act_step, receive_step, poll_step, selection_step}
use Rattle.bsc_tributary.specs.Tributary.{call_step, mode_step, hear_step, Hears, rooms_after}
use Rattle.bsc_tributary.specs.Kept.{IsTributary, SuitsMode, Keeps, GrowsByText, IsModeCalled}
use Rattle.bsc_tributary.specs.Kept.{IsModeAfter, TakesLine, IsNoCall, AfterHearing}
use Rattle.bsc_tributary.specs.Kept.{AfterSilence, IsHearing}
use Rattle.bsc_tributary.proofs.Acts.{FollowsFrom, follows_sent_next, follows_reply_step}
use Rattle.bsc_tributary.proofs.Acts.{follows_silence_step, mode_after_sending}
use Rattle.bsc_tributary.proofs.CallsHeard.{begun_mode, within_selects}
use Rattle.bsc_tributary.proofs.InMode.{hear_step_no_call}
use Rattle.bsc_tributary.proofs.Noise.{quiet_on_noise_in_mode}
use Rattle.bsc_tributary.proofs.Stays.{stays_without_line}
use Rattle.bsc_bid.specs.Station.{StaysQuiet}

-- what a row changes
record Changes (old : TributaryValue) (h : Heard) (step : TributaryStep) : Type 0 where
  keeps : Keeps old step.tributary
  mode : IsModeAfter old h step.tributary.mode
  other_spools : (s : ℕ) → step.tributary.mode ≢ Receiving s → spool_at step.tributary.spools s
      ≡ spool_at old.spools s
  grows : (s : ℕ)
      → GrowsByText old.mode h s (spool_at old.spools s).records
      (spool_at step.tributary.spools s).records
  gives_up_line : TakesLine old.terminal h → (step.tributary.mode ≡ Control) × (step.sent ≡ None)
  control : old.mode ≡ Control → IsNoCall h → StaysQuiet old step.tributary step.sent
  noise : h ≡ Noise → StaysQuiet old step.tributary step.sent

-- a write to one spool: that spool, or another one
record At (spools : List SpoolValue) (s r : ℕ) (spool : SpoolValue) : Type 0 where
  same : r ≡ s
  is : spool_at (slice_set spools s spool) r ≡ spool

record Beside (spools : List SpoolValue) (s r : ℕ) (spool : SpoolValue) : Type 0 where
  other : r ≢ s
  is : spool_at (slice_set spools s spool) r ≡ spool_at spools r

at_or_beside_spool : (spools : List SpoolValue) (s r : ℕ) (spool : SpoolValue) (same : Bool) → nat_eq r s ≡ same
    →
    s < length spools → At spools s r spool ⊎ Beside spools s r spool
at_or_beside_spool spools s r spool true e within =
    let same : r ≡ s = grind (arith, nat_tests) in
    inl (record {
      same = same;
      is = ap (spool_at (slice_set spools s spool)) same
          ∙ get_or-set_same spools s spool empty_spool within;
    })
at_or_beside_spool spools s r spool false e within =
    let other : r ≢ s = grind (arith, nat_tests) in
    inr (record { other = other; is = get_or-set_other spools s r spool empty_spool other })

at_or_beside : (spools : List SpoolValue) (s r : ℕ) (spool : SpoolValue) → s < length spools →
    At spools s r spool ⊎ Beside spools s r spool
at_or_beside spools s r spool within = at_or_beside_spool spools s r spool (nat_eq r s) refl within

-- a row of a call
record CallChanges (old : TributaryValue) (called : Called) (step : TributaryStep) : Type 0 where
  keeps : Keeps old step.tributary
  mode : IsModeCalled called step.tributary.mode
  other_spools : (s : ℕ) → step.tributary.mode ≢ Receiving s → spool_at step.tributary.spools s
      ≡ spool_at old.spools s
  same_records : (s : ℕ) → (spool_at step.tributary.spools s).records
      ≡ (spool_at old.spools s).records
  gives_up_line : called ≡ Other → (step.tributary.mode ≡ Control) × (step.sent ≡ None)

keeps_all_but_urgent : (t : TributaryValue) (urgent : Bool)
    → Keeps t (record (without_line t) { urgent = urgent })
keeps_all_but_urgent t urgent =
    record {
      terminal = refl;
      setup = refl;
      ready = refl;
      format = refl;
      offered = refl;
      spools =
          refl;
    }

polled_changes : (t : TributaryValue) → CallChanges t Polling (poll_step t)
polled_changes t =
    let d : TributaryValue = record (without_line t) { urgent = false } in
    let f : FollowsFrom Control (length t.spools) d.sender d.queue
    (begin_step d.sender d.queue) = follows_sent_next Control (length t.spools) d.sender d.queue Odd
    (next_block d.queue) in
    let eot : CallChanges t Polling
    (answer_step d m.Eot) =
    record {
      keeps = keeps_all_but_urgent t false;
      mode = inl refl;
      other_spools = λ s ne. refl;
      same_records = λ s. refl;
      gives_up_line = λ e. absurd (cc);
    } in
    either_branch (CallChanges t Polling) (is_in_doubt d.sender.phase) (answer_step d m.Eot) _ eot
    (either_branch (CallChanges t Polling) (nat_eq (length (waiting d.queue)) 0) (answer_step d m.Eot)
    (act_step d (begin_step d.sender d.queue)) eot
    (record {
      keeps =
          record {
            terminal = refl;
            setup = f.setup_is;
            ready = refl;
            format = f.format_is;
            offered = f.offered_is;
            spools = refl;
          };
      mode = begun_mode d.sender d.queue Odd (next_block d.queue);
      other_spools = λ s ne. refl;
      same_records = λ s. refl;
      gives_up_line = λ e. absurd (cc);
    }))

selected_changes : (t : TributaryValue) (s : ℕ) (room ready : Bool) → s < length t.spools →
    CallChanges (record t { ready = ready }) (Selection s)
    (selection_step (record t { ready = ready }) s room)
selected_changes t s room true within =
    record {
      keeps =
          record {
            terminal = refl;
            setup = refl;
            ready = refl;
            format = refl;
            offered = refl;
            spools = length-set t.spools s (room_asked (spool_at t.spools s) room);
          };
      mode = inr refl;
      other_spools =
          λ r ne. get_or-set_other t.spools s r (room_asked (spool_at t.spools s) room) empty_spool
          (λ same. ne (ap (λ n. Receiving n) (sym same)));
      same_records =
          λ r. elim (at_or_beside t.spools s r (room_asked (spool_at t.spools s) room) within) [
            | inl at ↦ ap (λ (x : SpoolValue). x.records) at.is
                ∙ ap (λ n. (spool_at t.spools n).records) (sym at.same)
            | inr beside ↦ ap (λ (x : SpoolValue). x.records) beside.is
          ];
      gives_up_line = λ e. absurd (cc);
    }
selected_changes t s room false within =
    record {
      keeps = keeps_all_but_urgent
          (record t { ready = false }) t.urgent;
      mode = inl refl;
      other_spools = λ r ne. refl;
      same_records = λ r. refl;
      gives_up_line = λ e. absurd (cc);
    }

changes_of_other_call : (t : TributaryValue) → CallChanges t Other (quiet_step (without_line t))
changes_of_other_call t =
    record {
      keeps = keeps_all_but_urgent t t.urgent;
      mode = refl;
      other_spools = λ s ne. refl;
      same_records =
          λ s. refl;
      gives_up_line = λ e. (refl, refl);
    }

call_changes : (t : TributaryValue) (address : List ℕ) (called : Called) (rooms : Rooms) →
    called ≡ called_as t.terminal address → IsTributary t
    → CallChanges t called (call_step t called rooms)
call_changes t address Polling rooms e is = polled_changes t
call_changes t address (Selection s) rooms e is =
    let within : s < length t.terminal.selects = within_selects t.terminal address s e in
    selected_changes t s rooms.first t.ready (omega (arith, is.spools))
call_changes t address Other rooms e is = changes_of_other_call t

from_call : (t : TributaryValue) (address : List ℕ) (step : TributaryStep) →
    CallChanges t (called_as t.terminal address) step → Changes t (Whole (m.Call address)) step
from_call t address step c =
    record {
      keeps = c.keeps;
      mode = c.mode;
      other_spools = c.other_spools;
      grows = λ s. inl (c.same_records s);
      gives_up_line = c.gives_up_line;
      control = λ e plain. absurd plain;
      noise = λ e. absurd (cc);
    }

-- a row of a mode
record ModeChanges (old : TributaryValue) (h : Heard) (step : TributaryStep) : Type 0 where
  keeps : Keeps old step.tributary
  mode : (step.tributary.mode ≡ Control) ⊎ (step.tributary.mode ≡ old.mode)
  other_spools : (s : ℕ) → step.tributary.mode ≢ Receiving s → spool_at step.tributary.spools s
      ≡ spool_at old.spools s
  grows : (s : ℕ)
      → GrowsByText old.mode h s (spool_at old.spools s).records
      (spool_at step.tributary.spools s).records
  control : old.mode ≡ Control → StaysQuiet old step.tributary step.sent

control_changes : (t : TributaryValue) (h : Heard) → ModeChanges t h (quiet_step t)
control_changes t h =
    record {
      keeps =
          record {
            terminal = refl;
            setup = refl;
            ready = refl;
            format = refl;
            offered = refl;
            spools = refl;
          };
      mode = inr refl;
      other_spools = λ s ne. refl;
      grows = λ s. inl refl;
      control = λ e. (refl, refl);
    }

receiver_grows_spool : (mode : Mode) (h : Heard) (s r : ℕ) (spools : List SpoolValue) (step : ReceiverStep)
    → mode ≡ Receiving s →
    s < length spools → Grows h (spool_at spools s) step →
    GrowsByText mode h r (spool_at spools r).records
    (spool_at (slice_set spools s step.spool) r).records
receiver_grows_spool mode h s r spools step is within grows =
    elim (at_or_beside spools s r step.spool within) [
      | inr beside ↦ inl (ap (λ (x : SpoolValue). x.records) beside.is)
      | inl at ↦ elim grows [
        | inl same ↦ inl (ap (λ (x : SpoolValue). x.records) at.is ∙ same
            ∙ ap (λ n. (spool_at spools n).records)
            (sym at.same))
        | inr grown ↦ inr (record {
          text = grown.text;
          heard = grown.heard;
          receiving = is ∙ ap (λ n. Receiving n) (sym at.same);
          becomes = ap (λ (x : SpoolValue). x.records) at.is ∙ grown.becomes
              ∙ ap (λ n. (spool_at spools n).records ++ records_in grown.text.units) (sym at.same);
        })
      ]
    ]

receiving_changes : (t : TributaryValue) (h : Heard) (s : ℕ) (step : ReceiverStep) → t.mode
    ≡ Receiving s →
    s < length t.spools → Grows h (spool_at t.spools s) step
    → ModeChanges t h (receive_step t s step)
receiving_changes t h s step is within grows =
    record {
      keeps =
          record {
            terminal = refl;
            setup = refl;
            ready = refl;
            format = refl;
            offered = refl;
            spools = length-set t.spools s step.spool;
          };
      mode = inr refl;
      other_spools = λ r ne. get_or-set_other t.spools s r step.spool empty_spool
          (λ same. ne (is ∙ ap (λ n. Receiving n) (sym same)));
      grows = λ r. receiver_grows_spool t.mode h s r t.spools step is within grows;
      control = λ e. absurd (cc);
    }

sending_changes : (t : TributaryValue) (h : Heard) (step : SenderStep) → t.mode ≡ Sending →
    FollowsFrom Sending (length t.spools) t.sender t.queue step → ModeChanges t h (act_step t step)
sending_changes t h step is f =
    record {
      keeps =
          record {
            terminal = refl;
            setup = f.setup_is;
            ready = refl;
            format = f.format_is;
            offered = f.offered_is;
            spools = refl;
          };
      mode =
          subst (λ (x : Mode). (mode_after step.act x ≡ Control) ⊎ (mode_after step.act x ≡ x))
          (sym is)
          (mode_after_sending step.act);
      other_spools = λ s ne. refl;
      grows = λ s. inl refl;
      control = λ e. absurd (cc);
    }

mode_changes : (t : TributaryValue) (h : Heard) (mode : Mode) (rooms : Rooms) → t.mode ≡ mode →
    SuitsMode mode t.sender.phase (length t.spools) → ModeChanges t h (mode_step t mode h rooms)
mode_changes t h Control rooms is suits = control_changes t h
mode_changes t h (Receiving s) rooms is suits = receiving_changes t h s
    (heard_step t.receiver (spool_at t.spools s) h t.urgent rooms) is suits.1
    (grows_heard_step t.receiver (spool_at t.spools s) h t.urgent rooms)
mode_changes t h Sending rooms is suits =
    sending_changes t h (reply_step t.sender t.queue (reply_in h)) is
    (follows_reply_step (length t.spools) t.sender t.queue (reply_in h) suits)

mode_is_after : (t : TributaryValue) (h : Heard) (mode : Mode) → IsNoCall h → (mode ≡ Control)
    ⊎ (mode ≡ t.mode) →
    IsModeAfter t h mode
mode_is_after t (Whole m.Eot) mode plain either = absurd plain
mode_is_after t (Whole (m.Call address)) mode plain either = absurd plain
mode_is_after t Failed mode plain either = either
mode_is_after t Noise mode plain either = either
mode_is_after t (Whole (m.Text text)) mode plain either = either
mode_is_after t (Whole m.Enq) mode plain either = either
mode_is_after t (Whole (m.Reply r)) mode plain either = either

line_not_taken_without_call : (t : TributaryValue) (h : Heard) → IsNoCall h → TakesLine t.terminal h → ⊥
line_not_taken_without_call t (Whole m.Eot) plain takes = plain
line_not_taken_without_call t (Whole (m.Call address)) plain takes = plain
line_not_taken_without_call t Failed plain takes = takes
line_not_taken_without_call t Noise plain takes = takes
line_not_taken_without_call t (Whole (m.Text text)) plain takes = takes
line_not_taken_without_call t (Whole m.Enq) plain takes = takes
line_not_taken_without_call t (Whole (m.Reply r)) plain takes = takes

noise_quiet : (t : TributaryValue) (h : Heard) (mode : Mode) (rooms : Rooms) → h ≡ Noise →
    StaysQuiet t (mode_step t mode h rooms).tributary (mode_step t mode h rooms).sent
noise_quiet t h mode rooms e =
    let same : mode_step t mode h rooms ≡ quiet_step t =
    ap (λ (x : Heard). mode_step t mode x rooms) e
    ∙ quiet_on_noise_in_mode t mode rooms in
    (ap (λ (o : TributaryStep). o.tributary) same, ap (λ (o : TributaryStep). o.sent) same)

from_mode : (t : TributaryValue) (h : Heard) (rooms : Rooms) → IsNoCall h → IsTributary t →
    Changes t h (hear_step t h rooms)
from_mode t h rooms plain is =
    let c : ModeChanges t h (mode_step t t.mode h rooms) =
    mode_changes t h t.mode rooms refl is.bid in
    subst (Changes t h) (sym (hear_step_no_call t h rooms plain))
    (record {
      keeps = c.keeps;
      mode = mode_is_after t h (mode_step t t.mode h rooms).tributary.mode plain c.mode;
      other_spools = c.other_spools;
      grows = c.grows;
      gives_up_line = λ takes. absurd (line_not_taken_without_call t h plain takes);
      control = λ e also. c.control e;
      noise = λ e. noise_quiet t h t.mode rooms e;
    })

changes_of_heard : (t : TributaryValue) (h : Heard) (rooms : Rooms) → IsTributary t
    → Changes t h (hear_step t h rooms)
changes_of_heard t (Whole m.Eot) rooms is =
    record {
      keeps = keeps_all_but_urgent t t.urgent;
      mode = refl;
      other_spools = λ s ne. refl;
      grows = λ s. inl refl;
      gives_up_line = λ takes. (refl, refl);
      control = λ e plain. absurd plain;
      noise = λ e. absurd (cc);
    }
changes_of_heard t (Whole (m.Call address)) rooms is =
    from_call t address (call_step t (called_as t.terminal address) rooms)
    (call_changes t address (called_as t.terminal address) rooms refl is)
changes_of_heard t Failed rooms is = from_mode t Failed rooms tt is
changes_of_heard t Noise rooms is = from_mode t Noise rooms tt is
changes_of_heard t (Whole (m.Text text)) rooms is = from_mode t (Whole (m.Text text)) rooms tt is
changes_of_heard t (Whole m.Enq) rooms is = from_mode t (Whole m.Enq) rooms tt is
changes_of_heard t (Whole (m.Reply r)) rooms is = from_mode t (Whole (m.Reply r)) rooms tt is

-- what holds of a terminal after it heard a transmission
pub holds_after_hearing : (old : TributaryValue) (h : Heard) (new : TributaryValue)
    (sent : Option Message) →
    IsTributary old → IsTributary new → Hears old h new sent → AfterHearing old h new sent
holds_after_hearing old h new sent was is hears =
    let c : Changes old h (record { tributary = new; sent = sent }) =
    subst (Changes old h) (sym hears.row)
    (changes_of_heard old h (rooms_after h new) was) in
    record {
      tributary = is;
      keeps = c.keeps;
      mode = c.mode;
      other_spools = c.other_spools;
      grows =
          c.grows;
      gives_up_line = c.gives_up_line;
      control = c.control;
      noise = c.noise;
    }

-- EOT is heard
pub hears_eot : (t old : TributaryValue) (sender : SenderValue) → t ≡ old → IsTributary t →
    sender ≡ with_phase t.sender (cut_phase t.sender.phase) → IsReady sender t.queue →
    IsHearing old (Whole m.Eot) (record t { mode = Control; sender = sender }) None
hears_eot t old sender view is cut ready =
    let new : TributaryValue = record t { mode = Control; sender = sender } in
    let row : record { tributary = new; sent = None }
    ≡ hear_step t (Whole m.Eot) (rooms_after (Whole m.Eot) new) = ap
    (λ (s : SenderValue). quiet_step (record t { mode = Control; sender = s })) cut in
    let hears : Hears t (Whole m.Eot) new None =
    record { row = row; room = λ s e had. absurd (cc) } in
    subst (λ (v : TributaryValue). IsHearing v (Whole m.Eot) new None) view
    (record {
      row = hears;
      after =
          holds_after_hearing t (Whole m.Eot) new None is (stays_without_line t sender is cut ready)
          hears;
    })

-- what holds of a terminal after a silence
pub holds_after_silence : (t old : TributaryValue) (mode : Mode) (step : SenderStep)
    (sent : Option Message) → t ≡ old →
    IsTributary t → t.mode ≡ Sending → step ≡ silence_step t.sender t.queue → mode
    ≡ mode_after step.act t.mode →
    IsTributary (record t { mode = mode; sender = step.sender; queue = step.queue }) →
    AfterSilence old (record t { mode = mode; sender = step.sender; queue = step.queue }) sent
holds_after_silence t old mode step sent view was sending row mode_is is =
    let f : FollowsFrom Sending (length t.spools) t.sender t.queue step = subst
    (FollowsFrom Sending (length t.spools) t.sender t.queue) (sym row)
    (follows_silence_step (length t.spools) t.sender t.queue
    (subst (λ (x : Mode). SuitsMode x t.sender.phase (length t.spools)) sending was.bid)) in
    subst (λ (v : TributaryValue). AfterSilence v
    (record t { mode = mode; sender = step.sender; queue = step.queue })
    sent) view
    (record {
      tributary = is;
      keeps =
          record {
            terminal = refl;
            setup = f.setup_is;
            ready = refl;
            format = f.format_is;
            offered = f.offered_is;
            spools = refl;
          };
      mode = subst (λ (x : Mode). (x ≡ Control) ⊎ (x ≡ t.mode)) (sym mode_is)
          (subst (λ (x : Mode). (mode_after step.act x ≡ Control) ⊎ (mode_after step.act x ≡ x))
          (sym sending)
          (mode_after_sending step.act));
      spools = refl;
      still = λ ne. absurd (ne sending);
    })

pub holds_after_no_act : (t old : TributaryValue) → t ≡ old → IsTributary t → AfterSilence old old None
holds_after_no_act t old view is =
    record {
      tributary = subst IsTributary view is;
      keeps =
          record {
            terminal = refl;
            setup = refl;
            ready = refl;
            format = refl;
            offered = refl;
            spools = refl;
          };
      mode = inr refl;
      spools = refl;
      still = λ ne. (refl, refl);
    }
