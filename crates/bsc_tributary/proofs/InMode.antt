-- What is heard in a mode: each answer is the row of the table.
use Rattle.std.proofs.Common.{◌≡◌, ◌∙◌, ◌⊎◌, inl, inr, ℕ, sym, ap, subst, refl, Bool, false, List}
use Rattle.std.proofs.Common.{length, slice_set, Option, None, option_map, if◌then◌else◌}
use Rattle.std.proofs.lemmas.List.{length-set}
use Rattle.bsc_frame.specs.declared.message.Message.{Message}
use Rattle.bsc_frame.specs.declared.message.Message.TheVariants as m
use Rattle.bsc_frame.specs.declared.message.Heard.{Heard}
use Rattle.bsc_frame.specs.declared.message.Heard.TheVariants.{Whole, Failed, Noise}
use Rattle.bsc_spool.specs.Spool.{SpoolValue}
use Rattle.bsc_frame.specs.declared.reply.Reply.{Reply}
use Rattle.bsc_bid.specs.Ready.{IsReady}
use Rattle.bsc_frame.specs.Replies.{reply_in}
use Rattle.bsc_bid.specs.Receiver.{ReceiverValue, ReceiverStep, Receives, Rooms, rooms_left}
use Rattle.bsc_bid.specs.Receiver.{sends_interrupt}
use Rattle.bsc_bid.specs.Sender.{SenderStep, reply_step, silence_step}
use Rattle.bsc_tributary.specs.declared.mode.Mode.{Mode}
use Rattle.bsc_tributary.specs.declared.mode.Mode.TheVariants.{Control, Receiving, Sending}
use Rattle.bsc_tributary.specs.Tributary.{TributaryValue, spool_at, spool_in, rooms_after}
use Rattle.bsc_tributary.specs.Tributary.{mode_after, message_of_act, act_step, receive_step}
use Rattle.bsc_tributary.specs.Tributary.{mode_step, hear_step, silence_in, Hears, ActsOnSilence}
use Rattle.bsc_tributary.specs.Kept.{IsTributary, SuitsMode, IsNoCall}
use Rattle.bsc_tributary.proofs.Acts.{FollowsFrom, follows_reply_step, follows_silence_step}
use Rattle.bsc_tributary.proofs.Acts.{mode_after_sending, not_receiving}
use Rattle.bsc_tributary.proofs.Stays.{stays_act_step}

-- a transmission that is neither a call nor EOT is heard by the row of the mode
pub hear_step_no_call : (t : TributaryValue) (h : Heard) (rooms : Rooms) → IsNoCall h →
    hear_step t h rooms ≡ mode_step t t.mode h rooms
hear_step_no_call t (Whole m.Eot) rooms plain = absurd plain
hear_step_no_call t (Whole (m.Call address)) rooms plain = absurd plain
hear_step_no_call t Failed rooms plain = refl
hear_step_no_call t Noise rooms plain = refl
hear_step_no_call t (Whole (m.Text text)) rooms plain = refl
hear_step_no_call t (Whole m.Enq) rooms plain = refl
hear_step_no_call t (Whole (m.Reply r)) rooms plain = refl

pub hears_control : (t old : TributaryValue) (h : Heard) → IsNoCall h → t ≡ old → t.mode ≡ Control →
    Hears old h old None
hears_control t old h plain view control =
    let mode : old.mode ≡ Control = ap (λ (v : TributaryValue). v.mode) (sym view) ∙ control in
    record {
      row = ap (λ (mode : Mode). mode_step old mode h (rooms_after h old)) (sym mode)
          ∙ sym (hear_step_no_call old h (rooms_after h old) plain);
      room = λ s is had. absurd (cc);
    }

-- the terminal after a step of its receiver
abbrev pub with_receiver : TributaryValue → Bool → ReceiverValue → List SpoolValue → TributaryValue
with_receiver t urgent receiver spools =
    record t { urgent = urgent; receiver = receiver; spools = spools }

pub hears_receiving : (t old : TributaryValue) (h : Heard) (s : ℕ) (urgent : Bool)
    (receiver : ReceiverValue)
    (spools : List SpoolValue) (reply : Option Reply) (sent : Option Message) → IsNoCall h → t ≡ old
    →
    t.mode ≡ Receiving s →
    Receives t.receiver (spool_at t.spools s) h t.urgent
    (record { receiver = receiver; spool = spool_at spools s; reply = reply }) →
    spools ≡ slice_set t.spools s (spool_at spools s) →
    urgent ≡ (if sends_interrupt reply then false else t.urgent) → sent ≡ option_map m.Reply reply →
    Hears old h (with_receiver t urgent receiver spools) sent
hears_receiving t old h s urgent receiver spools reply sent plain view mode r spools_is urgent_is
    sent_is =
    let out : ReceiverStep =
    record { receiver = receiver; spool = spool_at spools s; reply = reply } in
    let done : record { tributary = with_receiver t urgent receiver spools; sent = sent }
    ≡ receive_step t s out =
    ap (λ (xs : List SpoolValue). record {
      tributary = with_receiver t urgent receiver xs;
      sent =
          sent;
    }) spools_is
    ∙ ap (λ (b : Bool). record {
      tributary = with_receiver t b receiver
          (slice_set t.spools s (spool_at spools s));
      sent = sent;
    }) urgent_is
    ∙ ap (λ (o : Option Message). record { tributary = (receive_step t s out).tributary; sent = o })
    sent_is in
    let row : record { tributary = with_receiver t urgent receiver spools; sent = sent }
    ≡ hear_step t h
    (rooms_after h (with_receiver t urgent receiver spools)) =
    done ∙ ap (receive_step t s) r.row ∙ ap (λ (mode : Mode). mode_step t mode h
    (rooms_left h receiver.last (spool_in mode spools))) (sym mode)
    ∙ sym (hear_step_no_call t h (rooms_after h (with_receiver t urgent receiver spools)) plain) in
    let heard : Hears t h (with_receiver t urgent receiver spools) sent =
    record {
      row = row;
      room = λ k is had.
          let same : k ≡ s = cc in
          ap (λ (mode : Mode). (rooms_left h receiver.last (spool_in mode spools)).first) mode
          ∙ r.room (ap (λ n. (spool_at t.spools n).room) (sym same) ∙ had);
    } in
    subst (λ (v : TributaryValue). Hears v h (with_receiver t urgent receiver spools) sent) view
    heard

pub stays_receive_step : (t : TributaryValue) (s : ℕ) (urgent : Bool) (receiver : ReceiverValue)
    (spools : List SpoolValue) → IsTributary t → spools ≡ slice_set t.spools s (spool_at spools s) →
    IsTributary (with_receiver t urgent receiver spools)
stays_receive_step t s urgent receiver spools is spools_is =
    let same : length spools ≡ length t.spools = ap (λ (xs : List SpoolValue). length xs) spools_is
    ∙ length-set t.spools s (spool_at spools s) in
    record {
      distinct = is.distinct;
      terminal = is.terminal;
      spools = same ∙ is.spools;
      format = is.format;
      ready = is.ready;
      bid = subst (SuitsMode t.mode t.sender.phase) (sym same) is.bid;
    }

-- the terminal after a step of its sender
abbrev pub with_sender : TributaryValue → Mode → SenderStep → TributaryValue
with_sender t mode step = record t { mode = mode; sender = step.sender; queue = step.queue }

act_step_is : (t : TributaryValue) (mode : Mode) (step : SenderStep) (sent : Option Message) →
    mode ≡ mode_after step.act t.mode → sent ≡ message_of_act step.act →
    record { tributary = with_sender t mode step; sent = sent } ≡ act_step t step
act_step_is t mode step sent mode_is sent_is = rw (mode_is, sent_is) refl

pub hears_sending : (t old : TributaryValue) (h : Heard) (mode : Mode) (step : SenderStep)
    (sent : Option Message) →
    IsNoCall h → t ≡ old → t.mode ≡ Sending → step ≡ reply_step t.sender t.queue (reply_in h) →
    mode ≡ mode_after step.act t.mode → sent ≡ message_of_act step.act
    → Hears old h (with_sender t mode step) sent
hears_sending t old h mode step sent plain view sending row mode_is sent_is =
    let new : TributaryValue = with_sender t mode step in
    let heard : Hears t h (with_sender t mode step) sent =
    record {
      row = act_step_is t mode step sent mode_is sent_is ∙ ap (act_step t) row
          ∙ ap (λ (mode : Mode). mode_step t mode h (rooms_after h new)) (sym sending)
          ∙ sym (hear_step_no_call t h (rooms_after h new) plain);
      room = λ s is had. absurd (not_receiving mode s
          (subst (λ (x : Mode). (x ≡ Control) ⊎ (x ≡ Sending))
          (ap (mode_after step.act) (sym sending) ∙ sym mode_is)
          (mode_after_sending step.act)) is);
    } in
    subst (λ (v : TributaryValue). Hears v h (with_sender t mode step) sent) view heard

pub stays_replied : (t : TributaryValue) (h : Heard) (mode : Mode) (step : SenderStep)
    → IsTributary t →
    t.mode ≡ Sending → step ≡ reply_step t.sender t.queue (reply_in h) → mode
    ≡ mode_after step.act t.mode →
    IsReady step.sender step.queue → IsTributary (with_sender t mode step)
stays_replied t h mode step is sending row mode_is ready =
    stays_act_step t mode Sending step is (mode_is ∙ ap (mode_after step.act) sending)
    (subst (FollowsFrom Sending (length t.spools) t.sender t.queue) (sym row)
    (follows_reply_step (length t.spools) t.sender t.queue (reply_in h)
    (subst (λ (x : Mode). SuitsMode x t.sender.phase (length t.spools)) sending is.bid))) ready

-- a silence
pub silent_sending : (t old : TributaryValue) (mode : Mode) (step : SenderStep)
    (sent : Option Message) → t ≡ old →
    t.mode ≡ Sending → step ≡ silence_step t.sender t.queue → mode ≡ mode_after step.act t.mode →
    sent ≡ message_of_act step.act → ActsOnSilence old (with_sender t mode step) sent
silent_sending t old mode step sent view sending row mode_is sent_is =
    act_step_is t mode step sent mode_is sent_is ∙ ap (act_step t) row
    ∙ ap (silence_in t) (sym sending)
    ∙ ap (λ (v : TributaryValue). silence_in v v.mode) view

pub stays_silent : (t : TributaryValue) (mode : Mode) (step : SenderStep) → IsTributary t → t.mode
    ≡ Sending →
    step ≡ silence_step t.sender t.queue → mode ≡ mode_after step.act t.mode
    → IsReady step.sender step.queue →
    IsTributary (with_sender t mode step)
stays_silent t mode step is sending row mode_is ready =
    stays_act_step t mode Sending step is (mode_is ∙ ap (mode_after step.act) sending)
    (subst (FollowsFrom Sending (length t.spools) t.sender t.queue) (sym row)
    (follows_silence_step (length t.spools) t.sender t.queue
    (subst (λ (x : Mode). SuitsMode x t.sender.phase (length t.spools)) sending is.bid))) ready

pub no_act_on_silence_in_mode : (t old : TributaryValue) → t ≡ old → (t.mode ≡ Control)
    ⊎ ((s : ℕ) × (t.mode ≡ Receiving s)) →
    ActsOnSilence old old None
no_act_on_silence_in_mode t old view (inl control) = ap (silence_in old)
    (sym (ap (λ (v : TributaryValue). v.mode) (sym view) ∙ control))
no_act_on_silence_in_mode t old view (inr receiving) = ap (silence_in old)
    (sym (ap (λ (v : TributaryValue). v.mode) (sym view) ∙ receiving.1))
