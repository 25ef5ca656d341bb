-- What the stations' steps leave of the queues: only a reply heard in a bid changes one.
use Rattle.std.proofs.Common.{◌≡◌, ◌⊎◌, inl, inr, ℕ, ◌+◌, Bool, true, false, nat_lt, nat_eq, length}
use Rattle.std.proofs.Common.{Option, None, Some, slice_set, refl, ◌∙◌, ap, if◌then◌else◌}
use Rattle.bsc_frame.specs.declared.message.Message.{Message}
use Rattle.bsc_frame.specs.declared.message.Message.TheVariants as m
use Rattle.bsc_frame.specs.declared.reply.Reply.TheVariants.{Nak}
use Rattle.bsc_frame.specs.declared.message.Heard.{Heard}
use Rattle.bsc_frame.specs.declared.message.Heard.TheVariants.{Whole, Failed, Noise}
use Rattle.bsc_spool.specs.declared.queue.Next.{Next}
use Rattle.bsc_spool.specs.Queue.{QueueValue, waiting, next_block}
use Rattle.bsc_spool.specs.Spool.{room_asked}
use Rattle.bsc_bid.specs.Act.{Act}
use Rattle.bsc_bid.specs.Act as a
use Rattle.bsc_bid.specs.declared.alternation.Alternation.TheVariants.{Odd}
use Rattle.bsc_bid.specs.declared.phase.Phase.{Phase}
use Rattle.bsc_bid.specs.declared.phase.Phase.TheVariants.{Idle, Unanswered, Held, InDoubt}
use Rattle.bsc_frame.specs.Replies.{reply_in}
use Rattle.bsc_bid.specs.Receiver.{Rooms, new_receiver, first_reply}
use Rattle.bsc_bid.specs.Sender.{SenderValue, with_counts, over, sent_next, begin_step, reply_step}
use Rattle.bsc_bid.specs.Sender.{failed, silence_in as sender_silence, silence_step, is_in_doubt}
use Rattle.bsc_tributary.specs.declared.called.Called.{Called}
use Rattle.bsc_tributary.specs.declared.called.Called.TheVariants as called
use Rattle.bsc_tributary.specs.declared.mode.Mode.{Mode}
use Rattle.bsc_tributary.specs.declared.mode.Mode.TheVariants.{Control, Receiving, Sending}
use Rattle.bsc_tributary.specs.Called.{called_as}
use Rattle.bsc_tributary.specs.Kept.{IsNoCall}
use Rattle.bsc_tributary.proofs.InMode.{hear_step_no_call}
use Rattle.bsc_tributary.specs.Tributary.{TributaryValue, TributaryStep, Hears, ActsOnSilence}
use Rattle.bsc_tributary.specs.Tributary.{spool_at, without_line, answer_step, act_step, poll_step}
use Rattle.bsc_tributary.specs.Tributary.{selection_step, call_step, mode_step, silence_in}
use Rattle.bsc_tributary.specs.Tributary.{rooms_after}

-- the beginning of a bid leaves the queue unchanged
pub begin_queue : (s : SenderValue) (q : QueueValue) → (begin_step s q).queue ≡ q
begin_queue s q = by_next (next_block q)
  where
    by_next : (n : Option Next) → (sent_next s q Odd n).queue ≡ q
    by_next None = refl
    by_next (Some n) = refl

-- and so does a failure
failed_queue : (s : SenderValue) (q : QueueValue) (left : Phase) (act : Act)
    → (failed s q left act).queue ≡ q
failed_queue s q left act = by_test (nat_lt s.setup.tries (s.failures + 1))
  where
    by_test : (b : Bool)
        → (if b then over (with_counts s (s.failures + 1) s.wacks) q left
        else record { sender = with_counts s (s.failures + 1) s.wacks; queue = q; act = act }).queue
        ≡ q
    by_test true = refl
    by_test false = refl

-- and a silence
pub silence_queue : (s : SenderValue) (q : QueueValue) → (silence_step s q).queue ≡ q
silence_queue s q = by_phase s.phase
  where
    by_phase : (phase : Phase) → (sender_silence s q phase).queue ≡ q
    by_phase Idle = refl
    by_phase (InDoubt k) = refl
    by_phase (Unanswered b) = failed_queue s q (InDoubt b.count) a.Enq
    by_phase (Held end x) = failed_queue s q Idle a.Enq

-- a call leaves a terminal's queue unchanged
poll_queue : (x : TributaryValue) → (poll_step x).tributary.queue ≡ x.queue
poll_queue x =
    by_tests (is_in_doubt (without_line x).sender.phase) (nat_eq (length (waiting x.queue)) 0)
  where
    by_tests : (doubt none : Bool) →
        (if doubt then answer_step (record (without_line x) { urgent = false }) m.Eot
        else if none then answer_step (record (without_line x) { urgent = false }) m.Eot
        else act_step (record (without_line x) { urgent = false })
        (begin_step (without_line x).sender x.queue)).tributary.queue ≡ x.queue
    by_tests true none = refl
    by_tests false true = refl
    by_tests false false = begin_queue (without_line x).sender x.queue

selection_queue : (x : TributaryValue) (s : ℕ) (room : Bool)
    → (selection_step x s room).tributary.queue ≡ x.queue
selection_queue x s room = by_ready x.ready
  where
    by_ready : (ready : Bool) →
        (if ready then answer_step (record (without_line x) {
          mode = Receiving s;
          receiver = new_receiver room;
          spools =
              slice_set x.spools s (room_asked (spool_at x.spools s) room);
        })
        (m.Reply (first_reply room))
        else answer_step (without_line x) (m.Reply Nak)).tributary.queue ≡ x.queue
    by_ready true = refl
    by_ready false = refl

call_queue : (x : TributaryValue) (c : Called) (rooms : Rooms)
    → (call_step x c rooms).tributary.queue ≡ x.queue
call_queue x called.Polling rooms = poll_queue x
call_queue x (called.Selection s) rooms = selection_queue x s rooms.first
call_queue x called.Other rooms = refl

-- a terminal's queue once it has heard this: unchanged, or as a reply leaves it while the terminal
-- sends
pub record LearnsUp (x : TributaryValue) (h : Heard) (u : TributaryValue) : Type 0 where
  pub mode : x.mode ≡ Sending
  pub no_call : IsNoCall h
  pub queue : u.queue ≡ (reply_step x.sender x.queue (reply_in h)).queue

abbrev pub QueueHears : TributaryValue → Heard → TributaryValue → Type 0
QueueHears x h u = (u.queue ≡ x.queue) ⊎ LearnsUp x h u

no_call_queue : (x u : TributaryValue) (h : Heard) (out : Option Message) → IsNoCall h
    → Hears x h u out → QueueHears x h u
no_call_queue x u h out never row =
    in_mode x.mode refl (ap (λ (o : TributaryStep). o.tributary.queue)
    (row.row ∙ hear_step_no_call x h (rooms_after h u) never))
  where
    in_mode : (mode : Mode) → x.mode ≡ mode → u.queue
        ≡ (mode_step x mode h (rooms_after h u)).tributary.queue → QueueHears x h u
    in_mode Control is same = inl same
    in_mode (Receiving s) is same = inl same
    in_mode Sending is same = inr (record { mode = is; no_call = never; queue = same })

pub terminal_queue : (x u : TributaryValue) (h : Heard) (out : Option Message) → Hears x h u out
    → QueueHears x h u
terminal_queue x u (Whole m.Eot) out row =
    inl (ap (λ (o : TributaryStep). o.tributary.queue) row.row)
terminal_queue x u (Whole (m.Call z)) out row =
    inl (ap (λ (o : TributaryStep). o.tributary.queue) row.row
    ∙ call_queue x (called_as x.terminal z) (rooms_after (Whole (m.Call z)) u))
terminal_queue x u (Whole (m.Text b)) out row = no_call_queue x u (Whole (m.Text b)) out tt row
terminal_queue x u (Whole m.Enq) out row = no_call_queue x u (Whole m.Enq) out tt row
terminal_queue x u (Whole (m.Reply r)) out row = no_call_queue x u (Whole (m.Reply r)) out tt row
terminal_queue x u Failed out row = no_call_queue x u Failed out tt row
terminal_queue x u Noise out row = no_call_queue x u Noise out tt row

-- a silence leaves the queue unchanged
pub terminal_silent_queue : (x u : TributaryValue) (out : Option Message) → ActsOnSilence x u out
    → u.queue ≡ x.queue
terminal_silent_queue x u out row = ap (λ (o : TributaryStep). o.tributary.queue) row
    ∙ in_mode x.mode
  where
    in_mode : (mode : Mode) → (silence_in x mode).tributary.queue ≡ x.queue
    in_mode Control = refl
    in_mode (Receiving s) = refl
    in_mode Sending = silence_queue x.sender x.queue
