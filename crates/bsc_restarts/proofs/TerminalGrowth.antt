-- A terminal that hears a transmission, or acts on a silence, knows at least as many of its records
-- to have arrived, and has all records that it had.
use Rattle.std.proofs.Common.{◌≡◌, ◌∙◌, ◌≤◌, ◌-◌, ℕ, nat_eq, nat_lt, false, List, [], length}
use Rattle.std.proofs.Common.{Option, sym, ap, subst, append-nil, inl, inr, if◌then◌else◌}
use Rattle.bsc_frame.specs.declared.message.Message.{Message}
use Rattle.bsc_frame.specs.declared.message.Message.TheVariants as m
use Rattle.bsc_frame.specs.declared.message.Heard.{Heard}
use Rattle.bsc_frame.specs.declared.message.Heard.TheVariants.{Failed, Noise, Whole}
use Rattle.bsc_frame.specs.Replies.{reply_in}
use Rattle.bsc_block.specs.Blocks.{records_in}
use Rattle.bsc_spool.specs.Queue.{waiting}
use Rattle.bsc_bid.specs.Receiver.{Rooms}
use Rattle.bsc_bid.specs.Sender.{begin_step, is_in_doubt}
use Rattle.bsc_bid.proofs.Choice.{either_branch}
use Rattle.bsc_tributary.specs.declared.called.Called.{Called}
use Rattle.bsc_tributary.specs.declared.called.Called.TheVariants.{Other, Polling, Selection}
use Rattle.bsc_tributary.specs.declared.mode.Mode.{Mode}
use Rattle.bsc_tributary.specs.declared.mode.Mode.TheVariants.{Control, Receiving, Sending}
use Rattle.bsc_tributary.specs.Called.{called_as}
use Rattle.bsc_tributary.specs.Kept.{GrowsByText}
use Rattle.bsc_tributary.specs.Tributary.{TributaryStep, TributaryValue, act_step, call_step}
use Rattle.bsc_tributary.specs.Tributary.{hear_step, mode_step, poll_step, rooms_after, silence_in}
use Rattle.bsc_tributary.specs.Tributary.{spool_at, without_line}
use Rattle.bsc_station.specs.LineTerminal.{Acts, Hears, LineTerminalValue}
use Rattle.bsc_restarts.proofs.Ends.{ReceivedGrows, grown_where, grows_not}
use Rattle.bsc_restarts.proofs.Growing.{KnowsMore, begin_knows, knows_as_many, reply_knows}
use Rattle.bsc_restarts.proofs.Growing.{none_known, silence_knows, were_waiting}

abbrev TerminalKnows : TributaryValue → TributaryStep → Type 0
TerminalKnows t step = KnowsMore t.queue step.tributary.queue

same_queue : (t : TributaryValue) → KnowsMore t.queue t.queue
same_queue t = knows_as_many t.queue

poll_knows : (t : TributaryValue) → TerminalKnows t (poll_step t)
poll_knows t =
    let d : TributaryValue = record (without_line t) { urgent = false } in
    either_branch (TerminalKnows t) (is_in_doubt d.sender.phase) _ _ (same_queue t)
    (either_branch (TerminalKnows t) (nat_eq (length (waiting d.queue)) 0) _
    (act_step d (begin_step d.sender d.queue)) (same_queue t) (begin_knows d.sender d.queue))

call_knows : (t : TributaryValue) (called : Called) (rooms : Rooms)
    → TerminalKnows t (call_step t called rooms)
call_knows t Polling rooms = poll_knows t
call_knows t (Selection s) rooms =
    either_branch (TerminalKnows t) t.ready _ _ (same_queue t) (same_queue t)
call_knows t Other rooms = same_queue t

mode_knows : (t : TributaryValue) (mode : Mode) (h : Heard) (rooms : Rooms)
    → TerminalKnows t (mode_step t mode h rooms)
mode_knows t Control h rooms = same_queue t
mode_knows t (Receiving s) h rooms = same_queue t
mode_knows t Sending h rooms = reply_knows t.sender t.queue (reply_in h)

hear_knows : (t : TributaryValue) (h : Heard) (rooms : Rooms)
    → TerminalKnows t (hear_step t h rooms)
hear_knows t (Whole m.Eot) rooms = same_queue t
hear_knows t (Whole (m.Call address)) rooms =
    call_knows t (called_as t.terminal address) rooms
hear_knows t Failed rooms = mode_knows t t.mode Failed rooms
hear_knows t Noise rooms = mode_knows t t.mode Noise rooms
hear_knows t (Whole (m.Text text)) rooms = mode_knows t t.mode (Whole (m.Text text)) rooms
hear_knows t (Whole m.Enq) rooms = mode_knows t t.mode (Whole m.Enq) rooms
hear_knows t (Whole (m.Reply r)) rooms = mode_knows t t.mode (Whole (m.Reply r)) rooms

silence_mode_knows : (t : TributaryValue) (mode : Mode) → TerminalKnows t (silence_in t mode)
silence_mode_knows t Control = same_queue t
silence_mode_knows t (Receiving s) = same_queue t
silence_mode_knows t Sending = silence_knows t.sender t.queue

-- the records that arrived for the selection address of this number
abbrev pub own_received : LineTerminalValue → ℕ → List (List ℕ)
own_received l n =
    if nat_lt n (length l.tributary.terminal.selects)
    then (spool_at l.tributary.spools n).records else []

pub record TerminalGrows (old new : LineTerminalValue) : Type 0 where
  pub knows : KnowsMore old.tributary.queue new.tributary.queue
  pub there : new.tributary.queue.known - old.tributary.queue.known
      ≤ length (waiting old.tributary.queue)
  pub received : (n : ℕ) → ReceivedGrows (own_received old n) (own_received new n)

grown_by_text : (old : TributaryValue) (h : Heard) (n : ℕ) (xs ys : List (List ℕ))
    → GrowsByText old.mode h n xs ys → ReceivedGrows xs ys
grown_by_text old h n xs ys (inl same) = ([], same ∙ sym (append-nil xs))
grown_by_text old h n xs ys (inr stores) = (records_in stores.text.units, stores.becomes)

own_grown : (old new : LineTerminalValue) (n : ℕ)
    → new.tributary.terminal ≡ old.tributary.terminal
    → ReceivedGrows (spool_at old.tributary.spools n).records
    (spool_at new.tributary.spools n).records
    → ReceivedGrows (own_received old n) (own_received new n)
own_grown old new n terminal grows =
    subst
    (λ t. ReceivedGrows (own_received old n)
    (if nat_lt n (length t.selects) then (spool_at new.tributary.spools n).records else []))
    (sym terminal)
    (grown_where (nat_lt n (length old.tributary.terminal.selects)) _ _ grows)

pub terminal_grows_itself : (l : LineTerminalValue) → TerminalGrows l l
terminal_grows_itself l =
    record {
      knows = knows_as_many l.tributary.queue;
      there = none_known l.tributary.queue;
      received = λ n. grows_not (own_received l n);
    }

pub terminal_hears : (old new : LineTerminalValue) (h : Heard) (sent : Option Message)
    → Hears old h new sent → TerminalGrows old new
terminal_hears old new h sent hears =
    let t = old.tributary in
    let knows : KnowsMore t.queue new.tributary.queue =
    subst (λ (step : TributaryStep). TerminalKnows t step) (sym hears.hearing.row.row)
    (hear_knows t h (rooms_after h new.tributary)) in
    record {
      knows = knows;
      there =
          were_waiting t.queue new.tributary.queue knows
          hears.hearing.after.tributary.ready.queue.known;
      received = λ n. own_grown old new n hears.hearing.after.keeps.terminal
          (grown_by_text t h n _ _ (hears.hearing.after.grows n));
    }

pub terminal_acts : (old new : LineTerminalValue) (sent : Option Message)
    → Acts old new sent → TerminalGrows old new
terminal_acts old new sent acts =
    let t = old.tributary in
    let knows : KnowsMore t.queue new.tributary.queue =
    subst (λ (step : TributaryStep). TerminalKnows t step) (sym acts.silence.row)
    (silence_mode_knows t t.mode) in
    record {
      knows = knows;
      there =
          were_waiting t.queue new.tributary.queue knows
          acts.silence.after.tributary.ready.queue.known;
      received = λ n. own_grown old new n acts.silence.after.keeps.terminal (
        [],
        ap (λ ps. (spool_at ps n).records) acts.silence.after.spools
            ∙ sym (append-nil (spool_at t.spools n).records),
      );
    }
