-- What every step of a sender keeps, and which phase it leaves with which act.
use Rattle.std.proofs.Common.{◌≡◌, Option, None, Some, sym, subst}
use Rattle.bsc_spool.specs.declared.queue.Next.{Next}
use Rattle.bsc_spool.specs.Queue.{QueueValue, next_block}
use Rattle.bsc_bid.specs.Act.{Act}
use Rattle.bsc_bid.specs.Act as a
use Rattle.bsc_bid.specs.declared.alternation.Alternation.{Alternation}
use Rattle.bsc_bid.specs.declared.alternation.Alternation.TheVariants.{Odd}
use Rattle.bsc_bid.specs.declared.phase.Phase.{Phase}
use Rattle.bsc_frame.specs.declared.reply.Reply.{Reply}
use Rattle.bsc_bid.specs.EachStep as each
use Rattle.bsc_bid.specs.Ready.{IsGoing, IsAtRest, FitsAct}
use Rattle.bsc_bid.specs.Sender.{SenderValue, SenderStep, sent_next, begin_step, reply_step}
use Rattle.bsc_bid.specs.Sender.{silence_step}
use Rattle.bsc_bid.proofs.Fitting.{fits_reply, fits_silence}
use Rattle.bsc_bid.proofs.Keeping.{keeps_begin, keeps_reply, keeps_silence}

-- a bid is in progress after each act but the one that ends it
abbrev pub LeavesPhase : Act → Phase → Type 0
LeavesPhase (a.Send text) phase = IsGoing phase
LeavesPhase a.Enq phase = IsGoing phase
LeavesPhase a.Over phase = IsAtRest phase
LeavesPhase a.Quiet phase = IsGoing phase

-- the settings, the format and the offered records stay
pub record KeepsAndLeaves (s : SenderValue) (q : QueueValue) (step : SenderStep) : Type 0 where
  pub setup : step.sender.setup ≡ s.setup
  pub format : step.queue.format ≡ q.format
  pub offered : step.queue.offered ≡ q.offered
  pub phase : LeavesPhase step.act step.sender.phase

step_keeps : (s : SenderValue) (q : QueueValue) (step : SenderStep) → each.StepKeeps s q step
    → LeavesPhase step.act step.sender.phase → KeepsAndLeaves s q step
step_keeps s q step k phase =
    record { setup = k.setup_is; format = k.format_is; offered = k.offered_is; phase = phase }

-- what a step leaves while a bid is in progress
phase_left_by_step : (act : Act) (old new : Phase) → IsGoing old → FitsAct act old new → LeavesPhase act new
phase_left_by_step (a.Send text) old new goes fits = fits
phase_left_by_step a.Enq old new goes fits = fits
phase_left_by_step a.Over old new goes fits = fits
phase_left_by_step a.Quiet old new goes fits = subst IsGoing (sym fits) goes

phase_after_next_block : (s : SenderValue) (q : QueueValue) (x : Alternation) (next : Option Next)
    → LeavesPhase (sent_next s q x next).act (sent_next s q x next).sender.phase
phase_after_next_block s q x None = tt
phase_after_next_block s q x (Some next) = tt

pub keeps_begin_step : (s : SenderValue) (q : QueueValue) → KeepsAndLeaves s q (begin_step s q)
keeps_begin_step s q =
    step_keeps s q (begin_step s q) (keeps_begin s q) (phase_after_next_block s q Odd (next_block q))

pub keeps_reply_step : (s : SenderValue) (q : QueueValue) (r : Option Reply) → IsGoing s.phase
    → KeepsAndLeaves s q (reply_step s q r)
keeps_reply_step s q r goes =
    step_keeps s q (reply_step s q r) (keeps_reply s q r)
    (phase_left_by_step (reply_step s q r).act s.phase (reply_step s q r).sender.phase goes (fits_reply s q r))

pub keeps_silence_step : (s : SenderValue) (q : QueueValue) → IsGoing s.phase
    → KeepsAndLeaves s q (silence_step s q)
keeps_silence_step s q goes =
    step_keeps s q (silence_step s q) (keeps_silence s q)
    (phase_left_by_step (silence_step s q).act s.phase (silence_step s q).sender.phase goes (fits_silence s q))
