-- What each act of a terminal's sender makes of its mode, and what it does not change.
use Rattle.std.proofs.Common.{◌≡◌, ◌⊎◌, inl, inr, ℕ, List, Option, None, Some, refl, sym, ◌∙◌, ap}
use Rattle.std.proofs.Common.{subst}
use Rattle.bsc_block.specs.Format.{FormatValue}
use Rattle.bsc_spool.specs.declared.queue.Next.{Next}
use Rattle.bsc_spool.specs.Queue.{QueueValue}
use Rattle.bsc_bid.specs.Act.{Act}
use Rattle.bsc_bid.specs.Act as a
use Rattle.bsc_bid.specs.declared.outcome.Outcome.{Outcome}
use Rattle.bsc_frame.specs.declared.message.Message.{Message}
use Rattle.bsc_bid.specs.declared.alternation.Alternation.{Alternation}
use Rattle.bsc_bid.specs.declared.phase.Phase.{Phase}
use Rattle.bsc_frame.specs.declared.reply.Reply.{Reply}
use Rattle.bsc_bid.specs.EachStep.{StepKeeps}
use Rattle.bsc_bid.specs.Ready.{IsGoing, FitsAct}
use Rattle.bsc_bid.specs.Setup.{SetupValue}
use Rattle.bsc_bid.specs.Sender.{SenderValue, SenderStep, SenderAnswer, Tells, sent_next}
use Rattle.bsc_bid.specs.Sender.{reply_step, silence_step}
use Rattle.bsc_bid.proofs.Fitting.{fits_reply, fits_silence}
use Rattle.bsc_bid.proofs.Keeping.{keeps_reply, keeps_silence}
use Rattle.bsc_tributary.specs.declared.mode.Mode.{Mode}
use Rattle.bsc_tributary.specs.declared.mode.Mode.TheVariants.{Control, Receiving, Sending}
use Rattle.bsc_tributary.specs.Tributary.{mode_left, mode_after, message_left, message_of_act}
use Rattle.bsc_tributary.specs.Kept.{SuitsMode}

-- the mode by the outcome of a method of the sender is the mode by its act
pub mode_told : (mode left : Mode) (s : SenderValue) (q : QueueValue) (outcome : Outcome)
    (sent : Option Message) (step : SenderStep) → Tells s q outcome sent step
    → left ≡ mode_left outcome mode → left ≡ mode_after step.act mode
mode_told mode left s q outcome sent step h e =
    e ∙ ap (λ (x : SenderAnswer). mode_left x.outcome mode) h

-- and the message that is sent is that of its act
pub sent_told : (last : Option Message) (s : SenderValue) (q : QueueValue) (outcome : Outcome)
    (sent : Option Message) (step : SenderStep) → Tells s q outcome sent step
    → last ≡ message_left outcome sent → last ≡ message_of_act step.act
sent_told last s q outcome sent step h e =
    e ∙ ap (λ (x : SenderAnswer). message_left x.outcome x.sent) h

-- an act of a sending terminal leaves it sending or in control mode
pub mode_after_sending : (act : Act) → (mode_after act Sending ≡ Control)
    ⊎ (mode_after act Sending ≡ Sending)
mode_after_sending (a.Send text) = inr refl
mode_after_sending a.Enq = inr refl
mode_after_sending a.Over = inl refl
mode_after_sending a.Quiet = inr refl

-- so the terminal does not receive
pub not_receiving : (mode : Mode) (s : ℕ) → (mode ≡ Control) ⊎ (mode ≡ Sending) → mode ≡ Receiving s
    → ⊥
not_receiving mode s (inl e) is = cc
not_receiving mode s (inr e) is = cc

-- A step of the sender: the mode after its act suits the phase that it leaves, and the settings,
-- the format and the offered records are the given ones.
pub record Follows (mode : Mode) (n : ℕ) (setup : SetupValue) (format : FormatValue)
    (offered : List (List ℕ))
    (step : SenderStep) : Type 0 where
  pub suits : SuitsMode (mode_after step.act mode) step.sender.phase n
  pub setup_is : step.sender.setup ≡ setup
  pub format_is : step.queue.format ≡ format
  pub offered_is : step.queue.offered ≡ offered

-- a step of a sender with this queue
abbrev pub FollowsFrom : Mode → ℕ → SenderValue → QueueValue → SenderStep → Type 0
FollowsFrom mode n s q step = Follows mode n s.setup q.format q.offered step

pub follows_sent_next : (mode : Mode) (n : ℕ) (s : SenderValue) (q : QueueValue)
    (alternation : Alternation)
    (next : Option Next) → FollowsFrom mode n s q (sent_next s q alternation next)
follows_sent_next mode n s q alternation None =
    record { suits = tt; setup_is = refl; format_is = refl; offered_is = refl }
follows_sent_next mode n s q alternation
    (Some next) = record { suits = tt; setup_is = refl; format_is = refl; offered_is = refl }

mode_suits_phase_after_act : (act : Act) (old new : Phase) (n : ℕ) → IsGoing old → FitsAct act old new
    → SuitsMode (mode_after act Sending) new n
mode_suits_phase_after_act (a.Send text) old new n goes fits = fits
mode_suits_phase_after_act a.Enq old new n goes fits = fits
mode_suits_phase_after_act a.Over old new n goes fits = fits
mode_suits_phase_after_act a.Quiet old new n goes fits = subst IsGoing (sym fits) goes

-- a step while a bid is in progress
step_follows_from_sending : (n : ℕ) (s : SenderValue) (q : QueueValue) (step : SenderStep) → IsGoing s.phase
    → FitsAct step.act s.phase step.sender.phase → StepKeeps s q step
    → FollowsFrom Sending n s q step
step_follows_from_sending n s q step goes fits keeps =
    record {
      suits = mode_suits_phase_after_act step.act s.phase step.sender.phase n goes fits;
      setup_is = keeps.setup_is;
      format_is = keeps.format_is;
      offered_is = keeps.offered_is;
    }

-- a reply, or another transmission, is heard while a bid is in progress
pub follows_reply_step : (n : ℕ) (s : SenderValue) (q : QueueValue) (r : Option Reply)
    → IsGoing s.phase →
    FollowsFrom Sending n s q (reply_step s q r)
follows_reply_step n s q r goes =
    step_follows_from_sending n s q (reply_step s q r) goes (fits_reply s q r) (keeps_reply s q r)

-- a silence while a bid is in progress
pub follows_silence_step : (n : ℕ) (s : SenderValue) (q : QueueValue) → IsGoing s.phase →
    FollowsFrom Sending n s q (silence_step s q)
follows_silence_step n s q goes =
    step_follows_from_sending n s q (silence_step s q) goes (fits_silence s q) (keeps_silence s q)
