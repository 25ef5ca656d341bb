-- What a call of a sender reports is the step that it makes.
use Rattle.std.proofs.Common.{◌≡◌, Option, ap}
use Rattle.bsc_frame.specs.declared.message.Message.{Message}
use Rattle.bsc_spool.specs.Queue.{QueueValue}
use Rattle.bsc_bid.specs.declared.outcome.Outcome.{Outcome}
use Rattle.bsc_bid.specs.Sender.{SenderValue, SenderStep, SenderAnswer, Tells}

-- the sender and its queue with the act of the step are the step
pub told_step : (s : SenderValue) (q : QueueValue) (outcome : Outcome) (sent : Option Message)
    (step : SenderStep) → Tells s q outcome sent step
    → record { sender = s; queue = q; act = step.act } ≡ step
told_step s q outcome sent step h =
    ap (λ (x : SenderAnswer). record { sender = x.sender; queue = x.queue; act = step.act }) h
