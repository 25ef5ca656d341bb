-- What a control station that has ended does with the answer to its last call. That a receiver asks
-- for a text again by NAK, and that a sender gives up after its retries, is GA27-3004's; that the
-- station that has ended does so is this project's own.
use Rattle.std.specs.Prelude.{ℕ, ◌-◌, nat_lt, Bool, true, false, ◌&&◌, if◌then◌else◌}
use Rattle.std.specs.Prelude.{Option, None, Some}
use Rattle.bsc_frame.specs.declared.message.Heard.{Heard}
use Rattle.bsc_frame.specs.declared.message.Heard.TheVariants.{Whole, Failed, Noise}
use Rattle.bsc_frame.specs.declared.message.Message.{Message}
use Rattle.bsc_frame.specs.declared.message.Message.TheVariants.{Enq, Reply, Text}
use Rattle.bsc_frame.specs.declared.reply.Reply.TheVariants.{Nak}
use Rattle.bsc_monitor.specs.declared.ended.Ended.{Ended}

abbrev pub ended_of : ℕ → Bool → Ended
ended_of left refuses = record { left = left; refuses = refuses }

-- Whether a station that has refused what it heard last, as the flag says, is to refuse this too: a
-- text, one that failed, or ENQ after what it has refused.
abbrev pub is_text_or_enquiry : Bool → Heard → Bool
is_text_or_enquiry refuses (Whole (Text text)) = true
is_text_or_enquiry refuses (Whole Enq) = refuses
is_text_or_enquiry refuses Failed = true
is_text_or_enquiry refuses _ = false

-- Whether it refuses this: there is something to refuse, and it has not done so too often.
abbrev pub refuses : Ended → Heard → Bool
refuses e heard = is_text_or_enquiry e.refuses heard && nat_lt 0 e.left

abbrev pub after_refusal : Ended → Bool → Ended
after_refusal e is_refused =
    if is_refused then ended_of (e.left - 1) true else ended_of e.left false

-- The station after it has heard this. Noise changes nothing.
abbrev pub after_hearing : Ended → Heard → Ended
after_hearing e Noise = e
after_hearing e heard = after_refusal e (refuses e heard)

-- It answers only what it refuses.
abbrev pub refusal_of : Ended → Heard → Option Message
refusal_of e heard = if refuses e heard then Some (Reply Nak) else None
