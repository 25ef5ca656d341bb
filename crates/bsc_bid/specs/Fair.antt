-- What may be heard of a transmission while every damaged one fails its check (GA27-3004: VRC and
-- LRC checking).
use Rattle.std.specs.Prelude.{◌≡◌, ◌⊎◌, Option, None, Some}
use Rattle.bsc_frame.specs.declared.message.Message.{Message}
use Rattle.bsc_frame.specs.declared.message.Message.TheVariants as m
use Rattle.bsc_frame.specs.declared.message.Heard.{Heard}
use Rattle.bsc_frame.specs.declared.message.Heard.TheVariants.{Whole, Failed, Noise}

-- The message is a text.
abbrev pub IsTextMessage : Message → Type 0
IsTextMessage (m.Text t) = Unit {0}
IsTextMessage _ = ⊥

-- A call of which only the EOT is left.
abbrev pub IsCallCutShort : Message → Message → Type 0
IsCallCutShort (m.Call a) m.Eot = Unit {0}
IsCallCutShort _ _ = ⊥

-- What is heard: the message itself, or only the EOT of a call. A text may fail its check, and any
-- transmission may be noise.
abbrev pub IsFairlyHeard : Message → Heard → Type 0
IsFairlyHeard sent (Whole w) = (w ≡ sent) ⊎ IsCallCutShort sent w
IsFairlyHeard sent Failed = IsTextMessage sent
IsFairlyHeard sent Noise = Unit {0}

-- What may become of a transmission: nothing is heard of it, or what may be heard fairly.
abbrev pub IsFair : Message → Option Heard → Type 0
IsFair sent None = Unit {0}
IsFair sent (Some h) = IsFairlyHeard sent h
