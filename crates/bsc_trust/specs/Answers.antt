-- What of an answer matters for trust.
use Rattle.std.specs.Prelude.{ℕ, Bool, true, false, nat_le}
use Rattle.bsc_frame.specs.declared.message.Message.{Message}
use Rattle.bsc_frame.specs.declared.message.Message.TheVariants.{Eot, Call, Enq, Reply, Text}
use Rattle.bsc_frame.specs.declared.message.Heard.{Heard}
use Rattle.bsc_frame.specs.declared.message.Heard.TheVariants.{Whole, Failed, Noise}

-- Whether a transmission is noise, which every station ignores.
abbrev pub is_noise : Heard → Bool
is_noise (Whole m) = false
is_noise Failed = false
is_noise Noise = true

-- Whether the time that a message took as an answer counts, in milliseconds, for this time-out. A
-- terminal sends ENQ after its own time-out, so its time does not count; and one that gives up
-- sends EOT, whose time counts only up to the time-out (GA27-3004: time-outs).
abbrev pub is_timed_message : Message → ℕ → ℕ → Bool
is_timed_message Eot time time_out = nat_le time time_out
is_timed_message (Call a) time time_out = true
is_timed_message Enq time time_out = false
is_timed_message (Reply r) time time_out = true
is_timed_message (Text t) time time_out = true

-- Whether the time that an answer took counts.
abbrev pub is_timed : Heard → ℕ → ℕ → Bool
is_timed (Whole m) time time_out = is_timed_message m time time_out
is_timed Failed time time_out = true
is_timed Noise time time_out = true
