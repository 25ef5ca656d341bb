-- What a station that C has hears and sends (GA27-3004: what a station answers, and time-outs).
-- That its octets lie in a buffer of the caller is this project's own.
use Rattle.std.specs.Prelude.{◌≡◌, ◌<◌, ◌≤◌, ℕ, Bool, List, length, Option, Result, Ok, Err}
use Rattle.bsc_frame.specs.declared.limits.TheConstants.{MAX_SENT}
use Rattle.bsc_frame.specs.declared.message.Message.{Message}
use Rattle.bsc_frame.specs.declared.message.Heard.{Heard}
use Rattle.bsc_frame.specs.Spells.{IsHeardAs}
use Rattle.bsc_bid.specs.Station.{IsSent}
use Rattle.bsc_embed.specs.Buffers.{Holds}
use Rattle.bsc_embed.specs.declared.interface.fault.Fault.{Fault}
use Rattle.bsc_embed.specs.declared.interface.fault.Fault.TheVariants.{NoRoom}

-- The octets of the message are at the front of the buffer, or none are if there is no message; the
-- rest of the buffer is unchanged, and the length is the number of the octets.
pub record IsInBuffer (message : Option Message) (old new : List ℕ) (len : ℕ) : Type 0 where
  pub sends : Bool
  pub octets : List ℕ
  pub sent : IsSent message sends octets
  pub held : Holds octets old new len

-- What a station does with what it hears: the station before, what is heard, the station after, and
-- the message that it sends.
abbrev pub Hearing : Type 0 → Type 1
Hearing S = S → Heard → S → Option Message → Type 0

-- What a station does on a silence: the station before, the station after, and the message that it
-- sends.
abbrev pub Acting : Type 0 → Type 1
Acting S = S → S → Option Message → Type 0

-- A station hears what the octets are, and what it sends is in the buffer.
pub record HearsInto {S : Type 0} (hearing : Hearing S) (octets old new : List ℕ) (len : ℕ)
    (before after : S) : Type 0 where
  pub heard : Heard
  pub spelled : IsHeardAs octets heard
  pub message : Option Message
  pub heard_by : hearing before heard after message
  pub buffer : IsInBuffer message old new len

-- A silence passes at a station, and what it sends is in the buffer.
pub record ActsInto {S : Type 0} (acting : Acting S) (old new : List ℕ) (len : ℕ)
    (before after : S) : Type 0 where
  pub message : Option Message
  pub acted : acting before after message
  pub buffer : IsInBuffer message old new len

-- The buffer is too short for the longest transmission. Then nothing is heard, no time passes, and
-- the buffer, the length and the station are as they were.
pub record HasNoRoom {S : Type 0} (old : List ℕ) (old_len : ℕ) (new : List ℕ) (len : ℕ)
    (before after : S) (f : Fault) : Type 0 where
  pub fault : f ≡ NoRoom
  pub short : length old < MAX_SENT
  pub buffer : new ≡ old
  pub length : len ≡ old_len
  pub station : after ≡ before

-- Octets are given to a station, with a buffer and a length as they were and as they are, the
-- station before and after, and the answer.
abbrev pub IsGivenOctets : {S : Type 0} → Hearing S → List ℕ → List ℕ → ℕ → List ℕ → ℕ → S → S
    → Result (Unit {0}) Fault → Type 0
IsGivenOctets hearing octets old old_len new len before after (Ok done) =
    (MAX_SENT ≤ length old) × HearsInto hearing octets old new len before after
IsGivenOctets hearing octets old old_len new len before after (Err f) =
    HasNoRoom old old_len new len before after f

-- A station is told of a silence, likewise.
abbrev pub IsGivenSilence : {S : Type 0} → Acting S → List ℕ → ℕ → List ℕ → ℕ → S → S
    → Result (Unit {0}) Fault → Type 0
IsGivenSilence acting old old_len new len before after (Ok done) =
    (MAX_SENT ≤ length old) × ActsInto acting old new len before after
IsGivenSilence acting old old_len new len before after (Err f) =
    HasNoRoom old old_len new len before after f
