-- What a terminal that C has hears, and a silence (GA27-3004: polling, selection, replies and
-- time-outs).
use Rattle.std.specs.Prelude.{ℕ, List, Result}
use Rattle.bsc_tributary.specs.Tributary.{TributaryValue}
use Rattle.bsc_tributary.specs.Kept.{IsHearing, IsSilence}
use Rattle.bsc_embed.specs.Transmissions.{IsGivenOctets, IsGivenSilence}
use Rattle.bsc_embed.specs.declared.interface.fault.Fault.{Fault}

-- The terminal hears these octets: the octets, the buffer and the length as they were and as they
-- are, the terminal before and after, and the answer.
abbrev pub Hears : List ℕ → List ℕ → ℕ → List ℕ → ℕ → TributaryValue → TributaryValue
    → Result (Unit {0}) Fault → Type 0
Hears octets old old_len new len t u answer =
    IsGivenOctets IsHearing octets old old_len new len t u answer

-- A silence passes at the terminal: the buffer and the length as they were and as they are, the
-- terminal before and after, and the answer.
abbrev pub PassesSilence : List ℕ → ℕ → List ℕ → ℕ → TributaryValue → TributaryValue
    → Result (Unit {0}) Fault → Type 0
PassesSilence old old_len new len t u answer =
    IsGivenSilence IsSilence old old_len new len t u answer
