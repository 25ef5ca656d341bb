-- What a control station that C has hears, and a silence (GA27-3004: polling, selection, replies
-- and time-outs).
use Rattle.std.specs.Prelude.{ℕ, List, Result}
use Rattle.bsc_control.specs.Control.{ControlValue}
use Rattle.bsc_control.specs.Kept.{IsHearing, IsSilence}
use Rattle.bsc_embed.specs.Transmissions.{IsGivenOctets, IsGivenSilence}
use Rattle.bsc_embed.specs.declared.interface.fault.Fault.{Fault}

-- The station hears these octets: the octets, the buffer and the length as they were and as they
-- are, the station before and after, and the answer.
abbrev pub Hears : List ℕ → List ℕ → ℕ → List ℕ → ℕ → ControlValue → ControlValue
    → Result (Unit {0}) Fault → Type 0
Hears octets old old_len new len c d answer =
    IsGivenOctets IsHearing octets old old_len new len c d answer

-- A silence passes at the station: the buffer and the length as they were and as they are, the
-- station before and after, and the answer.
abbrev pub PassesSilence : List ℕ → ℕ → List ℕ → ℕ → ControlValue → ControlValue
    → Result (Unit {0}) Fault → Type 0
PassesSilence old old_len new len c d answer =
    IsGivenSilence IsSilence old old_len new len c d answer
