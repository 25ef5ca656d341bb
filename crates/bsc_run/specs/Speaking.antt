-- The sender of the pending transmission has a connection of the cable.
use Rattle.std.specs.Prelude.{◌≡◌, ◌<◌, Option, None, Some}
use Rattle.bsc_carrier.specs.Cable.{CableValue}
use Rattle.bsc_bid.specs.declared.speaker.Speaker.{Speaker}
use Rattle.bsc_bid.specs.declared.speaker.Speaker.TheVariants.{Control, Terminal}
use Rattle.bsc_line_model.specs.declared.transmission.Transmission.{Transmission}
use Rattle.bsc_line_model.specs.Line.{LineValue, terminal_count}
use Rattle.bsc_line_model.specs.Kept.{IsLine}
use Rattle.bsc_run.specs.Crossing.{connection_count}

-- The station belongs to the line.
abbrev pub IsStation : LineValue → Speaker → Type 0
IsStation l Control = Unit {0}
IsStation l (Terminal t) = t < terminal_count l

-- The sender of the pending transmission belongs to the line.
abbrev pub IsSpeakerThere : LineValue → Option Transmission → Type 0
IsSpeakerThere l None = Unit {0}
IsSpeakerThere l (Some sent) = IsStation l sent.speaker

-- The cable has a connection for each terminal of the line, and the sender of the pending
-- transmission belongs to the line.
pub record Fits {S : Type 0} (l : LineValue) (c : CableValue S) : Type 0 where
  pub line : IsLine l
  pub connections : connection_count c ≡ terminal_count l
  pub speaker : IsSpeakerThere l l.pending
