-- When a station is told of a silence.
use Rattle.std.specs.Prelude.{◌≡◌, ℕ, ◌+◌, Bool, List, [], ◌∷◌, Result}
use Rattle.bsc_connections.specs.declared.awaited.Awaited.{Awaited}
use Rattle.bsc_connections.specs.declared.awaited.Awaited.TheVariants.{TimeOut}
use Rattle.bsc_connections.specs.declared.awaited.LiveError.{LiveError}
use Rattle.bsc_connections.specs.Parts.{SessionParts}
use Rattle.bsc_connections.specs.Connections.{ConnectionValue}
use Rattle.bsc_connections.specs.Histories.{Happening, WasSilent}
use Rattle.bsc_connections.specs.Attending.{Session, Steps}

-- The number of silences in a history.
abbrev pub silences : List Happening → ℕ
silences [] = 0
silences (WasSilent ∷ history) = 1 + silences history
silences (happening ∷ history) = silences history

-- The number of silences due after this event: one if the time-out has passed, else none.
abbrev pub silences_due : Awaited → ℕ
silences_due TimeOut = 1
silences_due awaited = 0

-- Every step has as many silences as are due.
abbrev pub TellsEachSilence : {S R W F M T : Type 0} → SessionParts S R W F M T → Type 0
TellsEachSilence {S} {R} {W} {F} {M} {T} parts =
    (old new : Session S (ConnectionValue R W F) M T) (happened : List Happening)
    (result : Result Bool LiveError) (step : Steps parts old happened result new)
    → silences happened ≡ silences_due step.awaited
