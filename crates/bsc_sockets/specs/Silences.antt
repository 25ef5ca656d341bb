-- Which silences take no waiting.
use Rattle.std.specs.Prelude.{Bool, false, not, ◌&&◌}
use Rattle.bsc_connections.specs.declared.awaited.Awaited.{Awaited}
use Rattle.bsc_connections.specs.declared.awaited.Awaited.TheVariants.{TimeOut}
use Rattle.bsc_sockets.specs.declared.settings.ConnectionSettings.{ConnectionSettings}
use Rattle.bsc_sockets.specs.declared.silences.LastSilence.{LastSilence}
use Rattle.bsc_sockets.specs.declared.silences.LastSilence.TheVariants.{Untold, Unanswered}
use Rattle.bsc_sockets.specs.declared.silences.LastSilence.TheVariants.{Answered}

-- Whether the time-out has passed at once, by the last silence that the station was told of. The
-- first one has if the station begins. After that one has only if the station has sent something
-- since the last one, skips what nobody can break, and nobody may answer what it sent, as the first
-- flag says, and only in a wait that does not begin with a pause, as the second one says.
abbrev pub is_over : LastSilence → ConnectionSettings → Bool → Bool → Bool
is_over Untold settings is_reached has_paused = settings.begins
is_over Unanswered settings is_reached has_paused = false
is_over Answered settings is_reached has_paused =
    settings.skips && (not is_reached && not has_paused)

-- The last silence, after this event of a wait.
abbrev pub silence_after : Awaited → LastSilence → LastSilence
silence_after TimeOut last = Unanswered
silence_after awaited last = last

-- The last silence, after the station has sent or withheld something.
abbrev pub silence_answered : LastSilence → LastSilence
silence_answered Untold = Untold
silence_answered Unanswered = Answered
silence_answered Answered = Answered
