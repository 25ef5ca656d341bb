-- What a monitor is told.
use Rattle.bsc_connections.specs.declared.monitor.Note.{Note}
use Rattle.bsc_connections.specs.declared.monitor.Note.TheVariants.{Heard, Silence, Sent, Joined}
use Rattle.bsc_connections.specs.declared.monitor.Note.TheVariants.{Closed, Refused, Ignored}
use Rattle.bsc_connections.specs.declared.monitor.Note.TheVariants.{Stopped, Withheld}
use Rattle.bsc_connections.specs.Histories.{Happening, WasHeard, WasSilent, WasSent, HasJoined}
use Rattle.bsc_connections.specs.Histories.{HasClosed, WasRefused, WasIgnored, WasStopped}
use Rattle.bsc_connections.specs.Histories.{WasWithheld}

-- What a note tells.
abbrev pub told_by : Note → Happening
told_by (Heard connection transmission) = WasHeard connection transmission.now
told_by (Ignored connection transmission) = WasIgnored connection transmission.now
told_by Silence = WasSilent
told_by (Sent transmission) = WasSent transmission.now
told_by (Withheld transmission) = WasWithheld transmission.now
told_by (Joined connection peer replaces) = HasJoined connection peer replaces
told_by (Refused peer why) = WasRefused peer why
told_by (Closed connection peer why) = HasClosed connection peer why
told_by Stopped = WasStopped
