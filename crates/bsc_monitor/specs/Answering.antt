-- The terminals that do not answer their polls, as far as it is told. Polls and their repetitions
-- are those of GA27-3004; what is told of them is this project's own.
use Rattle.std.specs.Prelude.{ℕ, nat_lt, Bool, true, false, not, ◌&&◌, if◌then◌else◌, List}
use Rattle.std.specs.Prelude.{Option, None, Some, replicate, slice_get, slice_index_or, slice_set}
use Rattle.bsc_connections.specs.Histories.{Happening, WasHeard, WasSilent, WasSent}
use Rattle.bsc_control.specs.declared.task.Replied.TheVariants.{Nothing}
use Rattle.bsc_control.specs.declared.task.Task.{Task}
use Rattle.bsc_control.specs.declared.task.Task.TheVariants.{Polling}
use Rattle.bsc_control.specs.Control.{ControlValue}
use Rattle.bsc_bid.specs.declared.limits.TheConstants.{MAX_TERMINALS}
use Rattle.bsc_monitor.specs.Visits.{polled_still}
use Rattle.bsc_monitor.specs.declared.answering.Answering.{Answering}

-- Nothing is told, and nothing has been sent.
abbrev pub new_answering : Answering
new_answering = record { polled = None; silence = false; told = replicate MAX_TERMINALS false }

-- This terminal, if it is polled in this task and nothing is replied.
abbrev pub unreplied_in : Task → Option ℕ → Option ℕ
unreplied_in (Polling Nothing) terminal = terminal
unreplied_in _ terminal = None

-- The terminal that the control station polls, if nothing is replied.
abbrev pub unreplied : ControlValue → Option ℕ
unreplied c = unreplied_in c.task (slice_get c.poll_list c.place)

-- The terminal whose poll is over with what the control station has just sent: its poll was sent
-- before, and is not repeated after a silence.
abbrev pub poll_over : Answering → ControlValue → Option ℕ
poll_over a c = if a.silence && nat_lt 0 c.failures then None else a.polled

-- The terminals of which it is told, once the poll of this terminal, or of none, is over: it is one
-- of them exactly if a silence ended its poll.
abbrev pub told_after : Answering → Option ℕ → List Bool
told_after a None = a.told
told_after a (Some terminal) = slice_set a.told terminal a.silence

-- The terminal of which it is to be told, once the poll of this terminal, or of none, is over: if a
-- silence ended its poll, and it is not told of it.
abbrev pub untold : Answering → Option ℕ → Option ℕ
untold a None = None
untold a (Some terminal) =
    if a.silence && not (slice_index_or a.told terminal true) then Some terminal else None

-- The same after the control station has sent something.
abbrev pub answering_sent : Answering → ControlValue → Answering
answering_sent a c = record a { polled = unreplied c; told = told_after a (poll_over a c) }

-- The same after the control station has acted on what it heard, or on a silence, as the flag says,
-- and is in this task. Once it is at rest its last poll is over, and nothing is told of it.
abbrev pub answering_acted : Answering → Task → Bool → Answering
answering_acted a task silence =
    record a { silence = silence; polled = polled_still task a.polled }

-- The same after an event.
abbrev pub answering_after : Answering → ControlValue → Happening → Answering
answering_after a c (WasHeard place octets) = answering_acted a c.task false
answering_after a c WasSilent = answering_acted a c.task true
answering_after a c (WasSent octets) = answering_sent a c
answering_after a c _ = a

-- The terminal of which it is to be told with an event that it has answered neither its poll nor a
-- repetition: only what the control station sends can end a poll.
abbrev pub unanswered : Answering → ControlValue → Happening → Option ℕ
unanswered a c (WasSent octets) = untold a (poll_over a c)
unanswered a c _ = None
