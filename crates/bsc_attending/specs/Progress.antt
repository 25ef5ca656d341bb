-- Of what work a station shows the progress.
use Rattle.std.specs.Prelude.{Bool, Option, None, Some, if◌then◌else◌}
use Rattle.bsc_report.specs.declared.tracing.Tracing.{Tracing}
use Rattle.bsc_report.specs.declared.tracing.Tracing.TheVariants.{Off}
use Rattle.bsc_options.specs.Settings.{SettingsValue}
use Rattle.bsc_bid.specs.declared.speaker.Speaker.{Speaker}
use Rattle.bsc_bid.specs.declared.speaker.Speaker.TheVariants.{Control, Terminal}
use Rattle.bsc_text.specs.declared.progress.counts.Work.{Work}
use Rattle.bsc_text.specs.declared.progress.counts.Work.TheVariants.{Events, Rounds}

-- What is counted at a station.
abbrev pub work_in : Speaker → Work
work_in Control = Rounds
work_in (Terminal number) = Events

-- The work, unless none is to be shown or there is a trace.
abbrev pub shown_if : Tracing → Bool → Work → Option Work
shown_if Off quiet work = if quiet then None else Some work
shown_if _ quiet work = None

abbrev pub progress_in : SettingsValue → Option Work
progress_in s = shown_if s.printing.trace s.quiet (work_in s.speaker)
