-- The error with which a watch refuses what it is told: a line of the trace could not be printed.
use Rattle.bsc_connections.specs.declared.awaited.LiveError.{LiveError}
use Rattle.bsc_connections.specs.declared.awaited.LiveError.TheVariants as live

abbrev pub IsTraceFault : LiveError → Type 0
IsTraceFault live.Output = Unit {0}
IsTraceFault live.Memory = Unit {0}
IsTraceFault _ = ⊥
