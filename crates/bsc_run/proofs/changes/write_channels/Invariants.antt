-- The changes of the channels so far are written.
use Rattle.std.proofs.Common.{take}
use Rattle.std.specs.List.{flat_map}
use Rattle.std.specs.Io.KnownBytes.{Appends}
use Rattle.bsc_run.specs.Changes.{channel_changes}
use Rattle.bsc_run.proofs.changes.write_channels.Given as goal

abbrev pub invariant-channels : goal.invariant-channels
invariant-channels g l =
    Appends (g.W.Write.contents l.initial.out) (g.W.Write.contents l.out)
    (flat_map (channel_changes l.number l.line) (take l.before-index l.channels))
