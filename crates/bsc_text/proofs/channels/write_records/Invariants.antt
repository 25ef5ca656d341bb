-- The lines for the records so far are written.
use Rattle.std.proofs.Common.{take}
use Rattle.std.specs.List.{flat_map}
use Rattle.std.specs.Io.KnownBytes.{Appends}
use Rattle.bsc_text.specs.Channels.{record_line}
use Rattle.bsc_text.proofs.channels.write_records.Given as goal

abbrev pub invariant-records : goal.invariant-records
invariant-records g l =
    Appends (g.W.Write.contents l.initial.out) (g.W.Write.contents l.out)
    (flat_map (record_line l.form) (take l.place l.records.items))
