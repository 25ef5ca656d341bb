-- The lines of the records so far are printed.
use Rattle.std.proofs.Common.{◌-◌, ◌≤◌, take, drop}
use Rattle.std.specs.Io.KnownBytes.{Appends}
use Rattle.bsc_text.specs.Channels.{channel_name}
use Rattle.bsc_report.specs.Printed.{lines_from}
use Rattle.bsc_report.proofs.arrivals.print_records.Given as goal

abbrev pub invariant-records : goal.invariant-records
invariant-records g l = record {
  after : l.from ≤ l.place;
  printed : Appends (g.W.Write.contents l.initial.out) (g.W.Write.contents l.out)
      (lines_from l.lines (channel_name l.channel.addresses l.channel.name.terminal l.channel.name.way) l.from
      (take (l.place - l.from) (drop l.from l.records.items)));
}
