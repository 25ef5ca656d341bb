-- The new records of the channels so far are printed and counted.
use Rattle.std.proofs.Common.{◌≡◌, ℕ, ◌≤◌, true, false, slice_index}
use Rattle.std.specs.Io.KnownBytes.{Appends}
use Rattle.bsc_text.specs.Channels.{each_below}
use Rattle.bsc_report.specs.Arrivals.{AreCounted, MoreArePrinted, AsManyArePrinted, arrivals_of}
use Rattle.bsc_report.proofs.arrivals.print_arrivals.Given as goal

abbrev pub invariant-channels : goal.invariant-channels
invariant-channels g l =
    record {
      text : Appends (g.W.Write.contents l.initial.out) (g.W.Write.contents l.out)
          (each_below (arrivals_of g.P.Party l.station l.lines l.initial.printed) l.number);
      counts : AreCounted g.P.Party l.station l.initial.printed l.printed l.number;
      some : l.found ≡ true → MoreArePrinted l.initial.printed l.printed l.number;
      none : l.found ≡ false → AsManyArePrinted l.initial.printed l.printed l.number;
      others : (n : ℕ) → l.number ≤ n → slice_index l.printed n ≡ slice_index l.initial.printed n;
    }
