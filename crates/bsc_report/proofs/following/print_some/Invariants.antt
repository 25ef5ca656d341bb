-- Records of the channels so far are printed and counted.
use Rattle.std.proofs.Common.{◌≡◌, ℕ, ◌≤◌, slice_index}
use Rattle.std.specs.Io.KnownBytes.{Appends}
use Rattle.bsc_text.specs.Channels.{each_below}
use Rattle.bsc_report.specs.Following.{AreSomeCounted, left_after, some_lines}
use Rattle.bsc_report.proofs.following.print_some.Given as goal

abbrev pub invariant-channels : goal.invariant-channels
invariant-channels g l =
    record {
      text : Appends (g.W.Write.contents l.initial.out) (g.W.Write.contents l.out)
          (each_below (some_lines g.P.Party l.station l.lines l.initial.printed l.most) l.number);
      counts : AreSomeCounted g.P.Party l.station l.initial.printed l.most l.printed l.number;
      left : l.left ≡ left_after g.P.Party l.station l.initial.printed l.most l.number;
      others : (n : ℕ) → l.number ≤ n → slice_index l.printed n ≡ slice_index l.initial.printed n;
    }
