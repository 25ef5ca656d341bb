-- The time is written, and then the rest of the line.
use Rattle.std.proofs.Common.{◌++◌, refl}
use Rattle.std.proofs.KnownBytes.{Appends-trans}
use Rattle.bsc_trace.specs.Rows.{row_in, time_in}
use Rattle.bsc_trace.specs.Texts.{time_text}
use Rattle.bsc_trace.proofs.ladder.text.write_row.Goals as goal

pub returns : goal.returns
returns g c =
    let rest = c.in_ok-write.ensures in
    record {
      text = time_text (time_in (row_in c.args.row.now)) ++ rest.text;
      kind = record {
        happened = rest.text;
        line = rest.kind;
        whole = refl;
      };
      appended =
          Appends-trans _ _ _ _ _ (rw c.time_of.ensures at c.in_ok-put_time.ensures)
          rest.appended;
    }
