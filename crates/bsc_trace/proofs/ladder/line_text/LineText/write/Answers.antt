-- The text is graphic, and a line feed is written after it.
use Rattle.std.proofs.Common.{◌++◌, codes, refl}
use Rattle.std.proofs.KnownBytes.{Appends-trans}
use Rattle.bsc_trace.proofs.ladder.line_text.LineText.write.Goals as goal

pub returns : goal.returns
returns g c = record {
  text = c.self.inside.octets.items ++ codes "\n";
  kind = record {
    text = c.self.inside.octets.items;
    graphic = c.self.invariant;
    whole = refl;
  };
  appended =
      Appends-trans _ _ _ _ _ (rw c.deref.ensures.value at c.in_ok-put.ensures.ok)
      c.in_ok-put-2.ensures.ok;
}
