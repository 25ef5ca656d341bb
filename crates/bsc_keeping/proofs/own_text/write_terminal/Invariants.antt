-- The selection addresses so far are written.
use Rattle.std.proofs.Common.{◌++◌, take, codes}
use Rattle.std.specs.Io.KnownBytes.{Appends}
use Rattle.std.specs.List.{flat_map}
use Rattle.bsc_text.specs.Names.{chars_shown}
use Rattle.bsc_keeping.specs.OwnText.{select_shown}
use Rattle.bsc_keeping.proofs.own_text.write_terminal.Given as goal

abbrev pub invariant-selects : goal.invariant-selects
invariant-selects g l =
    Appends (g.W.Write.contents l.fn.out) (g.W.Write.contents l.out)
    (codes "polled " ++ chars_shown l.terminal.poll ++ codes " selected"
    ++ flat_map select_shown (take l.place l.terminal.selects))
