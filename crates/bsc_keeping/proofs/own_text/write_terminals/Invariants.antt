-- The terminals so far are written.
use Rattle.std.proofs.Common.{take}
use Rattle.std.specs.Io.KnownBytes.{Appends}
use Rattle.std.specs.List.{flat_map}
use Rattle.bsc_keeping.specs.OwnText.{terminal_line}
use Rattle.bsc_keeping.proofs.own_text.write_terminals.Given as goal

abbrev pub invariant-terminals : goal.invariant-terminals
invariant-terminals g l =
    Appends (g.W.Write.contents l.fn.out) (g.W.Write.contents l.out)
    (flat_map terminal_line (take l.terminal-index l.terminals))
