-- The lines of the terminals so far are written.
use Rattle.std.proofs.Common.{None}
use Rattle.std.specs.Prelude.{slice_index_or}
use Rattle.std.specs.Io.KnownBytes.{Appends}
use Rattle.bsc_line_model.specs.Hearing.{octets_in}
use Rattle.bsc_text.specs.Channels.{each_below}
use Rattle.bsc_run.specs.Traces.{item_line}
use Rattle.bsc_run.proofs.trace.write_items.Given as goal

abbrev pub invariant-terminals : goal.invariant-terminals
invariant-terminals g l =
    Appends (g.W.Write.contents l.initial.out) (g.W.Write.contents l.out)
    (each_below (λ t. item_line l.number l.sent t
    (octets_in (slice_index_or l.items t None))) l.terminal)
