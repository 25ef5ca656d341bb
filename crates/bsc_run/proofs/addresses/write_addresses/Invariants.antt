-- The lines of the terminals so far are written.
use Rattle.std.proofs.Common.{slice_get}
use Rattle.std.specs.Io.KnownBytes.{Appends}
use Rattle.bsc_text.specs.Channels.{each_below}
use Rattle.bsc_run.specs.Addresses.{address_line_of}
use Rattle.bsc_run.proofs.addresses.write_addresses.Given as goal

abbrev pub invariant-terminals : goal.invariant-terminals
invariant-terminals g l =
    Appends (g.W.Write.contents l.initial.out) (g.W.Write.contents l.out)
    (each_below (λ t. address_line_of t (slice_get l.terminals t)) l.number)
