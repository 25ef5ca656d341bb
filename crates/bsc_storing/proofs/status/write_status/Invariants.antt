-- The lines of the terminals so far are printed.
use Rattle.bsc_storing.specs.Lines.{ShowsTerminals}
use Rattle.bsc_storing.proofs.status.write_status.Given as goal

abbrev pub invariant-terminals : goal.invariant-terminals
invariant-terminals g l =
    ShowsTerminals g.S.Store l.line l.terminal l.initial.store l.store
    (g.W.Write.contents l.initial.out) (g.W.Write.contents l.out)
