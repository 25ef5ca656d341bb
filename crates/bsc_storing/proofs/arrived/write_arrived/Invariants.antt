-- What is printed from here on is the rest of what is printed in all.
use Rattle.std.proofs.Common.{List, Option, ℕ}
use Rattle.bsc_spool.specs.declared.store.Found.{Found}
use Rattle.bsc_storing.specs.Works.{PrintsFrom, PrintsLines}
use Rattle.bsc_storing.proofs.arrived.write_arrived.Given as goal

abbrev pub invariant-records : goal.invariant-records
invariant-records g l =
    (its : List Found) → (last : g.row.S.Denot) → (after : Option (List ℕ))
    → PrintsFrom g.S.Store l.channel l.form l.place.0 l.place.1 its l.store last
    (g.W.Write.contents l.out) after
    → PrintsLines g.S.Store l.channel l.first l.form l.initial.store last
    (g.W.Write.contents l.initial.out) after
