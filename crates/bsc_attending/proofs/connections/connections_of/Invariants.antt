-- The connections so far are over the directions so far.
use Rattle.std.proofs.Common.{◌≡◌, ◌++◌, map, Some}
use Rattle.std.specs.Vec.Iter.{into_iter_items}
use Rattle.bsc_attending.proofs.connections.connections_of.Given as goal

abbrev pub invariant-directions : goal.invariant-directions
invariant-directions g l = record {
  items : l.yielded ++ into_iter_items l.direction-iterator
      ≡ into_iter_items l.initial.direction-iterator;
  made : map (λ c. c.ends) l.connections.items ≡ map (λ d. Some d) l.yielded;
}
