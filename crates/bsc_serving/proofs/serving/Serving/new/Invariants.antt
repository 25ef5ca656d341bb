-- So many places are free.
use Rattle.std.proofs.Common.{◌≡◌, None, replicate}
use Rattle.bsc_serving.proofs.serving.Serving.new.Given as goal

abbrev pub invariant-places : goal.invariant-places
invariant-places g l = l.places.items ≡ replicate l.counter None
