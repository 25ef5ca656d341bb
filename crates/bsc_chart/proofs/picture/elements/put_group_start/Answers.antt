-- The text is that of the definition.
use Rattle.std.proofs.Common.{append_assoc}
use Rattle.bsc_chart.proofs.picture.elements.put_group_start.Goals as goal

pub returns : goal.returns
returns g c = simp append_assoc c.in_ok-write.ensures.bytes
