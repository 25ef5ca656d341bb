-- The loop invariant of `assemble`, and why the loop ends.
use Rattle.std.proofs.Common.{◌≡◌, ◌-◌, length}
use Rattle.std.specs.Io.KnownBytes.{Consumes}
use Rattle.bsc_carrier.specs.Front.{IsPartial}
use Rattle.bsc_carrier.specs.declared.limits.TheConstants.{MAX_RECORD_OCTETS}
use Rattle.bsc_carrier.proofs.record.assemble.Given as goal

-- What has begun is what was read, and it is less than a record.
abbrev pub invariant-reads : goal.invariant-reads
invariant-reads g l =
    IsPartial l.assembler.begun × Consumes (g.R.Read.remaining l.initial.reader)
    (g.R.Read.remaining l.reader) l.assembler.begun × (l.octets ≡ l.initial.octets)

abbrev pub decreases-reads : goal.decreases-reads
decreases-reads g l = MAX_RECORD_OCTETS - length l.assembler.begun
