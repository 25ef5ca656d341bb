-- The line is that of the octets so far.
use Rattle.std.proofs.Common.{◌≡◌, ◌≤◌, ◌+◌, ◌==◌, take}
use Rattle.std.specs.Prelude.{count_by}
use Rattle.bsc_config.proofs.reading.line_of.Given as goal

abbrev pub invariant-loop-octet : goal.invariant-loop-octet
invariant-loop-octet l = record {
  counted : l.line ≡ count_by (λ octet. octet == 10) (take l.octet-index l.octet-items) + 1;
  bounded : l.line ≤ l.octet-index + 1;
}
