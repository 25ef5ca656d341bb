-- The records before this place have the expected characters.
use Rattle.std.proofs.Common.{◌≡◌, take}
use Rattle.test_fixtures.specs.Records.{values}
use Rattle.test_fixtures.proofs.records.are_front.Given as goal

abbrev pub invariant-loop-place : goal.invariant-loop-place
invariant-loop-place g l = take l.place (values l.expected) ≡ take l.place l.records.items
