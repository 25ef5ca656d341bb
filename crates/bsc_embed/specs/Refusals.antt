-- The answers to C of a release and of a recall. This is the project's own.
use Rattle.std.specs.Prelude.{Result, Ok, Err}
use Rattle.bsc_bid.specs.declared.sender.ReleaseError.{ReleaseError}
use Rattle.bsc_bid.specs.declared.kept.RecallError.{RecallError}
use Rattle.bsc_embed.specs.FromFaults.{release_fault, recall_fault}
use Rattle.bsc_embed.specs.declared.interface.fault.Fault.{Fault}

-- The doubt is released, or the fault is the reason for which it is not.
abbrev pub as_released : Result (Unit {0}) ReleaseError → Result (Unit {0}) Fault
as_released (Ok done) = Ok tt
as_released (Err e) = Err (release_fault e)

-- What was kept is recalled, or the fault is the reason for which it is not.
abbrev pub as_recalled : Result (Unit {0}) RecallError → Result (Unit {0}) Fault
as_recalled (Ok done) = Ok tt
as_recalled (Err e) = Err (recall_fault e)
