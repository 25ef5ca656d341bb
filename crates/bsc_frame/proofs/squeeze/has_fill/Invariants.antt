-- The loop invariant of `has_fill`.
use Rattle.std.proofs.Common.{◌≡◌, take}
use Rattle.std.specs.List.{list_any}
use Rattle.bsc_frame.specs.Reading.{is_octet}
use Rattle.bsc_octet.specs.declared.controls.TheConstants.{SYN}
use Rattle.bsc_frame.proofs.squeeze.has_fill.Given as goal

abbrev pub invariant-loop-octet : goal.invariant-loop-octet
invariant-loop-octet l = l.found ≡ list_any (is_octet SYN) (take l.octet-index l.octets)
