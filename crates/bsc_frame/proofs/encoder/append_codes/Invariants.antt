-- The loop invariant of `append_codes`.
use Rattle.std.proofs.Common.{◌≡◌, ◌++◌, take, map}
use Rattle.bsc_octet.specs.Octet.{odd_octet}
use Rattle.bsc_frame.proofs.encoder.append_codes.Given as goal

abbrev pub invariant-loop-code : goal.invariant-loop-code
invariant-loop-code l = l.wire.items ≡ l.initial.wire.items
    ++ map odd_octet (take l.code-index l.codes)
