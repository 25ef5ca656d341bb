-- The loop of `assemble` takes all that was left where the input ends within a record.
use Rattle.std.proofs.Common.{◌<◌, List, ℕ, length, subst, arith, append-nil}
use Rattle.std.proofs.lemmas.List.{length-take}
use Rattle.std.specs.Io.KnownBytes.{Consumes}
use Rattle.std.proofs.KnownBytes.{Consumes-trans}
use Rattle.bsc_carrier.proofs.Reading.{wanted_some, begun_some, none_read}
use Rattle.bsc_carrier.proofs.record.assemble.Goals as goal

pub returns-then-count-eq0-clause-read : goal.returns-then-count-eq0-clause-read
returns-then-count-eq0-clause-read g c =
    let (partial, before, same) = c.reads.invariant in
    let begun : List ℕ = c.reads.assembler.begun in
    let some = wanted_some begun partial in
    let room : 0 < length c.read.new.buf =
    omega (
      arith,
      c.read.auto.buf,
      length-take c.wanted-wanted.result c.reads.piece,
      c.wanted-wanted.ensures,
      some,
    ) in
    let (read, ended) = c.in-Ok.ensures.bytes in
    let kept = Consumes-trans _ _ _ _ _ before (none_read _ _ _ _ c.if-count-eq0.true read) in (
      (
        begun,
        (begun_some begun c.if-between.ensures.1, partial),
        subst (Consumes _ _) (append-nil begun) kept,
      ),
      ended c.if-count-eq0.true room,
    )
