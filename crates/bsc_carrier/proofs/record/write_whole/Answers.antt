-- The loop of `write_whole` writes the octets from front to back.
use Rattle.std.proofs.Common.{◌≡◌, ◌+◌, ◌-◌, ◌≤◌, ◌++◌, length, take, drop, sym, ap, ◌∙◌, subst}
use Rattle.std.proofs.Common.{arith}
use Rattle.std.proofs.lemmas.List.{take_rest, length-drop, drop-drop}
use Rattle.std.proofs.Math.Seq.{take-add}
use Rattle.std.specs.Io.KnownBytes.{Appends}
use Rattle.std.proofs.KnownBytes.{Appends-trans}
use Rattle.bsc_carrier.proofs.record.write_whole.Goals as goal

pub writes-preserved : goal.writes-preserved
writes-preserved g c =
    let (k, within, left, appended) = c.writes.invariant in
    let all = c.args.octets.now in
    let rest = c.writes.rest.now in
    let n = c.in-Ok.n in
    let rest_length : length rest ≡ length all - k = ap length left ∙ length-drop k all in
    let more = Appends-trans _ _ _ _ _ appended c.in-Ok.ensures.bytes in
    let joined : take k all ++ take n rest ≡ take (k + n) all =
    ap (λ l. take k all ++ take n l) left ∙ sym (take-add k n all) in
    let fits : k + n ≤ length all = omega (arith, rest_length, c.in-Ok.ensures.bound) in (
      k + n,
      fits,
      take_rest rest n ∙ ap (drop n) left ∙ drop-drop n k all,
      subst (Appends _ _) joined more,
    )
