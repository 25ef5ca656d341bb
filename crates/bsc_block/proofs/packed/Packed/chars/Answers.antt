-- A record that is seen has its end.
use Rattle.std.proofs.Common.{◌≡◌, length, ◌∙◌, ap, arith, sym}
use Rattle.bsc_block.proofs.Pieces.{length_pieces}
use Rattle.bsc_block.proofs.packed.Packed.chars.Goals as goal

pub part-requires-clause-place : goal.part-requires-clause-place
part-requires-clause-place g c =
    let long : length c.self.inside.ends.items ≡ length c.args.self.now.items =
    sym (length_pieces 0 c.self.inside.ends.items c.self.inside.chars.items)
    ∙ ap (λ v. length v.items) c.self.view_is in
    rw c.as_slice-2.ensures.value (omega (arith, long, c.requires))
