-- There are as many records as ends.
use Rattle.std.proofs.Common.{◌≡◌, length, ◌∙◌, ap, arith, sym}
use Rattle.bsc_block.proofs.Pieces.{length_pieces}
use Rattle.bsc_block.proofs.packed.Packed.len.Goals as goal

pub returns : goal.returns
returns g c =
    let long : length c.self.inside.ends.items ≡ length c.args.self.now.items =
    sym (length_pieces 0 c.self.inside.ends.items c.self.inside.chars.items)
    ∙ ap (λ v. length v.items) c.self.view_is in
    omega (arith, long, c.len.ensures, c.self.inside.ends.ok.0)
