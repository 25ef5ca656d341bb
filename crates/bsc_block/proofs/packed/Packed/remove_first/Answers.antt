-- A record that is seen has its end.
use Rattle.std.proofs.Common.{◌≡◌, length, ◌∙◌, ap, arith, sym}
use Rattle.bsc_block.proofs.Pieces.{length_pieces}
use Rattle.bsc_block.proofs.packed.Packed.remove_first.Goals as goal

pub remove-requires-clause-there : goal.remove-requires-clause-there
remove-requires-clause-there g c =
    let long : length c.self.inside.ends.items ≡ length c.args.self.now.items =
    sym (length_pieces 0 c.self.inside.ends.items c.self.inside.chars.items)
    ∙ ap (λ v. length v.items) c.self.view_is in
    omega (arith, long, c.requires)
