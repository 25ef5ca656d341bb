-- A record starts where the one before ends.
use Rattle.std.proofs.Common.{◌≡◌, suc, ◌-◌, arith, ap, sym, ◌∙◌}
use Rattle.bsc_block.specs.Pieces.{start_of}
use Rattle.bsc_block.proofs.Pieces.{start_after}
use Rattle.bsc_block.proofs.packed.start.Goals as goal

pub returns : goal.returns
returns c =
    let before : suc (c.args.place - 1) ≡ c.args.place = omega (arith, c.if-place-eq0.false) in
    sym (start_after 0 c.args.ends.now (c.args.place - 1) 0 (omega (arith, before, c.requires)))
    ∙ ap (λ i. start_of 0 c.args.ends.now i) before
