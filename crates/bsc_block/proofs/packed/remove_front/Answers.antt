-- The other elements are copied to the front.
use Rattle.std.proofs.Common.{◌∙◌, ◌-◌, vec_len, arith}
use Rattle.bsc_block.proofs.Removing.{copied_to_front}
use Rattle.bsc_block.proofs.packed.remove_front.Goals as goal

pub returns-clause-items : goal.returns-clause-items
returns-clause-items g c =
    rw c.copy_within.ensures.items at c.truncate.ensures.items
    ∙ copied_to_front (c.len.result - c.args.count) c.args.count (vec_len c.args.list.now)
    c.args.list.now.items (omega (arith, c.args.list.now.ok.0)) c.requires
    (omega (arith, c.len.ensures))
