-- The loop invariant of `lower`: the ends that the loop has passed are lower.
use Rattle.std.proofs.Common.{◌≡◌, ◌-◌, ◌++◌, map, take, drop}
use Rattle.bsc_block.proofs.packed.lower.Given as goal

abbrev pub invariant-loop-end : goal.invariant-loop-end
invariant-loop-end g l =
    l.end-items ≡ map (λ e. e - l.by) (take l.end-index l.initial.end-items)
    ++ drop l.end-index l.initial.end-items
